-- The text of an entry: its bytes in a journal. Bpfdb's own choice. All numbers are little-endian.
use Rattle.std.specs.Prelude.{ℕ, ◌+◌, Bool, if◌then◌else◌, List, [], ◌∷◌, ◌++◌, length}
use Rattle.byteorder.specs.Endian.{little_bytes}
use Rattle.bpf_entries.specs.declared.entry.Entry.{Entry}
use Rattle.bpf_entries.specs.declared.entry.Entry.TheVariants as entry
use Rattle.bpf_entries.specs.declared.status.Fault.TheVariants.{Access, Token, Depth}
use Rattle.bpf_entries.specs.declared.status.Status.{Status}
use Rattle.bpf_entries.specs.declared.status.Status.TheVariants.{Running, Exited, Faulted}
use Rattle.bpf_entries.specs.Weights.{weight}

-- A slot has two bytes, a number or an address eight.
abbrev pub slot : ℕ → List ℕ
slot pc = little_bytes 2 pc

abbrev pub number : ℕ → List ℕ
number n = little_bytes 8 n

-- Numbers, one after another.
abbrev pub numbers : List ℕ → List ℕ
numbers [] = []
numbers (n ∷ ns) = number n ++ numbers ns

-- A status: its kind, and the address or the token of a fault.
abbrev pub status_text : Status → List ℕ
status_text Running = 0 ∷ number 0
status_text Exited = 1 ∷ number 0
status_text (Faulted (Access a)) = 2 ∷ number a
status_text (Faulted (Token token)) = 3 ∷ number token
status_text (Faulted Depth) = 4 ∷ number 0

-- The kind of an entry.
abbrev pub kind : Entry → ℕ
kind (entry.Register pc r value) = 1
kind (entry.Jump pc) = 2
kind (entry.Call pc old) = 3
kind (entry.Return pc saved) = 4
kind (entry.Store pc a old) = 5
kind (entry.Fetch pc r value a old) = 6
kind (entry.Cell pc r0 a old) = 7
kind (entry.Trace pc r0) = 8
kind entry.End = 9
kind (entry.EditRegister r value) = 10
kind (entry.EditBytes a old) = 11
kind (entry.EditPc pc status) = 12

-- Its tag: the kind, and 128 more where it is marked.
abbrev pub tag : ℕ → Bool → ℕ
tag kind mark = if mark then kind + 128 else kind

-- Its parts.
abbrev pub body : Entry → List ℕ
body (entry.Register pc r value) = slot pc ++ (r ∷ number value)
body (entry.Jump pc) = slot pc
body (entry.Call pc old) = slot pc ++ old
body (entry.Return pc saved) = slot pc ++ numbers saved
body (entry.Store pc a old) = slot pc ++ (number a ++ (length old ∷ old))
body (entry.Fetch pc r value a old) = slot pc ++ (r ∷ (number value ++ (number a ++ (length old ∷ old))))
body (entry.Cell pc r0 a old) = slot pc ++ (number r0 ++ (number a ++ old))
body (entry.Trace pc r0) = slot pc ++ number r0
body entry.End = []
body (entry.EditRegister r value) = r ∷ number value
body (entry.EditBytes a old) = number a ++ old
body (entry.EditPc pc status) = slot pc ++ status_text status

-- How many bytes the entry has, its tag, its parts, and again how many bytes it has: so a journal is cut into entries in one way, from
-- the front and from the back.
abbrev pub text : Entry → Bool → List ℕ
text e mark = little_bytes 2 (weight e) ++ (tag (kind e) mark ∷ (body e ++ little_bytes 2 (weight e)))
