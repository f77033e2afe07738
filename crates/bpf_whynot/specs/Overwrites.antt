-- After which branch a value was overwritten that a kept move made, as the journal's entries tell it: the last conditional jump that the same call of the
-- function took before the first move that wrote in that place.
use Rattle.std.specs.Prelude.{ℕ, ◌+◌, ◌==◌, nat_lt, if◌then◌else◌, Bool, true, false, List, [], ◌∷◌, Option, Some, None}
use Rattle.std.specs.Option.{option_and_then, option_map_or}
use Rattle.bpf_entries.specs.Before.{depth_before}
use Rattle.bpf_entries.specs.Keeping.{Kept}
use Rattle.bpf_entries.specs.declared.entry.Entry.{Entry}
use Rattle.bpf_entries.specs.declared.entry.Entry.TheVariants as entry
use Rattle.bpf_isa.specs.Programs.{Checked, insn_at}
use Rattle.bpf_isa.specs.declared.instruction.Insn.{Insn}
use Rattle.bpf_isa.specs.declared.instruction.Insn.TheVariants.{JumpIf}
use Rattle.bpf_origin.specs.declared.place.Part.{Part}
use Rattle.bpf_origin.specs.declared.place.Part.TheVariants as part
use Rattle.bpf_whynot.specs.Answers.{made_parts}
use Rattle.bpf_whynot.specs.declared.made.Made.{Made}
use Rattle.bpf_whynot.specs.declared.over.Over.{Over}
use Rattle.bpf_whynot.specs.declared.over.Over.TheVariants.{By, Unwritten, Written}

-- Where a move made it: the one part that its instruction writes.
abbrev pub first_part : List Part → Option Part
first_part [] = None
first_part (p ∷ ps) = Some p

abbrev pub part_made : Checked → Made → Option Part
part_made program m = option_and_then (λ i. first_part (made_parts m.depth i)) (insn_at program m.slot)

-- A step of that function wrote there: it replaced that register, or bytes from that address on.
abbrev pub replaces : ℕ → Entry → Bool
replaces r (entry.Register pc q v) = q == r
replaces r e = false

abbrev pub stores : ℕ → Entry → Bool
stores a (entry.Store pc b old) = b == a
stores a e = false

abbrev pub writes : Part → Entry → Bool
writes (part.Register d r) e = replaces r e
writes (part.Bytes a n) e = stores a e
writes (part.Word i) e = false

abbrev pub writes_there : Option Part → Entry → Bool
writes_there None e = false
writes_there (Some p) e = writes p e

-- It took a conditional jump.
abbrev pub is_conditional : Insn → Bool
is_conditional (JumpIf condition width dst source offset) = true
is_conditional i = false

abbrev pub took_branch : Checked → Entry → Bool
took_branch program (entry.Jump pc) = option_map_or is_conditional (insn_at program pc) false
took_branch program e = false

-- What is known of the moves behind one, the newest first, where this one is the next older: that none wrote there; that one did, and no branch lies
-- before the oldest that did; which branch does, by how many moves it lies back. Behind where the function returned nothing counts.
abbrev pub passed : Bool → ℕ → Over → Over
passed true n Written = By (n + 1)
passed took n over = over

abbrev pub at_depth : Checked → Option Part → ℕ → Entry → Over → Over
at_depth program place n e over = if writes_there place e then Written else passed (took_branch program e) n over

abbrev pub seen : Checked → Option Part → ℕ → ℕ → ℕ → Entry → Over → Over
seen program place own n d e over =
    if nat_lt d own then Unwritten else if d == own then at_depth program place n e over else over

-- So of all that lie behind the move which made it, where n of them and functions of depth d lie behind these.
abbrev pub over_after : Checked → Made → ℕ → ℕ → List Kept → Over → Over
over_after program m n d [] over = over
over_after program m n d (k ∷ ks) over =
    if n + 1 == m.moves then over
    else over_after program m (n + 1) (depth_before d k.0) ks (seen program (part_made program m) m.depth n d k.0 over)

-- The branch, if there is one.
abbrev pub branch_of : Over → Option ℕ
branch_of (By n) = Some n
branch_of over = None

abbrev pub branch_over : Checked → Made → ℕ → List Kept → Option ℕ
branch_over program m d es = branch_of (over_after program m 0 d es Unwritten)

abbrev pub with_branch : Checked → ℕ → List Kept → Option Made → Option Made
with_branch program d es None = None
with_branch program d es (Some m) = Some (record m { branch = branch_over program m d es })
