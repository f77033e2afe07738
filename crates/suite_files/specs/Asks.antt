-- What a section asks of an object: the heads behind its own, as `link` takes such options. bpfdb's own choice.
use Rattle.std.specs.Prelude.{ℕ, ◌≡◌, ◌⊎◌, ◌≤◌, ◌<◌, nat_le, Bool, true, false, not, ◌&&◌, if◌then◌else◌, List, [], Vec, Option, Some, None, codes, get_or, is_some, length}
use Rattle.std.specs.Borrow.{Bor}
use Rattle.std.specs.List.{All, list_all}
use Rattle.std.specs.Str.{IsUtf8, bytes_eq}
use Rattle.std.specs.declared.alloc.Global.{Global}
use Rattle.bpf_load.specs.Targets.{texts}
use Rattle.bpf_packet.specs.declared.packet.Packet.{Packet}
use Rattle.bpf_packet.specs.declared.packet.Packet.TheVariants.{Xdp, Tc}
use Rattle.suite_files.specs.declared.asked.Asked.{Asked}
use Rattle.suite_files.specs.declared.asked.Given.{Given}
use Rattle.suite_files.specs.declared.asked.Listed.{Listed}
use Rattle.input_texts.specs.Heads.{head_of}
use Rattle.input_texts.specs.Options.{are_options, once_of, option_lines, values_of}
use Rattle.input_texts.specs.Turns.{has_place, offset_in}
use Rattle.input_texts.specs.declared.word.Word.{Word}
use Rattle.input_texts.specs.declared.word.Word.TheVariants as word

-- The kernel's struct by which the entry takes the packet.
abbrev pub packet_in : Option (List ℕ) → Option (Option Packet)
packet_in None = Some None
packet_in (Some name) =
    if bytes_eq name (codes "xdp") then Some (Some Xdp) else if bytes_eq name (codes "tc") then Some (Some Tc) else None

-- What stands behind a word, each time; and what stands once at most.
abbrev pub said_of : Word → List ℕ → List (List ℕ)
said_of w piece = values_of w (option_lines piece)

abbrev pub all_given : Option (Option (List ℕ)) → Option (Option (List ℕ)) → Option (Option (List ℕ)) → Option (Option (List ℕ)) → Option Given
all_given (Some section) (Some stubs) (Some structs) (Some left) = Some (record { section = section; stubs = stubs; structs = structs; left = left })
all_given _ _ _ _ = None

abbrev pub given_in : List ℕ → Option Given
given_in piece =
    all_given (once_of (said_of word.Section piece)) (once_of (said_of word.Stub piece)) (once_of (said_of word.Struct piece))
    (once_of (said_of word.AsCompiled piece))

-- A text as a string, if there is one, and texts as strings: none where one isn't UTF-8.
abbrev pub IsStr : Option (List ℕ) → Option (Option (Bor (List ℕ))) → Type 0
IsStr None found = found ≡ Some None
IsStr (Some text) None = IsUtf8 text → ⊥
IsStr (Some text) (Some None) = ⊥
IsStr (Some text) (Some (Some str)) = (str.now ≡ text) × IsUtf8 text

pub record AreStrs (all : List (List ℕ)) (strs : List (Bor (List ℕ))) : Type 0 where
  pub same : texts strs ≡ all
  pub utf8 : All IsUtf8 all

pub record LacksStr (all : List (List ℕ)) : Type 0 where
  pub k : ℕ
  pub inside : k < length all
  pub why : IsUtf8 (get_or all k []) → ⊥

abbrev pub StrsOrNone : List (List ℕ) → Option (Vec (Bor (List ℕ)) Global) → Type 0
StrsOrNone all None = LacksStr all
StrsOrNone all (Some strs) = AreStrs all strs.items

-- `-- with` and `-- entry` stand so often at most, and the place of each program fits.
abbrev pub most_texts : ℕ
most_texts = 16

abbrev pub has_offset : List ℕ → Bool
has_offset text = is_some (offset_in text)

abbrev pub entries_fit : List (List ℕ) → Bool
entries_fit entries = nat_le (length entries) most_texts && list_all has_offset entries

abbrev pub AreFit : (List (List ℕ) → Bool) → List (List ℕ) → Option (Vec (Bor (List ℕ)) Global) → Type 0
AreFit fit all None = LacksStr all ⊎ (fit all ≡ false)
AreFit fit all (Some strs) = AreStrs all strs.items × (fit all ≡ true)

-- What is listed by those that stand several times; none where it doesn't fit, or isn't UTF-8.
pub record Lists (piece : List ℕ) (listed : Listed) : Type 0 where
  pub with : listed.with.items ≡ said_of word.With piece
  pub few : length (said_of word.With piece) ≤ most_texts
  pub entries : AreFit entries_fit (said_of word.Entry piece) (Some listed.entries)

abbrev pub ListsNothing : List ℕ → Type 0
ListsNothing piece = (most_texts < length (said_of word.With piece)) ⊎ AreFit entries_fit (said_of word.Entry piece) None

abbrev pub IsListed : List ℕ → Option Listed → Type 0
IsListed piece None = ListsNothing piece
IsListed piece (Some listed) = Lists piece listed

-- What is asked.
pub record Asks (piece : List ℕ) (asked : Asked) : Type 0 where
  pub lines : are_options piece ≡ true
  pub given : Given
  pub is_given : given_in piece ≡ Some given
  pub listed : Listed
  pub lists : Lists piece listed
  pub object : asked.object ≡ (head_of piece).value
  pub with : asked.with ≡ listed.with
  pub section : asked.section ≡ given.section
  pub entries : asked.entries ≡ listed.entries
  pub stubs : IsStr given.stubs (Some asked.stubs)
  pub packet : packet_in given.structs ≡ Some asked.packet

-- Nothing is: a line is none that it takes, something stands more than once, there is no such struct, the list of stubs isn't UTF-8, or nothing is listed.
abbrev pub AsksNothing : List ℕ → Type 0
AsksNothing piece = (are_options piece ≡ false) ⊎ ((given_in piece ≡ None)
    ⊎ (((given : Given) × (given_in piece ≡ Some given) × ((packet_in given.structs ≡ None) ⊎ IsStr given.stubs None))
    ⊎ ListsNothing piece))

abbrev pub IsAsked : List ℕ → Option Asked → Type 0
IsAsked piece None = AsksNothing piece
IsAsked piece (Some asked) = Asks piece asked

-- Programs are called in turn where several are named, or of the one it is said where its context lies; without them the entry is the one that is named.
abbrev pub names_one : List (List ℕ) → Bool
names_one entries = nat_le (length entries) 1 && list_all (λ text. not (has_place text)) entries

abbrev pub turns_in : List (List ℕ) → List (List ℕ)
turns_in entries = if names_one entries then [] else entries

abbrev pub entry_in : List (List ℕ) → List ℕ
entry_in entries = if names_one entries then get_or entries 0 [] else []
