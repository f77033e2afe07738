-- The lines of an answer of `origin` with the names of the places that they tell. bpfdb's own choice.
use Rattle.std.specs.Prelude.{ℕ, suc, ◌+◌, ◌==◌, nat_lt, Bool, false, ◌&&◌, if◌then◌else◌, List, [], ◌∷◌, ◌++◌, drop, flat_map, length, take, codes, Option, Some, None}
use Rattle.std.specs.Option.{option_and_then}
use Rattle.std.specs.Str.{bytes_eq}
use Rattle.counted_io.specs.Cuts.{after, before, cut}
use Rattle.counted_io.specs.Lines.{lines, onto_line}
use Rattle.counted_io.specs.Numerals.{as_u64, natural}
use Rattle.bpf_isa.specs.Checker.{most_slots}
use Rattle.bpf_link.specs.Parts.{slots_in}
use Rattle.bpf_lines.specs.NamedMaps.{located, name_text}
use Rattle.bpf_lines.specs.Objects.{entry_slots}
use Rattle.bpf_lines.specs.declared.place_names.Located.{Located}
use Rattle.bpf_lines.specs.declared.place_names.Names.{Names}

-- A text is cut at blanks (32) into words, as it is cut into lines.
abbrev pub words : List ℕ → List (List ℕ)
words [] = []
words (b ∷ bytes) = if b == 32 then [] ∷ words bytes else onto_line b (words bytes)

-- The address that a text is, and the byte of a map there.
abbrev pub number : List ℕ → Option ℕ
number text = option_and_then as_u64 (natural text)

abbrev pub located_by : Names → Option ℕ → Option Located
located_by names None = None
located_by names (Some address) = located names.maps.items address

-- Bytes are told as `ADDRESS:COUNT`, with a colon (58) between; the first word that tells some of a map counts.
abbrev pub bytes_by : Names → Option (List ℕ × List ℕ) → Option Located
bytes_by names None = None
bytes_by names (Some sides) = located_by names (number sides.0)

abbrev pub bytes_in : Names → List ℕ → Option Located
bytes_in names word = bytes_by names (cut 58 word)

abbrev pub or_in : Option Located → Option Located → Option Located
or_in None other = other
or_in (Some at) other = Some at

abbrev pub first_in : Names → List (List ℕ) → Option Located
first_in names [] = None
first_in names (word ∷ words) = or_in (bytes_in names word) (first_in names words)

-- A line `left PLACE ..` tells bytes by its second word.
unfoldable pub told_in : Names → List ℕ → Option Located
told_in names line =
    if bytes_eq (before 32 line) (codes "left") then located_by names (number (before 58 (before 32 (after 32 line))))
    else first_in names (words (after 32 line))

-- The slot that a line `-MOVES PART = VALUE; SLOT: ..` of one part tells, between its first semicolon (59) and the colon (58) behind that.
abbrev pub told_slot : List ℕ → Option ℕ
told_slot line = number (before 58 (after 32 (after 59 line)))

-- The stores that give variables their bytes at the start stand behind the program's code, which then begins at slot 1, or one behind the words that
-- give it its packet.
abbrev pub code_end : Names → ℕ
code_end names = entry_slots names.packet + (slots_in names.plan.parts.code + slots_in names.plan.parts.text)

abbrev pub is_setup : Names → Option ℕ → Bool
is_setup names None = false
is_setup names (Some slot) = nat_lt (code_end names) slot && nat_lt slot most_slots

-- The name tells where bytes lie, or what one of those stores gives its bytes.
abbrev pub way_text : Bool → List ℕ
way_text setup = if setup then codes "; initial value of " else codes "; in "

abbrev pub told_text : Names → List ℕ → Option Located → List ℕ
told_text names line None = []
told_text names line (Some at) = way_text (is_setup names (told_slot line)) ++ name_text names at

-- A line may end with its place in C, which begins where these words stand first. The name stands before that, and only what stands there is read.
abbrev pub place_words : List ℕ
place_words = codes "; in "

unfoldable pub begins : List ℕ → List ℕ → Bool
begins words s = bytes_eq (take (length words) s) words

abbrev pub place_at : List ℕ → ℕ
place_at [] = 0
place_at (b ∷ s) = if begins place_words (b ∷ s) then 0 else suc (place_at s)

unfoldable pub named_by : Names → List ℕ → List ℕ → List ℕ
named_by names told place = told ++ told_text names told (told_in names told) ++ place ++ codes "\n"

abbrev pub named_line : Names → List ℕ → List ℕ
named_line names line = named_by names (take (place_at line) line) (drop (place_at line) line)

abbrev pub named_text : Names → List ℕ → List ℕ
named_text names text = flat_map (named_line names) (lines text)
