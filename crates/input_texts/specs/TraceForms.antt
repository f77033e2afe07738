-- The lines of a trace of another machine, in one of two forms. bpfdb's own choice.
use Rattle.std.specs.Prelude.{ℕ, Bool, false, not, ◌==◌, ◌&&◌, ◌||◌, if◌then◌else◌, List, [], ◌∷◌, Option, Some, None, codes, drop, is_some, length, map, nat_lt, ◌-◌}
use Rattle.std.specs.List.{filter, list_all, slice_split}
use Rattle.std.specs.Option.{option_and_then, option_map_or}
use Rattle.std.specs.Str.{bytes_eq}
use Rattle.counted_io.specs.Cuts.{trim}
use Rattle.counted_io.specs.Lines.{is_blank, lines}
use Rattle.counted_io.specs.Numerals.{as_u64, natural}
use Rattle.input_texts.specs.declared.trace_form.Form.{Form}
use Rattle.input_texts.specs.declared.trace_form.Form.TheVariants.{Steps, Registers}

-- The lines that tell something, without blanks around them: not those that are blank, and no remarks, which a `#` (35) begins.
abbrev pub tells : List ℕ → Bool
tells [] = false
tells (b ∷ line) = not (b == 35)

abbrev pub told_of : List (List ℕ) → List (List ℕ)
told_of all = filter tells (map trim all)

abbrev pub told : List ℕ → List (List ℕ)
told file = told_of (lines file)

-- A line is cut into words at blanks; some are numbers below 2^64.
abbrev pub words_of : List ℕ → List (List ℕ)
words_of line = filter (λ part. nat_lt 0 (length part)) (slice_split is_blank line)

abbrev pub number : List ℕ → Option ℕ
number word = option_and_then as_u64 (natural word)

-- A line of registers: the slot and r0 to r10, each a number below 2^64, or `-` where it isn't told.
abbrev pub is_untold : List ℕ → Bool
is_untold word = bytes_eq word (codes "-")

unfoldable pub is_value : List ℕ → Bool
is_value word = is_untold word || is_some (number word)

-- Such a word tells a number: it is that, or `-`.
unfoldable pub is_told : ℕ → List ℕ → Bool
is_told n word = is_untold word || option_map_or (λ m. m == n) (number word) false

abbrev pub are_values : List (List ℕ) → Bool
are_values words = length words == 12 && list_all is_value words

-- A line of `trace`: of a step, by its number and its slot, behind which a colon stands; or of the end.
abbrev pub is_place : List ℕ → Bool
is_place word = bytes_eq (drop (length word - 1) word) (codes ":")

abbrev pub is_end : List ℕ → Bool
is_end word = bytes_eq word (codes "exited") || (bytes_eq word (codes "fault") || bytes_eq word (codes "step"))

abbrev pub are_of_trace : List (List ℕ) → Bool
are_of_trace [] = false
are_of_trace (first ∷ []) = false
are_of_trace (first ∷ second ∷ rest) = is_end first || (is_some (number first) && is_place second)

-- Whether a line has a form; the form of a line, and that of a trace, which its first line has. Where nothing is told it has that of `trace`.
unfoldable pub fits : Form → List ℕ → Bool
fits Steps line = are_of_trace (words_of line)
fits Registers line = are_values (words_of line)

abbrev pub form_of : List ℕ → Option Form
form_of line = if fits Registers line then Some Registers else if fits Steps line then Some Steps else None

abbrev pub form_in : List (List ℕ) → Option Form
form_in [] = Some Steps
form_in (line ∷ rest) = form_of line
