-- What lines behind the head of a piece say of the link of an object. bpfdb's own choice.
use Rattle.std.specs.Prelude.{ℕ, Bool, ◌==◌, ◌&&◌, ◌||◌, if◌then◌else◌, List, [], ◌∷◌, filter_map, length, Option, Some, None, is_some}
use Rattle.std.specs.List.{list_all, slice_split}
use Rattle.counted_io.specs.Cuts.{after}
use Rattle.counted_io.specs.Lines.{trim_start}
use Rattle.input_texts.specs.Heads.{head_of, is_head}
use Rattle.input_texts.specs.Words.{is_option, is_word}
use Rattle.input_texts.specs.declared.head.Head.{Head}
use Rattle.input_texts.specs.declared.word.Word.{Word}

-- The lines of a text.
abbrev pub lines_of : List ℕ → List (List ℕ)
lines_of body = slice_split (λ b. b == 10) body

-- What a line says of a link, if it does.
abbrev pub option_in : List ℕ → Option Head
option_in line = if is_head line && is_option (head_of line).word then Some (head_of line) else None

abbrev pub options_in : List ℕ → List Head
options_in body = filter_map option_in (lines_of body)

-- Whether each line is blank, or says something of a link; and whether each is blank.
abbrev pub is_bare : List ℕ → Bool
is_bare line = length (trim_start line) == 0

abbrev pub is_fine : List ℕ → Bool
is_fine line = is_bare line || is_some (option_in line)

abbrev pub are_fine : List ℕ → Bool
are_fine body = list_all is_fine (lines_of body)

abbrev pub are_bare : List ℕ → Bool
are_bare body = list_all is_bare (lines_of body)

-- Of a piece the lines behind its head count.
abbrev pub option_lines : List ℕ → List Head
option_lines piece = options_in (after 10 piece)

abbrev pub are_options : List ℕ → Bool
are_options piece = are_fine (after 10 piece)

abbrev pub is_empty : List ℕ → Bool
is_empty piece = are_bare (after 10 piece)

-- What stands behind a word.
abbrev pub value_if : Word → Head → Option (List ℕ)
value_if word head = if is_word word head.word then Some head.value else None

abbrev pub values_of : Word → List Head → List (List ℕ)
values_of word options = filter_map (value_if word) options

-- One that stands once at most: None where it stands more often.
abbrev pub once_of : List (List ℕ) → Option (Option (List ℕ))
once_of [] = Some None
once_of (value ∷ []) = Some (Some value)
once_of (value ∷ other ∷ more) = None
