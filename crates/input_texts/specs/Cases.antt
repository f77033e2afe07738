-- Lines of cases: what a line says, and why it is no case. bpfdb's own choice.
use Rattle.std.specs.Prelude.{ℕ, Bool, nat_lt, if◌then◌else◌, List, [], codes, drop, length, take, Option, Some, None, Result, Ok, Err}
use Rattle.std.specs.List.{position_or_len}
use Rattle.std.specs.Result.{result_ok}
use Rattle.std.specs.Str.{bytes_eq}
use Rattle.hex.specs.Hex.{decode_of}
use Rattle.counted_io.specs.Cuts.{trim}
use Rattle.counted_io.specs.Lines.{is_blank, trim_start}
use Rattle.input_texts.specs.declared.case_fault.CaseFault.{CaseFault}
use Rattle.input_texts.specs.declared.case_fault.CaseFault.TheVariants.{Long, NotHexadecimal}

-- The most bytes of a line: 2 MiB. The longest program and the longest context have 1,179,632 digits.
abbrev pub longest_line : ℕ
longest_line = 2_097_152

-- A fault's number, which is printed after B, and its text.
abbrev pub case_fault : CaseFault → ℕ × List ℕ
case_fault Long = (1, codes "line too long")
case_fault NotHexadecimal = (2, codes "not hexadecimal")

-- A case: the words of its program, unless that is the one which cases share, and its context.
pub record CaseValue : Type 0 where
  pub is_shared : Bool
  pub words : List ℕ
  pub context : List ℕ

-- What stands before the first blank of a text, and what behind the blanks there.
abbrev pub first_word : List ℕ → List ℕ
first_word text = take (position_or_len is_blank text) text

abbrev pub rest_of : List ℕ → List ℕ
rest_of text = trim_start (drop (position_or_len is_blank text) text)

-- A minus sign stands for the shared program; any other word is the bytes of words, two digits each.
abbrev pub is_shared : List ℕ → Bool
is_shared word = bytes_eq word (codes "-")

abbrev pub own_digits : List ℕ → List ℕ
own_digits word = if is_shared word then [] else word

abbrev pub bytes_of : List ℕ → Option (List ℕ)
bytes_of digits = result_ok (decode_of digits)

abbrev pub case_in : Bool → Option (List ℕ) → Option (List ℕ) → Result CaseValue CaseFault
case_in is_shared (Some words) (Some context) = Ok (record { is_shared = is_shared; words = words; context = context })
case_in is_shared (Some words) None = Err NotHexadecimal
case_in is_shared None context = Err NotHexadecimal

-- A line has the words first, and then, behind blanks, the context, which may be absent: it is empty then.
abbrev pub case_in_text : List ℕ → Result CaseValue CaseFault
case_in_text text = case_in (is_shared (first_word text)) (bytes_of (own_digits (first_word text))) (bytes_of (rest_of text))

abbrev pub case_of : List ℕ → Result CaseValue CaseFault
case_of line = case_in_text (trim line)

-- One that is too long is none, whatever it says.
abbrev pub read_case : List ℕ → Result CaseValue CaseFault
read_case line = if nat_lt longest_line (length line) then Err Long else case_of line
