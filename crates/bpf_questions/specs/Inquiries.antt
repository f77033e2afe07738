-- Lines that ask. bpfdb's own choice.
use Rattle.std.specs.Prelude.{◌≡◌, ℕ, nat_lt, Bool, List, [], ◌∷◌, length, Option, Some, None, Result, Ok, Err, if◌then◌else◌}
use Rattle.std.specs.Borrow.{Bor}
use Rattle.std.specs.Str.{bytes_eq}
use lib.Chars.{codes}
use Rattle.bpfdb_script.specs.Limits.{longest_line}
use Rattle.bpfdb_script.specs.Lines.{tokens}
use Rattle.bpfdb_script.specs.declared.refusal.Refusal.{Refusal}
use Rattle.bpfdb_script.specs.declared.refusal.Refusal.TheVariants.{WrongArgument}
use Rattle.bpf_questions.specs.declared.inquiry.Topic.{Topic}
use Rattle.bpf_questions.specs.declared.inquiry.Topic.TheVariants.{Origin, Whynot}

-- What the words of a line ask, and the words behind the question's name.
abbrev pub inquiry_by : List (List ℕ) → Option (Topic × List (List ℕ))
inquiry_by [] = None
inquiry_by (word ∷ words) =
    if bytes_eq word (codes "origin") then Some (Origin, words)
    else if bytes_eq word (codes "whynot") then Some (Whynot, words)
    else None

-- A line that is too long to be read asks nothing, and none does where lines may not.
abbrev pub inquiry_of : List ℕ → Option (Topic × List (List ℕ))
inquiry_of line = if nat_lt longest_line (length line) then None else inquiry_by (tokens line)

abbrev pub asked_in : Bool → List ℕ → Option (Topic × List (List ℕ))
asked_in asks line = if asks then inquiry_of line else None

-- It is asked about one word, or none; more are a wrong argument.
abbrev pub what_by : List (List ℕ) → Result (List ℕ) Refusal
what_by [] = Ok []
what_by (word ∷ []) = Ok word
what_by (word ∷ next ∷ more) = Err WrongArgument

abbrev pub IsWhat : Result (List ℕ) Refusal → Result (Bor (List ℕ)) Refusal → Type 0
IsWhat (Ok text) (Ok word) = word.now ≡ text
IsWhat (Err refusal) (Err why) = why ≡ refusal
IsWhat _ _ = ⊥
