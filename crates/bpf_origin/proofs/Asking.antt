-- The answer about parts, by whether there is room for all of them.
use Rattle.std.proofs.Common.{◌≡◌, ◌≤◌, ◌<◌, ℕ, Bool, true, false, List, [], length, ap, ◌∙◌, arith}
use Rattle.std.specs.Prelude.{nat_lt, if◌then◌else◌}
use Rattle.std.proofs.lemmas.Bool.Decides.{nat_tests}
use Rattle.bpf_journal.specs.Histories.{Record}
use Rattle.bpf_steps.specs.State.{State}
use Rattle.bpf_origin.specs.declared.place.Part.{Part}
use Rattle.bpf_origin.specs.declared.question.Question.{Question}
use Rattle.bpf_origin.specs.declared.question.Extent.TheVariants.{Places}
use Rattle.bpf_origin.specs.Answers.{Answer, answer, cut_at, rows_from, told}
use Rattle.bpf_origin.specs.Asked.{answer_about}
use Rattle.bpf_origin.specs.Texts.{places_text}
use Rattle.bpf_origin.specs.Wanted.{most_places, want_parts}
use Rattle.bpf_origin.proofs.Telling.{told_cut}

lt_true : (a b : ℕ) → a < b → nat_lt a b ≡ true
lt_true a b h = grind (arith, nat_tests)

lt_false : (a b : ℕ) → b ≤ a → nat_lt a b ≡ false
lt_false a b h = grind (arith, nat_tests)

abbrev by_room : Question → List Part → List Record → State → Bool → Answer
by_room q parts h y full = told q (if full then cut_at Places else rows_from q 0 q.lines (want_parts [] parts) h y)

pub about_full : (q : Question) (parts : List Part) (h : List Record) (y : State) → most_places < length (want_parts [] parts) → answer_about q parts h y ≡ record { text = places_text; extent = Places }
about_full q parts h y full = ap (by_room q parts h y) (lt_true most_places (length (want_parts [] parts)) full) ∙ told_cut q Places

pub about_room : (q : Question) (parts : List Part) (h : List Record) (y : State) → length (want_parts [] parts) ≤ most_places → answer_about q parts h y ≡ answer q 0 q.lines (want_parts [] parts) h y
about_room q parts h y fits = ap (by_room q parts h y) (lt_false most_places (length (want_parts [] parts)) fits)
