-- The texts of rows.
use Rattle.std.proofs.Common.{◌≡◌, ℕ, Bool, List, ap}
use Rattle.std.proofs.lemmas.List.{append-nil}
use Rattle.std.proofs.lemmas.List.Folds.{flat_map-map}
use Rattle.bpf_steps.specs.State.{State}
use Rattle.bpfdb_script.specs.SlotTexts.{SlotTexts}
use Rattle.bpf_origin.specs.Answers.{cut_at, rows_left, told}
use Rattle.bpf_origin.specs.Rows.{cut_text, row_text, text_of_rows}
use Rattle.bpf_origin.specs.Rows.Row.{Left}
use Rattle.bpf_origin.specs.Texts.{left_text, parts_left}
use Rattle.bpf_origin.specs.declared.place.Place.{Place}
use Rattle.bpf_origin.specs.declared.question.Extent.{Extent}
use Rattle.bpf_origin.specs.declared.question.Question.{Question}

-- an answer that is cut at once
pub told_cut : (q : Question) (e : Extent) → told q (cut_at e) ≡ record { text = cut_text e; extent = e }
told_cut q e = ap (λ (t : List ℕ). record { text = t; extent = e }) (append-nil (cut_text e))

-- the places that are left
pub told_left : (places : SlotTexts) (opening : Bool) (y : State) (wanted : List Place) → text_of_rows places (rows_left opening y wanted) ≡ left_text opening y wanted
told_left places opening y wanted = flat_map-map (row_text places) (Left opening y) (parts_left wanted)
