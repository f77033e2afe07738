use Rattle.std.proofs.Common.{◌≡◌, ◌<◌, ℕ, false}
use Rattle.std.specs.Prelude.{slice_index_or}
use Rattle.bpf_origin.specs.Marks.{is_marked, mark_of}
use Rattle.bpf_origin.specs.declared.place.Place.{Place}
use Rattle.bpf_origin.proofs.marks.Marks.unmark.Given as goal

abbrev pub invariant-loop-place : goal.invariant-loop-place
invariant-loop-place l = (k : ℕ) (d : Place) → k < l.place-index → is_marked l.self (mark_of (slice_index_or l.places k d)) ≡ false
