-- Scaffolding: no public contract cites this. Slots as they are marked, step by step.
use Rattle.std.specs.Prelude.{◌≡◌, ℕ, ◌||◌, ◌<◌, Bool, not, List, length, get_or, slice_set}
use Rattle.bpf_steps.specs.State.{State}
use Rattle.bpf_cover.specs.Coverage.{jumped, went_on}
use Rattle.bpf_cover.specs.declared.coverage.Mark.{Mark}

-- One more step at a slot, and at its place among all. (Behind the last slot there is none, and d is never read.)
abbrev pub with_step : Bool → Mark → Mark
with_step on mark = record {
  starts = mark.starts;
  forks = mark.forks;
  went_on = mark.went_on || on;
  jumped = mark.jumped || not on;
}

abbrev pub stepped : ℕ → Bool → List Mark → Mark → List Mark
stepped slot on marks d = slice_set marks slot (with_step on (get_or marks slot d))

-- Each slot is marked by its steps.
abbrev pub with_steps : List State → ℕ → Mark → Mark
with_steps xs slot mark = record {
  starts = mark.starts;
  forks = mark.forks;
  went_on = mark.went_on || went_on xs slot;
  jumped = mark.jumped || jumped xs slot;
}

pub record IsMarked (xs : List State) (old new : List Mark) : Type 0 where
  pub size : length new ≡ length old
  pub each : (slot : ℕ) (d : Mark) → slot < length old → get_or new slot d ≡ with_steps xs slot (get_or old slot d)
