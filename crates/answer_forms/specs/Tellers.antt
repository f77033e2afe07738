-- Scaffolding: which line tells a place, while lines are gone through. No public contract cites this.
use Rattle.std.specs.Prelude.{ℕ, ◌==◌, if◌then◌else◌, List, Option, Some}
use Rattle.std.specs.List.{list_any}

-- Line k where it tells a place, and else the one before.
abbrev pub told_or : List ℕ → ℕ → Option ℕ → ℕ → Option ℕ
told_or told k before p = if list_any (λ q. q == p) told then Some k else before
