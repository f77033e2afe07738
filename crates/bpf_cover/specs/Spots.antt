-- Scaffolding: no public contract cites this. A place as it is compared.
use Rattle.std.specs.Prelude.{ℕ, List}
use Rattle.std.specs.Borrow.{Bor}
use Rattle.bpf_cover.specs.declared.places.Spot.{Spot}

abbrev pub plain : Bor (List ℕ) × ℕ × ℕ → Spot
plain key = record { file = key.0.now; line = key.1; slot = key.2 }
