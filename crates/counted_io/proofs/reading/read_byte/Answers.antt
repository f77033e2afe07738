-- One byte was taken from what remained, and it is the buffer's.
use Rattle.std.proofs.Common.{ℕ, ◌≡◌, ◌≤◌, zero, suc, List, [], ◌∷◌, take, length, get_or, arith, refl}
use Rattle.std.proofs.lemmas.Grind.{common_steps}
use Rattle.counted_io.proofs.reading.read_byte.Goals as goal

-- the first byte of a buffer of one
take-one : (bytes : List ℕ) (n : ℕ) → length bytes ≡ 1 → n ≤ 1 → (n ≡ 0 → ⊥) → take n bytes ≡ get_or bytes 0 0 ∷ []
take-one bytes zero one high low = absurd (low refl)
take-one [] (suc n) one high low = absurd (omega arith)
take-one (b ∷ bytes) (suc n) one high low = let none : n ≡ 0 = omega arith in rw none

pub returns-in-Ok : goal.returns-in-Ok
returns-in-Ok g c = record {
  value = rw (take-one c.read.new.buf c.in-Ok.field-0 c.read.auto.buf (omega (arith, c.in-Ok.ensures.bound.0)) c.in-Ok.field-0-test.1) at c.in-Ok.ensures.bytes.0;
  same = grind (arith, common_steps);
  passed = (c.in-Ok.ensures.entry.passed, grind (arith, common_steps, c.in-Ok.ensures.entry.reads, c.in-Ok.ensures.entry.passed));
  kept = tt;
  fault = tt;
}
