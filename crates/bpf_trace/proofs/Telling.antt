-- What is written of a run that is told.
use Rattle.std.proofs.Common.{◌≡◌, ℕ, List, Option, Result, Ok, Err}
use Rattle.counted_io.specs.Counted.{Tally}
use Rattle.counted_io.specs.Writing.{Writes}
use Rattle.counted_io.specs.declared.fault.WriteFault.{WriteFault}
use Rattle.bpf_trace.specs.Tellings.{Tells}
use Rattle.bpf_trace.specs.declared.trace.TraceFault.TheVariants.{Write}

module _ {W : Type 0} (contents : W → Option (List ℕ)) (old new : Tally W) where
  -- a text that was written, or a beginning of it, in the words of a run that is told
  pub told-ok : (v u : Unit {0}) (r : Result (Unit {0}) WriteFault) (text whole : List ℕ) → Writes contents old new r text → r ≡ Ok v → text ≡ whole
      → Tells contents old new (Ok u) whole
  told-ok v u (Ok w) text whole written is same = record { ok = rw (← same) written.ok; same = written.same; err = tt; fault = tt }
  told-ok v u (Err e) text whole written is same = absurd cc

  pub told-lost : (fault : WriteFault) (r : Result (Unit {0}) WriteFault) (text whole : List ℕ) → Writes contents old new r text → r ≡ Err fault → text ≡ whole
      → Tells contents old new (Err Write) whole
  told-lost fault (Ok w) text whole written is same = absurd cc
  told-lost fault (Err e) text whole written is same = record { ok = tt; same = tt; err = rw (← same) written.err; fault = written.fault }
