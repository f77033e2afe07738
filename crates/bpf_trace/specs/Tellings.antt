-- What is written of a run that is told.
use Rattle.std.specs.Prelude.{◌≡◌, ℕ, List, Option, Result, Ok, Err}
use Rattle.counted_io.specs.Counted.{Tally}
use Rattle.counted_io.specs.Writing.{Writes}
use Rattle.bpf_trace.specs.declared.trace.TraceFault.{TraceFault}
use Rattle.bpf_trace.specs.declared.trace.TraceFault.TheVariants.{Memory, Write}

-- The text was written, or a beginning of it; or memory ran out, and nothing was written.
abbrev pub Tells : {W : Type 0} → (W → Option (List ℕ)) → Tally W → Tally W → Result (Unit {0}) TraceFault → List ℕ → Type 0
Tells contents old new (Err Memory) text = new ≡ old
Tells contents old new (Err Write) text = Writes {A = Unit {0}} contents old new (Err Write) text
Tells contents old new (Ok done) text = Writes {E = TraceFault} contents old new (Ok done) text
