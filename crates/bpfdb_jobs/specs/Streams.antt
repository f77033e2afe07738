-- What becomes of the streams of a job: of its reader, and of the two that it writes to.
use Rattle.std.specs.Prelude.{◌≡◌, ℕ, List, Option}
use Rattle.bpfdb_faults.specs.Streams.{Stream, Told, stream}
use Rattle.bpfdb_jobs.specs.declared.streams.Streams.{Streams}
use Rattle.counted_io.specs.Counted.{Tally}

-- Standard output and standard error, each as it was lent and as it is given back.
pub record Outputs (W E : Type 0) : Type 0 where
  pub output : Stream W
  pub errors : Stream E

abbrev pub between : {W E : Type 0} → (W → Option (List ℕ)) → (E → Option (List ℕ)) → Streams W E → Streams W E → Outputs W E
between output errors old new = record { output = stream output old.output new.output; errors = stream errors old.errors new.errors }

-- The same up to what was said on standard error at last, and behind what was said there first.
abbrev pub until : {W E : Type 0} → Tally E → Outputs W E → Outputs W E
until said s = record s { errors = record s.errors { new = said } }

abbrev pub behind : {W E : Type 0} → Tally E → Outputs W E → Outputs W E
behind said s = record s { errors = record s.errors { old = said } }

-- Nothing was read and written but a line on standard error, which says why, and the status is 2.
abbrev pub TellsOnly : {R W E : Type 0} → Stream R → Outputs W E → List ℕ → ℕ → Type 0
TellsOnly reader s line status = (reader.new ≡ reader.old) × (s.output.new ≡ s.output.old) × Told s.errors line × (status ≡ 2)
