-- What `debug` comes to: what its script prints in a debugger that keeps whole states, with each move kept in the journal's room.
use Rattle.std.specs.Prelude.{ℕ, ◌≡◌, List, Some}
use Rattle.bpf_isa.specs.Programs.{Checked}
use Rattle.bpf_session.specs.Runs.{BreaksOff, Exchange, Leaves, Standing, Wrote, whole_walk}
use Rattle.bpf_session.specs.declared.fault.RunFault.{RunFault}
use Rattle.bpfdb_faults.specs.Streams.{Stream}
use Rattle.bpfdb_jobs.specs.Jobs.{start_of}
use Rattle.bpfdb_jobs.specs.declared.job.Job.{Job}

-- All of it was written, and the lines behind `quit` are left to the reader.
abbrev pub Replies : Job → Checked → Exchange → Type 0
Replies job program x = Wrote x (whole_walk (start_of job program) x.script).out × Leaves x (whole_walk (start_of job program) x.script).unread

-- A read or a write failed: the first lines were obeyed, and what they print was written, or a beginning. No move was refused.
abbrev pub RepliesUntil : Job → Checked → RunFault → Exchange → Type 0
RepliesUntil job program why x = (to : Standing) × (to.refusals ≡ 0) × BreaksOff why (start_of job program) to x

-- Over a reader and a writer that tell their bytes.
abbrev pub Exchanges : {R W : Type 0} → Stream R → Stream W → (Exchange → Type 0) → Type 0
Exchanges reader writer P = (script told : List ℕ) → reader.bytes reader.old.inner ≡ Some script → writer.bytes writer.old.inner ≡ Some told
    → P (record { script = script; told = told; after = writer.bytes writer.new.inner; left = reader.bytes reader.new.inner })
