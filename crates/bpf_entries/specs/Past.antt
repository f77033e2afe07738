-- What an entry keeps of the state before its move. What no part of it says, the state after the move still shows.
use Rattle.std.specs.Prelude.{ℕ, Bool, true, false, List, Option, Some, None}
use Rattle.bpf_entries.specs.declared.entry.Entry.{Entry}
use Rattle.bpf_entries.specs.declared.entry.Entry.TheVariants as entry
use Rattle.bpf_entries.specs.Frames.{frame_base}
use Rattle.bpf_entries.specs.declared.status.Status.{Status}
use Rattle.bpf_entries.specs.declared.status.Status.TheVariants.{Running}

-- A run of bytes in memory: the address of the first, and the bytes.
pub record Run : Type 0 where
  pub address : ℕ
  pub bytes : List ℕ

-- The frames of local calls: the same, all but the newest, or one more, whose function had these numbers in r6 to r9.
pub data Frames : Type 0 where
  Same : Frames
  Fewer : Frames
  More : (saved : List ℕ) → Frames

-- The slot, a register with its value, a run of bytes, the frames, whether the trace was without its last word, the status.
pub record Past : Type 0 where
  pub pc : Option ℕ
  pub register : Option (ℕ × ℕ)
  pub run : Option Run
  pub frames : Frames
  pub traces : Bool
  pub status : Option Status

-- Nothing; the slot alone; bytes that stood at an address.
abbrev pub nothing : Past
nothing = record { pc = None; register = None; run = None; frames = Same; traces = false; status = None }

abbrev pub at_slot : ℕ → Past
at_slot pc = record nothing { pc = Some pc }

abbrev pub stood : ℕ → List ℕ → Option Run
stood a bytes = Some (record { address = a; bytes = bytes })

-- What an entry keeps, by the depth of calls after its move: a call entered the frame of that depth.
abbrev pub past : ℕ → Entry → Past
past d (entry.Register pc r value) = record (at_slot pc) { register = Some (r, value) }
past d (entry.Jump pc) = at_slot pc
past d (entry.Call pc old) = record (at_slot pc) { run = stood (frame_base d) old; frames = Fewer }
past d (entry.Return pc saved) = record (at_slot pc) { frames = More saved }
past d (entry.Store pc a old) = record (at_slot pc) { run = stood a old }
past d (entry.Fetch pc r value a old) = record (at_slot pc) { register = Some (r, value); run = stood a old }
past d (entry.Cell pc r0 a old) = record (at_slot pc) { register = Some (0, r0); run = stood a old }
past d (entry.Trace pc r0) = record (at_slot pc) { register = Some (0, r0); traces = true }
past d entry.End = record nothing { status = Some Running }
past d (entry.EditRegister r value) = record nothing { register = Some (r, value) }
past d (entry.EditBytes a old) = record nothing { run = stood a old }
past d (entry.EditPc pc status) = record (at_slot pc) { status = Some status }

-- The run that a move replaced, by the depth of calls after it; None where memory stays.
abbrev pub replaced : ℕ → Entry → Option Run
replaced d e = (past d e).run

-- Whether an entry is a step's, and not an edit's.
abbrev pub is_of_step : Entry → Bool
is_of_step (entry.EditRegister r value) = false
is_of_step (entry.EditBytes a old) = false
is_of_step (entry.EditPc pc status) = false
is_of_step _ = true
