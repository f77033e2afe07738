-- Opening a machine: what it refuses, in this order: a context that is too long, want of memory.
use Rattle.std.specs.Prelude.{◌≡◌, ◌≤◌, ◌<◌, ℕ, List, length, codes}
use Rattle.bpf_isa.specs.Programs.{Checked}
use Rattle.bpf_isa.specs.declared.maps.MapShape.{MapShape}
use Rattle.bpf_steps.specs.declared.fault.OpenFault.{OpenFault}
use Rattle.bpf_steps.specs.declared.fault.OpenFault.TheVariants.{ContextTooLong, OutOfMemory}
use Rattle.bpf_steps.specs.Platform.{context_limit}
use Rattle.bpf_steps.specs.Regions.{Image, opened, with_context}
use Rattle.bpf_steps.specs.State.{State, initial, restarted}

-- A fault's number, which is printed after O, and its text.
abbrev pub open_fault : OpenFault → ℕ × List ℕ
open_fault ContextTooLong = (1, codes "context too long")
open_fault OutOfMemory = (2, codes "out of memory")

-- Why memory or a machine is not opened.
abbrev pub Refused : List ℕ → OpenFault → Type 0
Refused context ContextTooLong = context_limit < length context
Refused context OutOfMemory = length context ≤ context_limit

-- A machine that is opened is in its initial state.
abbrev pub MemoryOpened : List MapShape → List ℕ → Image → Type 0
MemoryOpened shapes context memory = (length context ≤ context_limit) × (memory ≡ opened shapes context)

abbrev pub Opened : Checked → List ℕ → State → Type 0
Opened program context x = (length context ≤ context_limit) × (x ≡ initial program context)

-- The same of one that starts once more.
abbrev pub MemoryRestarted : List ℕ → Image → Image → Type 0
MemoryRestarted context old new = (length context ≤ context_limit) × (new ≡ with_context context old)

abbrev pub Restarted : List ℕ → State → State → Type 0
Restarted context old new = (length context ≤ context_limit) × (new ≡ restarted context old)
