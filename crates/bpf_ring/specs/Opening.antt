-- The faults of a journal that can't be opened. bpfdb's own choice.
use Rattle.std.specs.Prelude.{ℕ, List, codes}
use Rattle.bpf_entries.specs.Keeping.{IsSize}
use Rattle.bpf_ring.specs.declared.fault.JournalFault.{JournalFault}
use Rattle.bpf_ring.specs.declared.fault.JournalFault.TheVariants.{SizeOutOfRange, OutOfMemory}

-- A fault's number and text.
abbrev pub journal_fault : JournalFault → ℕ × List ℕ
journal_fault SizeOutOfRange = (1, codes "journal size out of range")
journal_fault OutOfMemory = (2, codes "out of memory")

-- Why no journal of this size can be opened: the size is none, or there is no memory for it.
abbrev pub RefusesSize : ℕ → JournalFault → Type 0
RefusesSize size SizeOutOfRange = ¬ IsSize size
RefusesSize size OutOfMemory = IsSize size
