-- Whether a machine runs: bpfdb's own choice of words.
use Rattle.std.specs.Prelude.{◌<◌, ◌^◌, ℕ, Bool, true, false}
use Rattle.bpf_entries.specs.declared.status.Fault.{Fault}
use Rattle.bpf_entries.specs.declared.status.Fault.TheVariants.{Access, Token, Depth}
use Rattle.bpf_entries.specs.declared.status.Status.{Status}
use Rattle.bpf_entries.specs.declared.status.Status.TheVariants.{Running, Exited, Faulted}

-- It has exited or faulted.
abbrev pub has_ended : Status → Bool
has_ended Running = false
has_ended Exited = true
has_ended (Faulted fault) = true

-- A number of 64 bits, and a status whose number is one.
abbrev pub FitsNumber : ℕ → Type 0
FitsNumber n = n < 2 ^ 64

abbrev pub FitsFault : Fault → Type 0
FitsFault (Access a) = FitsNumber a
FitsFault (Token token) = FitsNumber token
FitsFault Depth = Unit {0}

abbrev pub FitsStatus : Status → Type 0
FitsStatus Running = Unit {0}
FitsStatus Exited = Unit {0}
FitsStatus (Faulted fault) = FitsFault fault
