-- A keeper that was just opened.
use Rattle.std.specs.Prelude.{◌≡◌, ℕ, List, [], Result, OnOk, IfOk, IfErr}
use Rattle.bpf_entries.specs.Keeping.{IsSize, Kept}
use Rattle.bpf_ring.specs.declared.fault.JournalFault.{JournalFault}
use Rattle.bpf_ring.specs.declared.fault.JournalFault.TheVariants.{SizeOutOfRange}

-- A keeper that takes no memory is opened for a journal of this size, and has kept and refused nothing.
pub record Opens {K : Type 0} (holds : K → List Kept → Type 0) (refusals capacity : K → ℕ) (bytes : ℕ) (result : Result K JournalFault) : Type 0 where
  pub size : OnOk result (IsSize bytes)
  pub room : IfOk result (λ keeper. capacity keeper ≡ bytes)
  pub empty : IfOk result (λ keeper. holds keeper [])
  pub refused : IfOk result (λ keeper. refusals keeper ≡ 0)
  pub err : IfErr result (λ fault. (fault ≡ SizeOutOfRange) × (¬ IsSize bytes))
