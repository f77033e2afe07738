-- Runs of zeros.
use Rattle.std.proofs.Common.{◌≡◌, ℕ, ◌+◌, ◌++◌}
use Rattle.std.proofs.lemmas.List.{replicate-append-replicate}
use Rattle.bpf_steps.specs.Regions.{zeros}

-- One behind the other.
pub zeros_both : (m n : ℕ) → zeros m ++ zeros n ≡ zeros (m + n)
unfolding zeros
zeros_both m n = replicate-append-replicate m n 0
