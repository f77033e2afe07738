use Rattle.std.proofs.Common.{◌≡◌, length, take}
use Rattle.bpf_link.specs.Missing.{is_missing}
use Rattle.bpf_link.specs.Objects.{below}
use Rattle.bpf_link.proofs.missing.others_in.Given as goal

abbrev pub invariant-loop-helper : goal.invariant-loop-helper
invariant-loop-helper l = record { made : take l.helper l.others ≡ below (is_missing l.words l.first) l.helper; size : length l.others ≡ 212 }
