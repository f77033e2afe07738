use Rattle.std.proofs.Common.{◌≡◌}
use Rattle.bpf_btf.specs.Sizes.{all_parts}
use Rattle.bpf_btf.proofs.sizes.all_parts.Given as goal

abbrev pub invariant-loop : goal.invariant-loop
invariant-loop l = l.values ≡ all_parts l.btf l.id l.counter
