use Rattle.std.proofs.Common.{◌≡◌}
use Rattle.bpf_btf.specs.Sizes.{links}
use Rattle.bpf_btf.proofs.sizes.links.Given as goal

abbrev pub invariant-loop : goal.invariant-loop
invariant-loop l = l.behind ≡ links l.btf l.id l.counter
