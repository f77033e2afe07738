use Rattle.std.proofs.Common.{◌≡◌}
use Rattle.bpf_link.specs.Links.{plain_maps}
use Rattle.bpf_link.proofs.linker.plain_maps.Given as goal

abbrev pub invariant-loop : goal.invariant-loop
invariant-loop l = l.maps ≡ plain_maps l.counter
