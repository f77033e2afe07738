use Rattle.std.proofs.Common.{◌≡◌}
use Rattle.bpf_link.specs.Names.{built, with_code}
use Rattle.bpf_link.proofs.names.code_places_in.Given as goal

abbrev pub invariant-loop-i : goal.invariant-loop-i
invariant-loop-i l = l.places.items ≡ built (with_code l.object) l.i
