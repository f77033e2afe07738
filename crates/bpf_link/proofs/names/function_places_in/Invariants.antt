use Rattle.std.proofs.Common.{◌≡◌}
use Rattle.bpf_link.specs.Names.{built, with_function}
use Rattle.bpf_link.proofs.names.function_places_in.Given as goal

abbrev pub invariant-loop-i : goal.invariant-loop-i
invariant-loop-i l = l.places.items ≡ built (with_function l.plan l.known) l.i
