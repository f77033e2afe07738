use Rattle.std.proofs.Common.{◌≡◌}
use Rattle.bpf_link.specs.Names.{built, with_program}
use Rattle.bpf_link.proofs.names.programs_among.Given as goal

abbrev pub invariant-loop-i : goal.invariant-loop-i
invariant-loop-i l = l.places.items ≡ built (with_program l.object l.names l.symbols) l.i
