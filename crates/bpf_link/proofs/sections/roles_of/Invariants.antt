use Rattle.std.proofs.Common.{◌≡◌, take}
use Rattle.bpf_link.specs.Sections.{AreFound, roles_in}
use Rattle.bpf_link.proofs.sections.roles_of.Given as goal

abbrev pub invariant-loop-i : goal.invariant-loop-i
invariant-loop-i l = record { value : l.roles ≡ roles_in l.object l.name (take l.i l.object.sections); within : AreFound l.i l.roles }
