use Rattle.std.proofs.Common.{◌≡◌, take}
use Rattle.bpf_link.specs.Sections.{found, FoundBelow, is_relocations}
use Rattle.bpf_link.proofs.sections.relocations_of.Given as goal

abbrev pub invariant-loop-i : goal.invariant-loop-i
invariant-loop-i l = record { value : l.found ≡ found (is_relocations l.target) (take l.i l.object.sections); within : FoundBelow l.i l.found }
