use Rattle.std.proofs.Common.{◌≡◌, take}
use Rattle.bpf_link.specs.Sections.{found, FoundBelow}
use Rattle.bpf_counts.specs.Files.{is_types}
use Rattle.bpf_counts.proofs.file.types_found.Given as goal

abbrev pub invariant-loop-i : goal.invariant-loop-i
invariant-loop-i l = record { value : l.found ≡ found (is_types l.object) (take l.i l.object.sections); within : FoundBelow l.i l.found }
