use Rattle.std.proofs.Common.{◌≡◌, take}
use Rattle.bpf_link.specs.Homes.{is_function}
use Rattle.bpf_link.specs.Sections.{found, FoundBelow}
use Rattle.bpf_link.proofs.home.function_found.Given as goal

abbrev pub invariant-loop-i : goal.invariant-loop-i
invariant-loop-i l = record { value : l.found ≡ found (is_function l.object l.names l.name) (take l.i l.symbols); within : FoundBelow l.i l.found }
