use Rattle.std.proofs.Common.{◌≡◌}
use Rattle.bpf_btf.specs.Layout.{is_called}
use Rattle.bpf_btf.specs.Maps.{last_below}
use Rattle.bpf_turns.proofs.names.name_place.Given as goal

abbrev pub invariant-loop-at : goal.invariant-loop-at
invariant-loop-at l = l.found ≡ last_below (λ at. is_called l.strings at l.name) l.at
