use Rattle.std.proofs.Common.{◌≡◌}
use Rattle.bpf_btf.specs.Maps.{last_below}
use Rattle.bpf_link.specs.StubLists.{has_name}
use Rattle.bpf_link.proofs.stub_lists.named_helper.Given as goal

abbrev pub invariant-loop-helper : goal.invariant-loop-helper
invariant-loop-helper l = l.found ≡ last_below (has_name l.name) l.helper
