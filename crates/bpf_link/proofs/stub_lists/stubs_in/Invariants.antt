use Rattle.std.proofs.Common.{◌≡◌, [], Ok, length}
use Rattle.bpf_isa.specs.Maps.{items_of}
use Rattle.bpf_link.specs.Plans.{steps}
use Rattle.bpf_link.specs.StubLists.{with_item}
use Rattle.bpf_link.proofs.stub_lists.stubs_in.Given as goal

abbrev pub invariant-loop-item : goal.invariant-loop-item
invariant-loop-item l = steps (with_item (items_of l.text)) [] (length l.yielded) ≡ Ok l.stubs.items
