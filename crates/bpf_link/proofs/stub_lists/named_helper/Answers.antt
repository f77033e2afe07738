use Rattle.std.proofs.Common.{◌≡◌, ap, ◌∙◌, arith}
use Rattle.bpf_btf.specs.Maps.{last_below}
use Rattle.bpf_link.specs.StubLists.{has_name}
use Rattle.bpf_link.proofs.stub_lists.named_helper.Goals as goal

pub returns : goal.returns
returns c =
    let end : c.loop-helper.helper ≡ 212 = omega (arith, c.loop-helper.auto.helper-end, c.loop-helper-test.false) in
    c.loop-helper.invariant ∙ ap (last_below (has_name c.args.name.now)) end
