use Rattle.std.proofs.Common.{◌≡◌, arith}
use Rattle.bpf_link.specs.Missing.{is_missing}
use Rattle.bpf_link.proofs.Lists.{filled}
use Rattle.bpf_link.proofs.missing.others_in.Goals as goal

pub returns : goal.returns
returns c =
    let end : c.loop-helper.helper ≡ 212 = omega arith in
    filled (is_missing c.args.words.now c.args.first) c.loop-helper.others c.loop-helper.helper 212 c.loop-helper.invariant.made
    c.loop-helper.invariant.size end
