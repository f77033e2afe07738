use Rattle.std.proofs.Common.{◌≡◌}
use Rattle.std.specs.Prelude.{Some}
use Rattle.bpf_journal.proofs.item.Item.kept.Goals as goal

pub unreachable-requires : goal.unreachable-requires
unreachable-requires c =
    let k = c.args.self.now in
    let read : c.read.result ≡ Some (k.0, k.1) = c.read.ensures k.0 k.1 c.text.ensures.fits c.text.ensures.text in
    let told = c.in-None.is in
    absurd cc

pub returns : goal.returns
returns c =
    let k = c.args.self.now in
    let read : c.read.result ≡ Some (k.0, k.1) = c.read.ensures k.0 k.1 c.text.ensures.fits c.text.ensures.text in
    let told = c.in-Some.is in
    cc
