use Rattle.bpf_remote.proofs.WhyTexts.{aimed}
use Rattle.bpf_remote.proofs.whynot.aim_at.Goals as goal

pub find-requires : goal.find-requires
find-requires g c =
    let way = c.invariant.ensures in
    rw (c.cpu.ensures, c.keeper.ensures) (record { history = way.track.history; stands = way.follows.history })

pub returns : goal.returns
returns g c = aimed g.K.Keeper.holds c.args.session.now c.args.text.now c.find.result (rw (c.cpu.ensures, c.keeper.ensures) at c.find.ensures.ok) (rw c.cpu.ensures at c.find.ensures.err)
