use Rattle.std.proofs.Common.{◌∙◌, sym}
use Rattle.bpf_session.proofs.Halts.{overlooked}
use Rattle.bpf_session.proofs.halting.HaltingStopTest.guard.Goals as goal

pub returns-else-differ_from : goal.returns-else-differ_from
returns-else-differ_from c =
    let halting = c.args.self.now in
    overlooked halting.breaks.now halting.watches.now halting.seen.now halting.floor c.guard.result c.args.cpu.now (sym c.differ_from.ensures ∙ c.if-differ_from.false) c.guard.ensures
