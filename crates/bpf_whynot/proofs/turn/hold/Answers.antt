use Rattle.bpf_whynot.proofs.Turning.{hold_new}
use Rattle.bpf_whynot.proofs.turn.hold.Goals as goal

pub returns-in-Ok : goal.returns-in-Ok
returns-in-Ok c = λ x here sure.
    hold_new x c.args.cpu.now c.of.result c.args.wanted.now c.in-Ok.keep c.args.hunt here c.of.ensures
    (rw c.program.ensures at c.in-Ok.ensures.tells) c.in-Ok.ensures.held sure
