use Rattle.bpf_whynot.proofs.Surely.{tells}
use Rattle.bpf_whynot.proofs.sure.Sure.find.Goals as goal

pub returns-in-Ok-ways-2 : goal.returns-in-Ok-ways-2
returns-in-Ok-ways-2 c = tells c.args.program.now c.args.slot (record { comes = c.in-Ok-ways.comes; ends = c.in-Ok-ways-2.ends }) c.in-Ok-ways.ensures c.in-Ok-ways-2.ensures
