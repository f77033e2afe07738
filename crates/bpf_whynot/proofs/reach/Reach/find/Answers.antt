use Rattle.std.specs.Prelude.{map}
use Rattle.bpf_whynot.specs.Levels.{table_of}
use Rattle.bpf_whynot.proofs.Telling.{tells}
use Rattle.bpf_whynot.proofs.reach.Reach.find.Goals as goal

pub returns-in-Ok : goal.returns-in-Ok
returns-in-Ok c = λ slots are. tells c.args.program.now slots c.args.goals.now (map table_of c.in-Ok.levels.items) are c.in-Ok.ensures
