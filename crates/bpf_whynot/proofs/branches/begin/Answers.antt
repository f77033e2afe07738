use Rattle.std.proofs.Common.{refl}
use Rattle.bpf_whynot.proofs.branches.begin.Goals as goal

pub returns-in-Ok-find : goal.returns-in-Ok-find
returns-in-Ok-find c = record {
  knows = (rw c.program.ensures at c.in-Ok.ensures, rw c.program-2.ensures at c.in-Ok-find.ensures.tells);
  aim = c.of-aim.ensures;
  values = refl;
  lines = refl;
  held = rw c.of-aim.ensures at c.in-Ok-find.ensures.held;
  told = refl;
}
