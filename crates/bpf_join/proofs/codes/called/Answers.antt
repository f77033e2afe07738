use Rattle.std.proofs.Common.{refl}
use Rattle.bpf_join.proofs.codes.called.Goals as goal

pub loop-p-init : goal.loop-p-init
loop-p-init c = record { known = c.in-Ok.ensures.ok c.args.functions.now; made = refl; size = refl }
