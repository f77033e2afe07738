use Rattle.bpf_diff.specs.Alike.{same_slot}
use Rattle.bpf_diff.proofs.Following.{Along-start}
use Rattle.bpf_diff.proofs.follow.go_together.Goals as goal

pub loop-k-init : goal.loop-k-init
loop-k-init c = Along-start same_slot c.args.most c.args.first.now c.args.second.now
