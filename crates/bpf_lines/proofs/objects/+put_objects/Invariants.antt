use Rattle.std.proofs.Common.{length}
use Rattle.bpf_lines.proofs.objects.+put_objects.Given as goal

abbrev pub decreases-put_objects : goal.decreases-put_objects
decreases-put_objects g l = length l.all.now
