use Rattle.std.proofs.Common.{length}
use Rattle.bpf_lines.proofs.objects.+is_all.Given as goal

abbrev pub decreases-is_all : goal.decreases-is_all
decreases-is_all l = length l.all.now
