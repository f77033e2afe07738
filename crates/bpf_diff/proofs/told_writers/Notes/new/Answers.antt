use Rattle.std.proofs.Common.{refl}
use Rattle.std.proofs.lemmas.List.{get_or-replicate}
use Rattle.bpf_diff.specs.Writers.{no_step}
use Rattle.bpf_diff.proofs.Noting.{within}
use Rattle.bpf_diff.proofs.told_writers.Notes.new.Goals as goal

pub returns : goal.returns
returns c = record { each = λ d r low reg. get_or-replicate 80 _ no_step no_step (within d r low reg); last = refl }
