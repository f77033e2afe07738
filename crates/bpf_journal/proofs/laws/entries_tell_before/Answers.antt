use Rattle.bpf_journal.proofs.Telling.{tells_before}
use Rattle.bpf_journal.proofs.laws.entries_tell_before.Goals as goal

pub returns : goal.returns
returns c = tells_before
