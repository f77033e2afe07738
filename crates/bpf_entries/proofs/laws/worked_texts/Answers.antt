use Rattle.std.proofs.Common.{refl}
use Rattle.bpf_entries.proofs.laws.worked_texts.Goals as goal

pub returns-clause-end : goal.returns-clause-end
returns-clause-end c = refl

pub returns-clause-register : goal.returns-clause-register
returns-clause-register c = refl

pub returns-clause-fetch : goal.returns-clause-fetch
returns-clause-fetch c = refl
