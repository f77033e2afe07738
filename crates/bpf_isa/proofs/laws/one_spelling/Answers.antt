use Rattle.bpf_isa.proofs.Spelling.{one_word, none_begins}
use Rattle.bpf_isa.proofs.laws.one_spelling.Goals as goal

pub returns-clause-only : goal.returns-clause-only
returns-clause-only c = one_word

pub returns-clause-within : goal.returns-clause-within
returns-clause-within c = none_begins
