use Rattle.bpf_entries.proofs.laws.a_text_is_of_one_entry.Goals as goal
use Rattle.bpf_entries.proofs.Texts.{length-text, one_entry}

pub returns-clause-one : goal.returns-clause-one
returns-clause-one c = one_entry

pub returns-clause-weight : goal.returns-clause-weight
returns-clause-weight c = length-text
