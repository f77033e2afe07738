use Rattle.bpf_entries.specs.Keeping.{kept_weight}
use Rattle.bpf_journal.specs.Histories.{record_weight}
use Rattle.bpf_journal.proofs.Fitting.{keep_fit}
use Rattle.bpf_journal.proofs.laws.the_dropped_is_forgotten.Goals as goal

pub returns-clause-records : goal.returns-clause-records
returns-clause-records c = keep_fit record_weight

pub returns-clause-entries : goal.returns-clause-entries
returns-clause-entries c = keep_fit kept_weight
