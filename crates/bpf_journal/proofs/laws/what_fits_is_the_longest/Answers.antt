use Rattle.bpf_entries.specs.Keeping.{kept_weight}
use Rattle.bpf_journal.specs.Histories.{record_weight}
use Rattle.bpf_journal.proofs.Fitting.{longest}
use Rattle.bpf_journal.proofs.laws.what_fits_is_the_longest.Goals as goal

pub returns-clause-records : goal.returns-clause-records
returns-clause-records c = longest record_weight

pub returns-clause-entries : goal.returns-clause-entries
returns-clause-entries c = longest kept_weight
