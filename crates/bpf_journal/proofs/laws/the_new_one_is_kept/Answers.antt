use Rattle.bpf_entries.specs.Keeping.{kept_weight}
use Rattle.bpf_journal.specs.Histories.{record_weight}
use Rattle.bpf_entries.proofs.Keeping.{fit_in}
use Rattle.bpf_journal.proofs.MoveLaws.{every_kept}
use Rattle.bpf_journal.proofs.laws.the_new_one_is_kept.Goals as goal

pub returns-clause-records : goal.returns-clause-records
returns-clause-records c = λ room es e h. fit_in record_weight room e es h

pub returns-clause-entries : goal.returns-clause-entries
returns-clause-entries c = λ room es e h. fit_in kept_weight room e es h

pub returns-clause-every : goal.returns-clause-every
returns-clause-every c = every_kept
