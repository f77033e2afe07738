use Rattle.std.proofs.Common.{sym, ◌∙◌, arith}
use Rattle.bpf_entries.specs.Keeping.{kept_weight}
use Rattle.bpf_entries.proofs.Keeping.{fit_all}
use Rattle.bpf_journal.proofs.Items.{fit_after_drop}
use Rattle.bpf_journal.proofs.entries.Entries.trim.Goals as goal

pub loop-self-preserved : goal.loop-self-preserved
loop-self-preserved c = fit_after_drop c.args.room _ _ c.drop_oldest.ensures (omega (arith, c.weight.ensures, c.loop-self-test.true)) ∙ c.loop-self.invariant

pub returns-clause-fits : goal.returns-clause-fits
returns-clause-fits c = sym (fit_all kept_weight c.args.room c.loop-self.self (omega (arith, c.weight.ensures, c.loop-self-test.false))) ∙ c.loop-self.invariant
