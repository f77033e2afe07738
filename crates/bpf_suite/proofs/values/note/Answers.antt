use Rattle.std.proofs.Common.{refl, sym, ◌∙◌}
use Rattle.bpf_suite.proofs.Told.{told-full}
use Rattle.bpf_suite.proofs.values.note.Goals as goal

pub returns-then-len-eq-MOST_TOLD : goal.returns-then-len-eq-MOST_TOLD
returns-then-len-eq-MOST_TOLD c = λ all are. told-full all c.args.line.now c.args.wrong.now _ are (sym c.args.wrong.now.told.ok.0 ∙ sym c.len.ensures ∙ c.if-len-eq-MOST_TOLD.true) refl refl
