use Rattle.std.proofs.Common.{◌∙◌, sym, arith}
use Rattle.bpf_lines.proofs.PlaceAt.{found-at, none-at, passed-at}
use Rattle.bpf_lines.proofs.named_text.place_at.Goals as goal

pub returns-then-begins-clause-value : goal.returns-then-begins-clause-value
returns-then-begins-clause-value c = found-at c.args.line.now c.loop-at.at (omega arith) (sym c.if-begins.true ∙ c.begins.ensures) c.loop-at.invariant

pub loop-at-preserved : goal.loop-at-preserved
loop-at-preserved c = passed-at c.args.line.now c.loop-at.at (omega arith) (sym c.if-begins.false ∙ c.begins.ensures) c.loop-at.invariant

pub returns-clause-value : goal.returns-clause-value
returns-clause-value c = none-at c.args.line.now c.loop-at.at (omega arith) c.loop-at.invariant
