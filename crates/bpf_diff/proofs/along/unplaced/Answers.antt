use Rattle.std.proofs.Common.{◌∙◌, arith, sym}
use Rattle.bpf_diff.proofs.TraceLines.{unplaced-here, unplaced-later}
use Rattle.bpf_diff.proofs.along.unplaced.Goals as goal

pub returns-then-begins_place : goal.returns-then-begins_place
returns-then-begins_place c =
    unplaced-here c.args.line.now c.loop-at.at (omega arith) (sym c.if-begins_place.true ∙ c.begins_place.ensures) c.loop-at.invariant

pub loop-at-preserved : goal.loop-at-preserved
loop-at-preserved c =
    unplaced-later c.args.line.now c.loop-at.at (omega arith) (sym c.if-begins_place.false ∙ c.begins_place.ensures) c.loop-at.invariant
