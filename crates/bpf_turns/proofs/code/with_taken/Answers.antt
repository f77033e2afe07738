use Rattle.bpf_turns.proofs.Pieces.{gathered_more}
use Rattle.bpf_turns.proofs.code.with_taken.Goals as goal

pub loop-i-preserved : goal.loop-i-preserved
loop-i-preserved c =
    gathered_more _ c.loop-i.i c.args.words.items c.loop-i.all.items _ c.in-Ok.new.items c.in-Ok.ensures.ok c.taken_at.ensures c.loop-i.invariant
