use Rattle.std.proofs.Common.{refl}
use Rattle.bpf_turns.proofs.Pieces.{gathered_more}
use Rattle.bpf_turns.proofs.calls.with_calls.Goals as goal

pub loop-k-preserved : goal.loop-k-preserved
loop-k-preserved c =
    gathered_more _ c.loop-k.k c.args.words.items c.loop-k.all.items _ c.in-Ok.new.items c.in-Ok.ensures.ok refl c.loop-k.invariant
