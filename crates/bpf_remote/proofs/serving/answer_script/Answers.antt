use Rattle.std.proofs.Common.{refl}
use Rattle.bpf_remote.proofs.serving.answer_script.Goals as goal

pub returns : goal.returns
returns g c = λ before.
    let o = c.heed_line-moves.ensures in
    record {
      last = o.0;
      told = _;
      done = (c.heed_line-moves.result, o.2, c.with_moves-talk.ensures, refl, refl);
      held = o.1;
      written = c.put_sent.ensures o.0 o.1 _ _ c.acknowledge-begun.ensures;
    }
