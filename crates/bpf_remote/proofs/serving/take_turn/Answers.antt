use Rattle.bpf_remote.proofs.serving.take_turn.Goals as goal

pub returns : goal.returns
returns g c = (
  c.answer_item-told.result.1,
  c.flush.ensures.ok,
  λ before body held whole more.
      let t = c.answer_item-told.ensures before body held whole more in
      record { last = t.last; told = t.told; done = t.done; held = t.held; written = c.flush.ensures.written _ t.told t.written },
)
