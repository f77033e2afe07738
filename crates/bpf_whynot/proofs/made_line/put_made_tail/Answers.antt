use Rattle.std.proofs.Common.{append_assoc}
use Rattle.bpf_whynot.specs.Answers.{made_tail}
use Rattle.bpf_whynot.proofs.made_line.put_made_tail.Goals as goal

pub returns : goal.returns
unfolding made_tail
returns g c = λ first front known.
    let named = c.put_at-named.ensures first front known in
    let told = c.put_slot_text-told.ensures first _ named in
    simp append_assoc (simp append_assoc at (c.put.ensures first _ told))
