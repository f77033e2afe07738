use Rattle.std.proofs.Common.{append_assoc}
use Rattle.bpf_origin.specs.Texts.{word_name}
use Rattle.bpf_trace.specs.Forms.{part_in}
use Rattle.bpf_trace.proofs.parts.add_word.Goals as goal

pub returns-clause-text : goal.returns-clause-text
unfolding part_in word_name
returns-clause-text c =
    let whole = rw (c.add_value.ensures.text, c.add_decimal.ensures.text, c.add.ensures, c.add_lead.ensures.text, c.word_at.ensures, c.saturating_sub-index.ensures, c.trace.ensures.value, c.trace-2.ensures.value) at c.add_tail.ensures.text in
    simp append_assoc (simp append_assoc at whole)
