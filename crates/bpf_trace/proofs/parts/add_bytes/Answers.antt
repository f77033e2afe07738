use Rattle.std.proofs.Common.{append_assoc}
use Rattle.bpf_origin.specs.Texts.{bytes_name}
use Rattle.bpf_trace.specs.Forms.{part_in}
use Rattle.bpf_trace.proofs.parts.add_bytes.Goals as goal

pub returns-clause-text : goal.returns-clause-text
unfolding part_in bytes_name
returns-clause-text c =
    let whole = rw (c.add_bytes_value.ensures.text, c.add_decimal.ensures.text, c.add.ensures, c.add_hexadecimal.ensures.text, c.add_lead.ensures.text) at c.add_tail.ensures.text in
    simp append_assoc (simp append_assoc at whole)
