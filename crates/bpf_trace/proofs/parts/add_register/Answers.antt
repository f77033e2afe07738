use Rattle.std.proofs.Common.{append_assoc}
use Rattle.bpf_trace.specs.Forms.{part_in}
use Rattle.bpf_trace.proofs.parts.add_register.Goals as goal

pub returns-clause-text : goal.returns-clause-text
unfolding part_in
returns-clause-text c =
    let whole = rw (c.add_value.ensures.text, c.add_register_name.ensures.text, c.add_lead.ensures.text, c.register_at.ensures, c.depth_for-depth.ensures, c.depth.ensures) at c.add_tail.ensures.text in
    simp append_assoc (simp append_assoc at whole)
