use Rattle.std.proofs.Common.{◌∙◌, sym}
use Rattle.bpf_origin.proofs.left.put_opening.Goals as goal

pub returns-else-in_first_frame : goal.returns-else-in_first_frame
returns-else-in_first_frame g c = rw (sym c.in_first_frame.ensures ∙ c.if-in_first_frame.false) c.put-else-in_first_frame.ensures
