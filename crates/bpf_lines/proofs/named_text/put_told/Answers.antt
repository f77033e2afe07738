use Rattle.std.proofs.Common.{append_assoc}
use Rattle.bpf_lines.proofs.named_text.put_told.Goals as goal

pub returns-in-Some : goal.returns-in-Some
returns-in-Some g c = λ first front known.
    let parted = rw (c.way_of-way.ensures, c.is_setup.ensures, c.slot_in.ensures) at (c.put-parted.ensures first front known) in
    rw c.in-Some.is (simp append_assoc at (c.put_name.ensures first _ parted))
