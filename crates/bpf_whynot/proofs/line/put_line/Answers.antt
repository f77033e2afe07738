use Rattle.std.proofs.Common.{append_assoc}
use Rattle.bpf_whynot.proofs.line.put_line.Goals as goal

pub returns : goal.returns
returns g c = λ m y step stood first front known.
    let begun = c.put-begun.ensures first front known in
    let counted = c.put_decimal-counted.ensures first _ begun in
    let parted = c.put-parted.ensures first _ counted in
    let named = c.put_move-named.ensures m step first _ parted in
    let valued = c.put_operands-valued.ensures m step first _ named in
    let went = c.put_went-went.ensures m y step stood first _ valued in
    let told = c.put_slot-told.ensures m step first _ went in
    simp append_assoc (simp append_assoc at (c.put.ensures first _ told))
