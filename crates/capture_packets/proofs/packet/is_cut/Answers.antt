use Rattle.std.proofs.Common.{◌≡◌, ◌∙◌, false, not, nat_lt, length, refl, sym, ap, arith}
use Rattle.std.proofs.lemmas.Bool.Decides.{nat_tests}
use Rattle.capture_packets.proofs.Behind.{behind-is}
use Rattle.capture_packets.proofs.packet.is_cut.Goals as goal

pub returns-else-file-lt-FILE_HEADER : goal.returns-else-file-lt-FILE_HEADER
returns-else-file-lt-FILE_HEADER c =
    let file = c.args.file.now in
    let whole : nat_lt (length file) 24 ≡ false = grind (arith, nat_tests, c.if-file-lt-FILE_HEADER.false) in
    let is = c.begun_at.ensures ∙ sym (behind-is file c.args.starts.now c.args.count c.requires.capture c.requires.starts) in
    ap not c.is_empty.ensures ∙ rw (whole, is) refl
