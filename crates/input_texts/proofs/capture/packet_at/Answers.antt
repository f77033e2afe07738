use Rattle.std.proofs.Common.{ℕ, ◌≡◌, ◌≤◌, ◌-◌, ◌==◌, ◌||◌, nat_lt, false, List, Some, drop, length, refl, sym, ap, ◌∙◌, arith}
use Rattle.std.proofs.lemmas.Bool.Decides.{nat_tests}
use Rattle.std.specs.Option.{option_and_then}
use Rattle.input_texts.specs.Captures.{first_packet, order_of, packet_in, packet_of, rest}
use Rattle.input_texts.specs.declared.capture.Order.{Order}
use Rattle.input_texts.proofs.capture.packet_at.Goals as goal

-- the packet of a number that isn't 0, of a capture with a whole header
packet-of : (file : List ℕ) (number : ℕ) (o : Order) → order_of file ≡ Some o → (number ≡ 0 → ⊥) → 24 ≤ length file
    → packet_in file number ≡ first_packet o (rest o (drop 24 file) (number - 1))
packet-of file number o e some long =
    let off : (number == 0 || nat_lt (length file) 24) ≡ false = grind (arith, nat_tests) in
    ap (option_and_then (packet_of number file)) e ∙ rw off refl

pub returns : goal.returns
returns c =
    let o = c.in_ok-order.order in
    let file = c.args.file.now in
    let is : order_of file ≡ Some o = sym c.order_of.ensures ∙ c.in_ok-order.was in
    c.first_packet.ensures
    ∙ ap (first_packet o) (c.begun_at.ensures ∙ sym (c.requires o is (c.args.number - 1)))
    ∙ sym (packet-of file c.args.number o is c.if-number-eq0.false c.if-file-lt-FILE_HEADER.false)
