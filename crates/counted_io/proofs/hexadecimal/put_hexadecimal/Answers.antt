-- The prefix and then the digits.
use Rattle.std.proofs.Common.{codes, append_assoc, ◌∙◌}
use Rattle.counted_io.proofs.HexDigits.{take-drop-end}
use Rattle.counted_io.proofs.hexadecimal.put_hexadecimal.Goals as goal

pub returns : goal.returns
returns g c = λ first front known.
    let prefixed = c.put-prefixed.ensures first front known in
    let piece = take-drop-end c.write_digits-start.new.buffer 16 c.write_digits-start.result c.write_digits-start.array_long
    ∙ c.write_digits-start.ensures.value in
    rw (← append_assoc front (codes "0x") _, ← piece) (c.put.ensures first _ prefixed)
