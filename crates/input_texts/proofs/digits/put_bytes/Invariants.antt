use Rattle.std.proofs.Common.{◌≡◌, ◌*◌, take, drop}
use Rattle.hex.specs.Hex.{decode_pairs}
use Rattle.hex.proofs.Pairs.{prepend}
use Rattle.input_texts.proofs.digits.put_bytes.Given as goal

-- the bytes of the digits behind us are in place
abbrev pub invariant-pairs : goal.invariant-pairs
invariant-pairs l = decode_pairs 0 l.digits ≡ prepend (take l.k l.bytes) (decode_pairs (2 * l.k) (drop (2 * l.k) l.digits))
