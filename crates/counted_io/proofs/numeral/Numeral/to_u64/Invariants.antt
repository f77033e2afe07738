use Rattle.counted_io.proofs.Numerals.{Reads}
use Rattle.counted_io.proofs.numeral.Numeral.to_u64.Given as goal

abbrev pub invariant-loop-byte : goal.invariant-loop-byte
invariant-loop-byte l = Reads l.self-inside.radix l.self-inside.digits.now l.byte-index l.value
