use Rattle.std.proofs.Common.{◌≡◌, ◌+◌, ◌^◌, ◌<◌, ◌≤◌, drop, length, false}
use Rattle.std.specs.Fmt.{digits}
use Rattle.counted_io.proofs.HexDigits.{digits_left}
use Rattle.bpf_trace.proofs.line.write_digits.Given as goal

abbrev pub invariant-loop-rest : goal.invariant-loop-rest
invariant-loop-rest l = record {
  room : l.start ≤ 16;
  sized : length l.buffer ≡ 16;
  some : 1 ≤ l.start;
  small : l.rest < 16 ^ l.start;
  rest_of : digits_left (48 + l.start) l.rest (drop l.start l.buffer) ≡ digits 16 false l.fn.value;
}

abbrev pub decreases-loop-rest : goal.decreases-loop-rest
decreases-loop-rest l = l.rest
