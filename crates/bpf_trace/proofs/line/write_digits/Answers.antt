-- The digits are written from the last one on.
use Rattle.std.proofs.Common.{◌∙◌, ap, arith}
use Rattle.std.proofs.lemmas.Grind.{common_steps}
use Rattle.std.proofs.Math.ListN.{drop_of_length-le}
use Rattle.counted_io.proofs.HexDigits.{digits_left, digits_left-all, digits_left-write, digits_left-first, div-lt-pow, pow-two}
use Rattle.bpf_trace.proofs.line.write_digits.Goals as goal

pub loop-rest-init : goal.loop-rest-init
loop-rest-init c = record {
  room = omega arith;
  sized = omega arith;
  some = omega arith;
  small = c.ranges.value.fits;
  rest_of = ap (digits_left 64 c.args.value) (drop_of_length-le c.args.buffer.now {i = 16} (omega arith)) ∙ digits_left-all c.args.value;
}

pub loop-rest-preserved : goal.loop-rest-preserved
loop-rest-preserved c =
    let known = c.loop-rest.invariant in
    let two = pow-two _ _ c.loop-rest-test.true known.small in record {
      room = omega arith;
      sized = grind (arith, common_steps);
      some = omega arith;
      small = div-lt-pow _ _ c.loop-rest-test.true known.small;
      rest_of = digits_left-write _ _ _ _ _ known.some (omega arith) c.loop-rest-test.true c.digit.ensures known.rest_of;
    }

pub returns-clause-value : goal.returns-clause-value
returns-clause-value c =
    let known = c.loop-rest.invariant in
    digits_left-first _ _ _ _ _ known.some (omega arith) c.loop-rest-test.false c.digit-2.ensures known.rest_of
