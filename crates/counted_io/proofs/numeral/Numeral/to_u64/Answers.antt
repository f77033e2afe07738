-- Each turn reads a digit; a value that is too large stays so.
use Rattle.std.proofs.Common.{◌∙◌, arith, ap}
use Rattle.counted_io.specs.Numerals.{as_u64}
use Rattle.counted_io.proofs.Numerals.{Reads-more, Reads-large, Reads-all}
use Rattle.counted_io.proofs.numeral.Numeral.to_u64.Goals as goal

pub returns-in_err-checked_mul : goal.returns-in_err-checked_mul
returns-in_err-checked_mul c =
    let large = c.in_err-checked_mul.ensures in
    c.from_residual.ensures ∙ Reads-large _ _ _ _ _ c.self.invariant c.loop-byte-test.true c.loop-byte.invariant c.from.ensures (omega (arith, large))
    ∙ ap as_u64 c.self.view_is

pub returns-in_err-value : goal.returns-in_err-value
returns-in_err-value c =
    let digit = c.from-in-loop-byte.ensures ∙ c.digit_value.ensures in
    let large = c.in_err-value.ensures in
    c.from_residual-in_err-value.ensures
    ∙ Reads-large _ _ _ _ _ c.self.invariant c.loop-byte-test.true c.loop-byte.invariant c.from.ensures (omega (arith, digit, c.in_ok-checked_mul.ensures, large))
    ∙ ap as_u64 c.self.view_is

pub loop-byte-preserved : goal.loop-byte-preserved
loop-byte-preserved c =
    let digit = c.from-in-loop-byte.ensures ∙ c.digit_value.ensures in
    let sum = c.in_ok-value.ensures in
    Reads-more _ _ _ _ _ _ c.loop-byte-test.true c.loop-byte.invariant c.from.ensures (omega (arith, digit, c.in_ok-checked_mul.ensures, sum)) (omega (arith, sum))

pub returns : goal.returns
returns c = Reads-all _ _ _ _ (omega arith) c.loop-byte.invariant ∙ ap as_u64 c.self.view_is
