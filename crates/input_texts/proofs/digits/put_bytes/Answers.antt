use Rattle.std.proofs.Common.{◌*◌, arith, ap, sym, ◌∙◌}
use Rattle.std.specs.Result.{result_ok}
use Rattle.hex.proofs.Pairs.{decode_done, decode_err, decode_step}
use Rattle.input_texts.proofs.DigitValues.{pair-fails, pair-is}
use Rattle.input_texts.proofs.digits.put_bytes.Goals as goal

pub pairs-preserved : goal.pairs-preserved
pairs-preserved c =
    let pair = pair-is _ _ (sym c.in-Some.is ∙ c.byte_of.ensures (2 * c.pairs.k)) in
    decode_step _ _ c.pairs.k _ (omega (arith, c.requires)) (omega (arith, c.pairs.auto.bytes)) pair c.pairs.invariant

pub returns-in-None : goal.returns-in-None
returns-in-None c =
    let pair = pair-fails _ (sym c.in-None.is ∙ c.byte_of.ensures (2 * c.pairs.k)) in
    ap result_ok (sym (decode_err _ c.pairs.bytes c.pairs.k pair.0 (omega (arith, c.requires)) pair.1 c.pairs.invariant))

pub returns : goal.returns
returns c =
    ap result_ok (sym (decode_done _ c.pairs.bytes c.pairs.k (omega (arith, c.pairs.auto.bytes)) (omega (arith, c.requires)) c.pairs.invariant))
