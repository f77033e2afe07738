use Rattle.std.proofs.Common.{◌≡◌, ◌<◌, ◌+◌, ◌*◌, ℕ, zero, suc, List, [], ◌∷◌, length, get_or, min, arith}
use Rattle.std.specs.Char.{digit_value}
use Rattle.std.specs.Str.Parse.{AllDigits}
use Rattle.std.proofs.lemmas.Int.Digits.{digits_more, digits_value_more}
use Rattle.bpf_isa.proofs.maps.numeral_value.Goals as goal

digit_small : (ds : List ℕ) (i : ℕ) → AllDigits 10 ds → i < length ds → digit_value (get_or ds i 0) < 10
digit_small [] i all inside = absurd (omega arith)
digit_small (c ∷ cs) zero all inside = all.0
digit_small (c ∷ cs) (suc i) all inside = digit_small cs i all.1 (omega arith)

capped : (n v d n10 next w x m : ℕ) → n ≡ min v m → n10 ≡ min (n * 10) m → next ≡ min (n10 + d) m → d ≡ w → x ≡ v * 10 + w → next ≡ min x m
capped n v d n10 next w x m p q r s t = omega arith

pub returns-in-None-clause-none : goal.returns-in-None-clause-none
returns-in-None-clause-none c = λ numeral. let small = digit_small c.args.digits.now c.loop-byte.byte-index numeral.1 c.loop-byte-test.true in let s = c.in-None.ensures.succeeds small in cc

pub loop-byte-preserved : goal.loop-byte-preserved
loop-byte-preserved c =
    let v = c.in-Some.ensures.value in
    let more = digits_value_more 10 c.args.digits.now c.loop-byte.byte-index c.loop-byte-test.true in
    let before = c.loop-byte.invariant.value in
    record {
      digits = digits_more 10 c.args.digits.now c.loop-byte.byte-index c.loop-byte-test.true c.loop-byte.invariant.digits v.0;
      value = capped _ _ _ _ _ _ _ _ before c.saturating_mul.ensures (c.saturating_add-value.ensures) v.1 more;
    }
