use Rattle.std.proofs.Common.{◌≡◌, ◌∙◌, ap, arith, false, sym, true}
use Rattle.input_texts.specs.TraceForms.{is_value}
use Rattle.input_texts.proofs.TraceReading.{Values, none-is, values-end, values-more, values-no, values-short, values-start}
use Rattle.input_texts.proofs.trace_form.is_of_values.Goals as goal

pub loop-k-init : goal.loop-k-init
loop-k-init c = ap (Values 0) c.of-words.ensures ∙ values-start _

pub returns-then-not-is_value : goal.returns-then-not-is_value
returns-then-not-is_value c =
    let no : is_value c.in-Some.word.now ≡ false = sym c.is_value.ensures ∙ c.if-not-is_value.true in
    sym (sym c.loop-k.invariant ∙ ap (Values c.loop-k._k) c.in-Some.ensures.next ∙ values-no c.loop-k._k c.in-Some.word.now _ no)

pub returns-in-None : goal.returns-in-None
returns-in-None c =
    sym (sym c.loop-k.invariant ∙ ap (Values c.loop-k._k) c.in-None.ensures.next ∙ values-short c.loop-k._k c.loop-k-test.true)

pub loop-k-preserved : goal.loop-k-preserved
loop-k-preserved c =
    let yes : is_value c.in-Some.word.now ≡ true = sym c.is_value.ensures ∙ c.if-not-is_value.false in
    sym (values-more c.loop-k._k c.in-Some.word.now _ yes) ∙ ap (Values c.loop-k._k) (sym c.in-Some.ensures.next) ∙ c.loop-k.invariant

pub returns : goal.returns
returns c =
    let fin = c.loop-k-test.false in
    let within = c.loop-k.auto._k-end in
    none-is c.next_word-2.result c.is_none.result c.is_none.ensures
    ∙ values-end c.loop-k._k c.loop-k.words _ c.next_word-2.result (omega (arith, fin, within)) c.next_word-2.ensures.next
    ∙ c.loop-k.invariant
