use Rattle.std.proofs.Common.{◌≡◌, ◌∙◌, ℕ, List, ap₂, arith, false, length, sym, true}
use Rattle.std.specs.Prelude.{max}
use Rattle.bpf_origin.specs.declared.place.Place.TheVariants.{Word}
use Rattle.bpf_diff.proofs.Leaving.{is-here, isnt-here, test_of, words-more, words-none, words-start, words-whole}
use Rattle.bpf_diff.proofs.seen.first_of_words.Goals as goal

pub loop-i-init : goal.loop-i-init
loop-i-init c = words-start (test_of c.args.sides.now) _

pub returns-then-is_otherwise : goal.returns-then-is_otherwise
returns-then-is_otherwise c =
    let test = test_of c.args.sides.now in
    let is : test (Word c.loop-i.i) ≡ true = sym c.is_otherwise.ensures ∙ c.if-is_otherwise.true in
    is-here test (Word c.loop-i.i) _ is
    ∙ sym (words-more test _ c.loop-i.i c.loop-i-test.true)
    ∙ c.loop-i.invariant
    ∙ words-whole c.args.sides.now _ (c.greater-len.ensures ∙ ap₂ (λ (a b : List ℕ). max (length a) (length b)) c.trace.ensures.value c.trace-2.ensures.value)

pub loop-i-preserved : goal.loop-i-preserved
loop-i-preserved c =
    let test = test_of c.args.sides.now in
    let isnt : test (Word c.loop-i.i) ≡ false = sym c.is_otherwise.ensures ∙ c.if-is_otherwise.false in
    sym (isnt-here test (Word c.loop-i.i) _ isnt)
    ∙ sym (words-more test _ c.loop-i.i c.loop-i-test.true)
    ∙ c.loop-i.invariant

pub returns : goal.returns
returns c =
    let fin = c.loop-i-test.false in
    let within = c.loop-i.auto.i-end in
    sym (words-none (test_of c.args.sides.now) c.loop-i.i _ (omega (arith, fin, within))) ∙ c.loop-i.invariant
    ∙ words-whole c.args.sides.now _ (c.greater-len.ensures ∙ ap₂ (λ (a b : List ℕ). max (length a) (length b)) c.trace.ensures.value c.trace-2.ensures.value)
