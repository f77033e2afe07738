use Rattle.std.proofs.Common.{◌≡◌, ◌-◌, ◌∙◌, ℕ, List, ap, arith, false, sym, take, true}
use Rattle.input_texts.specs.TraceForms.{is_told}
use Rattle.bpf_diff.specs.Against.{are_told, entry}
use Rattle.bpf_diff.proofs.AgainstTelling.{told-end, told-more, told-no, told-none}
use Rattle.bpf_diff.proofs.along.are_told.Goals as goal

pub loop-entry-init : goal.loop-entry-init
loop-entry-init c = ap (λ (ws : List (List ℕ)). are_told c.args.cpu.now 0 (take 12 ws)) c.of-words.ensures

pub returns-then-not-is_told : goal.returns-then-not-is_told
returns-then-not-is_told c =
    let k = c.loop-entry.entry in
    let x = c.args.cpu.now in
    let isnt : is_told (entry x k) c.in-Some.word.now ≡ false =
    ap (λ (n : ℕ). is_told n c.in-Some.word.now) (sym c.entry_in.ensures) ∙ sym c.is_told.ensures ∙ c.if-not-is_told.true in
    sym (sym c.loop-entry.invariant
    ∙ ap (λ (ws : List (List ℕ)). are_told x k (take (12 - k) ws)) c.in-Some.ensures.next
    ∙ told-no x k c.in-Some.word.now _ c.loop-entry-test.true isnt)

pub returns-in-None : goal.returns-in-None
returns-in-None c =
    let k = c.loop-entry.entry in
    let x = c.args.cpu.now in
    sym (sym c.loop-entry.invariant
    ∙ ap (λ (ws : List (List ℕ)). are_told x k (take (12 - k) ws)) c.in-None.ensures.next
    ∙ told-none x k)

pub loop-entry-preserved : goal.loop-entry-preserved
loop-entry-preserved c =
    let k = c.loop-entry.entry in
    let x = c.args.cpu.now in
    let does : is_told (entry x k) c.in-Some.word.now ≡ true =
    ap (λ (n : ℕ). is_told n c.in-Some.word.now) (sym c.entry_in.ensures) ∙ sym c.is_told.ensures ∙ c.if-not-is_told.false in
    sym (told-more x k c.in-Some.word.now _ c.loop-entry-test.true does)
    ∙ ap (λ (ws : List (List ℕ)). are_told x k (take (12 - k) ws)) (sym c.in-Some.ensures.next)
    ∙ c.loop-entry.invariant

pub returns : goal.returns
returns c =
    let all : c.loop-entry.entry ≡ 12 = omega (arith, c.loop-entry-test.false, c.loop-entry.auto.entry-end) in
    sym (told-end c.args.cpu.now c.loop-entry.entry c.loop-entry.words all) ∙ c.loop-entry.invariant
