use Rattle.std.proofs.Common.{◌≡◌, ◌++◌, ◌∙◌, ℕ, List, length, take, drop, ap, arith}
use Rattle.std.proofs.lemmas.List.{append-nil, drop_all, length-take, take_all}
use Rattle.bpf_ring.proofs.backward.hand_text.Goals as goal

whole : (n : ℕ) (into text new : List ℕ) → length into ≡ length text → length text ≡ n → new ≡ take n text → new ++ drop n into ≡ text
whole n into text new same long is =
    ap (λ l. l ++ drop n into) is
    ∙ ap (λ l. take n text ++ l) (drop_all n into (omega (arith, same, long)))
    ∙ append-nil (take n text)
    ∙ take_all n text (omega (arith, long))

pub revert_and_copy-requires-then-len-eq24-clause-len : goal.revert_and_copy-requires-then-len-eq24-clause-len
revert_and_copy-requires-then-len-eq24-clause-len c = omega (arith, length-take 24 c.args.into.now, length-take 24 c.args.text.now, c.requires.len)

pub returns-then-len-eq24-clause-copied : goal.returns-then-len-eq24-clause-copied
returns-then-len-eq24-clause-copied c = whole 24 c.args.into.now c.args.text.now c.revert_and_copy-then-len-eq24.new.into c.requires.len (omega (arith, c.text_len-len.ensures.value, c.if-len-eq24.true)) c.revert_and_copy-then-len-eq24.ensures.copied
