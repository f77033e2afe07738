use Rattle.std.proofs.Common.{◌≡◌, ◌++◌, ◌∙◌, ℕ, List, length, take, drop, ap, arith}
use Rattle.std.proofs.lemmas.List.{append-nil, drop_all, length-take, take_all}
use Rattle.bpf_ring.proofs.block.copy.Goals as goal

whole : (n : ℕ) (into bytes new : List ℕ) → length into ≡ length bytes → length bytes ≡ n → new ≡ take n bytes → new ++ drop n into ≡ bytes
whole n into bytes new same long is =
    ap (λ l. l ++ drop n into) is
    ∙ ap (λ l. take n bytes ++ l) (drop_all n into (omega (arith, same, long)))
    ∙ append-nil (take n bytes)
    ∙ take_all n bytes (omega (arith, long))

pub copy_from_slice-requires-in-16 : goal.copy_from_slice-requires-in-16
copy_from_slice-requires-in-16 c = omega (arith, length-take 16 c.args.into.now, length-take 16 c.args.bytes.now, c.requires)

pub returns-in-16 : goal.returns-in-16
returns-in-16 c = whole 16 c.args.into.now c.args.bytes.now c.copy_from_slice-in-16.new.self c.requires (omega (arith, c.in-16.is)) c.copy_from_slice-in-16.ensures.after

pub returns-in-24 : goal.returns-in-24
returns-in-24 c = whole 24 c.args.into.now c.args.bytes.now c.copy_from_slice-in-24.new.self c.requires (omega (arith, c.in-24.is)) c.copy_from_slice-in-24.ensures.after
