use Rattle.std.proofs.Common.{◌≡◌, ◌<◌, ◌+◌, ℕ, suc, Bool, List, [], ◌∷◌, ap, add-one, arith, length, map, refl, rules, sym, subst, ◌∙◌}
use Rattle.std.proofs.lemmas.List.{get_or-map}
use Rattle.std.specs.Prelude.{Vec, get_or}
use Rattle.std.specs.declared.alloc.Global.{Global}
use Rattle.bpf_join.specs.Chains.{ComesTo, IsChainFault, IsTold, others}
use Rattle.bpf_join.specs.Joined.{IsJoined}
use Rattle.bpf_join.specs.declared.chain.ChainFault.{ChainFault}
use Rattle.bpf_join.specs.declared.joined.Joined.{Joined}
use Rattle.bpf_join.proofs.chain.join_further.Goals as goal

-- A further object by its number among the others.
other_is : (second : List ℕ) (further : List (Vec ℕ Global)) (k : ℕ) (it : Vec ℕ Global) → k < length further → get_or (others second further) (k + 1) [] ≡ (get_or further k it).items
other_is second further k it inside = subst (λ n. get_or (others second further) n [] ≡ (get_or further k it).items) (sym (add-one k)) (get_or-map (λ other. other.items) further k it [] inside)

-- One more object.
comes_more : (a section : List ℕ) (others : List (List ℕ)) (as_compiled : Bool) (n : ℕ) (before other : List ℕ) (joined : Joined) → ComesTo a others section as_compiled n before
    → other ≡ get_or others n [] → IsJoined before other section as_compiled joined → ComesTo a others section as_compiled (n + 1) joined.bytes.items
comes_more a section others as_compiled n before other joined begun same more =
    subst (λ m. ComesTo a others section as_compiled m joined.bytes.items) (sym (add-one n))
    (before, begun, joined, subst (λ o. IsJoined before o section as_compiled joined) same more, refl)

-- What is told of the k-th of the further ones.
fault_more : (a section : List ℕ) (others : List (List ℕ)) (as_compiled : Bool) (n : ℕ) (before other : List ℕ) (told : ChainFault) → told.index ≡ n → n < length others
    → ComesTo a others section as_compiled n before → other ≡ get_or others n [] → IsTold before other section as_compiled told
    → IsChainFault a others section as_compiled told
fault_more a section others as_compiled n before other told index inside begun same why =
    let at = sym index in
    record {
      inside = subst (λ m. m < length others) at inside;
      before = before;
      comes = subst (λ m. ComesTo a others section as_compiled m before) at begun;
      is_told = subst (λ m. IsTold before (get_or others m []) section as_compiled told) at (subst (λ o. IsTold before o section as_compiled told) same why);
    }

same_length : (further : List (Vec ℕ Global)) → length (map (λ other. other.items) further) ≡ length further
same_length [] = refl
same_length (other ∷ further) = ap suc (same_length further)

-- so many there are
count_is : (second : List ℕ) (further : List (Vec ℕ Global)) (k : ℕ) → k < length further → k + 1 < length (others second further)
count_is second further k inside = let same = same_length further in omega (arith, inside, same)

all_of_them : (second : List ℕ) (further : List (Vec ℕ Global)) → length further + 1 ≡ length (others second further)
all_of_them second further = add-one (length further) ∙ ap suc (sym (same_length further))

pub returns-in-Err-clause-err : goal.returns-in-Err-clause-err
returns-in-Err-clause-err c =
    let further = c.args.further.now in
    let second = c.args.second.now in
    let told = c.in-Err.ensures.err in
    let other = c.as_slice-other.ensures.value ∙ ap (λ v. v.items) c.index-further-k.is ∙ sym (other_is second further c.loop-k.k c.index-further-k.result c.loop-k-test.true) in
    fault_more c.args.first.now c.args.section.now (others second further) c.args.as_compiled (c.loop-k.k + 1) c.loop-k.all.items c.as_slice-other.result.now c.in-Err.told
    c.in-Err.ensures.index (count_is second further c.loop-k.k c.loop-k-test.true) c.loop-k.invariant other
    (rw c.as_slice.ensures.value at told)

pub loop-k-preserved : goal.loop-k-preserved
loop-k-preserved c =
    let further = c.args.further.now in
    let second = c.args.second.now in
    let other = c.as_slice-other.ensures.value ∙ ap (λ v. v.items) c.index-further-k.is ∙ sym (other_is second further c.loop-k.k c.index-further-k.result c.loop-k-test.true) in
    comes_more c.args.first.now c.args.section.now (others second further) c.args.as_compiled (c.loop-k.k + 1) c.loop-k.all.items c.as_slice-other.result.now c.in-Ok.joined
    c.loop-k.invariant other (rw c.as_slice.ensures.value at c.in-Ok.ensures.ok)

pub returns-clause-ok : goal.returns-clause-ok
returns-clause-ok c =
    subst (λ n. ComesTo c.args.first.now (others c.args.second.now c.args.further.now) c.args.section.now c.args.as_compiled n c.loop-k.all.items)
    (ap (λ n. n + 1) (search rules) ∙ all_of_them c.args.second.now c.args.further.now) c.loop-k.invariant
