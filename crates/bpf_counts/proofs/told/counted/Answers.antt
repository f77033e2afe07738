use Rattle.std.proofs.Common.{◌≡◌, ◌<◌, ◌⊎◌, ◌∙◌, ℕ, List, [], inl, inr, length, map, subst, sym, add-one}
use Rattle.std.proofs.lemmas.List.{get_or-map, length-map}
use Rattle.std.specs.Borrow.{Bor}
use Rattle.std.specs.Prelude.{get_or}
use Rattle.bpf_link.specs.declared.fault.LinkFault.TheVariants.{Memory}
use Rattle.bpf_counts.specs.Counted.{AreCounted, IsCountedBy, IsUncountedBy}
use Rattle.bpf_counts.proofs.told.counted.Goals as goal

-- a text and what it holds
named : (texts : List (Bor (List ℕ))) (k : ℕ) (none : Bor (List ℕ)) → k < length texts → (get_or texts k none).now ≡ get_or (map (λ text. text.now) texts) k []
named texts k none inside = sym (get_or-map (λ text. text.now) texts k none [] inside)

-- it is one of them
inside : (texts : List (Bor (List ℕ))) (k : ℕ) → k < length texts → k < length (map (λ text. text.now) texts)
inside texts k test = subst (λ n. k < n) (sym (length-map texts (λ text. text.now))) test

both : {A B C : Type 0} → A → B ⊎ C → B ⊎ (A × C)
both a (inl b) = inl b
both a (inr c) = inr (a, c)

pub loop-k-preserved : goal.loop-k-preserved
loop-k-preserved c =
    let new = c.in-Ok-counted_by.new.items in
    let text = c.as_bytes.ensures.value ∙ named c.args.texts.now c.loop-k.k record { ref_ptr = (0, 0); now = [] } c.loop-k-test.true in
    let counted = subst (λ (bytes : List ℕ). IsCountedBy bytes c.args.section.now c.as_bytes.result.now new) c.as_slice.ensures.value c.in-Ok-counted_by.ensures.ok in
    subst (λ n. AreCounted c.args.object.now c.args.section.now (map (λ text. text.now) c.args.texts.now) n new) (sym (add-one c.loop-k.k))
    (c.loop-k.all.items, c.loop-k.invariant, subst (λ (text : List ℕ). IsCountedBy c.loop-k.all.items c.args.section.now text new) text counted)

pub returns-in-Err-counted_by-clause-err : goal.returns-in-Err-counted_by-clause-err
returns-in-Err-counted_by-clause-err c =
    let fault = c.in-Err-counted_by.fault in
    let text = c.as_bytes.ensures.value ∙ named c.args.texts.now c.loop-k.k record { ref_ptr = (0, 0); now = [] } c.loop-k-test.true in
    let why =
    subst (λ (bytes : List ℕ). (fault ≡ Memory) ⊎ IsUncountedBy bytes c.args.section.now c.as_bytes.result.now fault) c.as_slice.ensures.value c.in-Err-counted_by.ensures.err in
    record {
      before = c.loop-k.all.items;
      counted = c.loop-k.invariant;
      why = both (inside c.args.texts.now c.loop-k.k c.loop-k-test.true)
          (subst (λ (text : List ℕ). (fault ≡ Memory) ⊎ IsUncountedBy c.loop-k.all.items c.args.section.now text fault) text why);
    }
