-- The jumps that lead to each slot.
use Rattle.std.proofs.Common.{◌≡◌, ◌≢◌, ◌<◌, ◌≤◌, ◌⊎◌, inl, inr, ℕ, suc, ◌+◌, List, length, get_or, refl, sym, ap, ◌∙◌, subst, arith, length-set, Option, Some, None}
use Rattle.std.proofs.lemmas.List.{get_or-set_same, get_or-set_other}
use Rattle.bpf_isa.specs.Programs.{Checked}
use Rattle.bpf_whynot.specs.Flows.{AreSources, PutsSource, jump}
use Rattle.bpf_whynot.specs.declared.sources.Sources.{Sources}

same_or_other : (i j : ℕ) → (i ≡ j) ⊎ (i ≢ j)
same_or_other i j = grind arith

one_slot : (o : Option ℕ) (t q : ℕ) → o ≡ Some t → o ≡ Some q → q ≡ t
one_slot o t q e f = cc

no_slot : {A : Type 0} (o : Option ℕ) (q : ℕ) → o ≡ None → o ≡ Some q → A
no_slot o q e f = absurd cc

suc_is : (p q : ℕ) → q + 1 ≡ suc p → p ≡ q
suc_is p q e = omega (arith, e)

-- a slot without a jump in the program changes nothing
pub stays : (program : Checked) (slot : ℕ) (sources : Sources)
    → ((q : ℕ) → jump program slot ≡ Some q → length program.insns ≤ q) → AreSources program slot sources → AreSources program (slot + 1) sources
stays program slot sources none a = record {
  first = λ p q leads low within. first p q leads low within (same_or_other p slot);
  first_below = λ q. let below = a.first_below q in omega (arith, below);
  first_of = a.first_of;
  next = λ p s q from to within low below. next p s q from to within low below (same_or_other s slot);
  next_below = a.next_below;
  next_of = a.next_of;
  firsts = a.firsts;
  nexts = a.nexts;
}
  where
    behind : (q : ℕ) → q < length program.insns → jump program slot ≡ Some q → ⊥
    behind q within leads = let high = none q leads in omega (arith, within, high)

    first : (p q : ℕ) → jump program p ≡ Some q → p < slot + 1 → q < length program.insns → (p ≡ slot) ⊎ (p ≢ slot) → p < get_or sources.first.items q 0
    first p q leads low within (inl same) = absurd (behind q within (subst (λ (i : ℕ). jump program i ≡ Some q) same leads))
    first p q leads low within (inr apart) = a.first p q leads (omega (arith, low, apart)) within

    next : (p s q : ℕ) → jump program p ≡ Some q → jump program s ≡ Some q → q < length program.insns → p < s → s < slot + 1
        → (s ≡ slot) ⊎ (s ≢ slot) → p < get_or sources.next.items s 0
    next p s q from to within low below (inl same) = absurd (behind q within (subst (λ (i : ℕ). jump program i ≡ Some q) same to))
    next p s q from to within low below (inr apart) = a.next p s q from to within low (omega (arith, below, apart))

pub stays_none : (program : Checked) (slot : ℕ) (sources : Sources) → jump program slot ≡ None → AreSources program slot sources
    → AreSources program (slot + 1) sources
stays_none program slot sources none a = stays program slot sources (λ q leads. no_slot (jump program slot) q none leads) a

pub stays_far : (program : Checked) (slot target : ℕ) (sources : Sources) → jump program slot ≡ Some target → length sources.first.items ≤ target
    → AreSources program slot sources → AreSources program (slot + 1) sources
stays_far program slot target sources leads far a =
    stays program slot sources (λ q to. let same = one_slot (jump program slot) target q leads to in let size = a.firsts in omega (arith, same, size, far)) a

-- one more jump
pub puts : (program : Checked) (slot target : ℕ) (old new : Sources) → jump program slot ≡ Some target → target < length old.first.items
    → slot < length old.next.items → PutsSource slot target old new → AreSources program slot old → AreSources program (slot + 1) new
puts program slot target old new leads inside within put a = record {
  first = λ p q from low there. first p q from low there (same_or_other q target);
  first_below = λ q. first_below q (same_or_other q target);
  first_of = λ p q is. first_of p q is (same_or_other q target);
  next = λ p s q from to there low below. next p s q from to there low below (same_or_other s slot);
  next_below = λ s. next_below s (same_or_other s slot);
  next_of = λ p s q is to. next_of p s q is to (same_or_other s slot);
  firsts = ap length put.first ∙ length-set old.first.items target (slot + 1) ∙ a.firsts;
  nexts = ap length put.next ∙ length-set old.next.items slot (get_or old.first.items target 0) ∙ a.nexts;
}
  where
    first_here : (q : ℕ) → q ≡ target → get_or new.first.items q 0 ≡ slot + 1
    first_here q same =
        ap (get_or new.first.items q) refl ∙ ap (λ (i : ℕ). get_or new.first.items i 0) same ∙ ap (λ (items : List ℕ). get_or items target 0) put.first
        ∙ get_or-set_same old.first.items target (slot + 1) 0 inside

    first_other : (q : ℕ) → q ≢ target → get_or new.first.items q 0 ≡ get_or old.first.items q 0
    first_other q apart = ap (λ (items : List ℕ). get_or items q 0) put.first ∙ get_or-set_other old.first.items target q (slot + 1) 0 apart

    next_here : (s : ℕ) → s ≡ slot → get_or new.next.items s 0 ≡ get_or old.first.items target 0
    next_here s same =
        ap (λ (i : ℕ). get_or new.next.items i 0) same ∙ ap (λ (items : List ℕ). get_or items slot 0) put.next
        ∙ get_or-set_same old.next.items slot (get_or old.first.items target 0) 0 within

    next_other : (s : ℕ) → s ≢ slot → get_or new.next.items s 0 ≡ get_or old.next.items s 0
    next_other s apart = ap (λ (items : List ℕ). get_or items s 0) put.next ∙ get_or-set_other old.next.items slot s (get_or old.first.items target 0) 0 apart

    here : (p q : ℕ) → jump program p ≡ Some q → p ≡ slot → q ≡ target
    here p q from same = one_slot (jump program slot) target q leads (subst (λ (i : ℕ). jump program i ≡ Some q) same from)

    first : (p q : ℕ) → jump program p ≡ Some q → p < slot + 1 → q < length program.insns → (q ≡ target) ⊎ (q ≢ target) → p < get_or new.first.items q 0
    first p q from low there (inl same) = let is = first_here q same in omega (arith, is, low)
    first p q from low there (inr apart) =
        let other : p ≢ slot = λ e. apart (here p q from e) in
        let old_first = a.first p q from (omega (arith, low, other)) there in
        let is = first_other q apart in
        omega (arith, is, old_first)

    first_below : (q : ℕ) → (q ≡ target) ⊎ (q ≢ target) → get_or new.first.items q 0 ≤ slot + 1
    first_below q (inl same) = let is = first_here q same in omega (arith, is)
    first_below q (inr apart) = let is = first_other q apart in let below = a.first_below q in omega (arith, is, below)

    first_of : (p q : ℕ) → get_or new.first.items q 0 ≡ suc p → (q ≡ target) ⊎ (q ≢ target) → jump program p ≡ Some q
    first_of p q is (inl same) =
        let p_is : p ≡ slot = suc_is p slot (sym (first_here q same) ∙ is) in
        ap (jump program) p_is ∙ leads ∙ ap Some (sym same)
    first_of p q is (inr apart) = a.first_of p q (sym (first_other q apart) ∙ is)

    next : (p s q : ℕ) → jump program p ≡ Some q → jump program s ≡ Some q → q < length program.insns → p < s → s < slot + 1
        → (s ≡ slot) ⊎ (s ≢ slot) → p < get_or new.next.items s 0
    next p s q from to there low below (inl same) =
        let q_is = here s q to same in
        let old_first = a.first p q from (omega (arith, low, same)) there in
        let is = next_here s same in
        let at = ap (λ (i : ℕ). get_or old.first.items i 0) q_is in
        omega (arith, is, old_first, at)
    next p s q from to there low below (inr apart) =
        let is = next_other s apart in
        let old_next = a.next p s q from to there low (omega (arith, below, apart)) in
        omega (arith, is, old_next)

    next_below : (s : ℕ) → (s ≡ slot) ⊎ (s ≢ slot) → get_or new.next.items s 0 ≤ s
    next_below s (inl same) = let is = next_here s same in let below = a.first_below target in omega (arith, is, below, same)
    next_below s (inr apart) = let is = next_other s apart in let below = a.next_below s in omega (arith, is, below)

    next_of : (p s q : ℕ) → get_or new.next.items s 0 ≡ suc p → jump program s ≡ Some q → (s ≡ slot) ⊎ (s ≢ slot) → jump program p ≡ Some q
    next_of p s q is to (inl same) =
        a.first_of p target (sym (next_here s same) ∙ is) ∙ ap Some (sym (here s q to same))
    next_of p s q is to (inr apart) = a.next_of p s q (sym (next_other s apart) ∙ is) to
