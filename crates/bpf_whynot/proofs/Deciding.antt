-- What is sure goes on, and so what decided about a younger slot decided about an older one.
use Rattle.std.proofs.Common.{◌≡◌, ◌<◌, inl, inr, ℕ, ◌+◌, Bool, true, false, length, Some, refl, sym, subst, ◌∙◌, arith}
use Rattle.std.specs.Prelude.{pos, ◌==◌, ◌&&◌, not}
use Rattle.std.proofs.lemmas.Bool.Decides.{nat_tests}
use Rattle.bpf_isa.specs.Programs.{Checked, slots_of, target_of}
use Rattle.bpf_isa.specs.declared.instruction.Insn.{Insn}
use Rattle.bpf_isa.specs.declared.instruction.Insn.TheVariants.{JumpIf}
use Rattle.bpf_whynot.specs.Sures.{IsSure, Way, is_end_but, is_target}
use Rattle.bpf_whynot.specs.Sures.Way.{there as way_there, on as way_on, jumped as way_jumped}
use Rattle.bpf_whynot.proofs.Flowing.{stands_within}
use Rattle.bpf_whynot.specs.Branches.{JustOne}
use Rattle.bpf_whynot.specs.BranchLaws.{IsWayOut, OlderIsDecided, SureGoesOn}

pub one_slot : (a b : ℕ) → (a == b) ≡ true → a ≡ b
one_slot a b e = grind (arith, nat_tests)

end_but : (a b c : Bool) → (a && not b) ≡ true → c ≡ false → (a && not c) ≡ true
end_but true b true e f = absurd cc
end_but true b false e f = refl
end_but false b c e f = e

module _ (program : Checked) (young old : ℕ) where
  -- a way to the older slot, and from there to the younger one
  or_there : (p : ℕ) (b : Bool) → (p == young) ≡ b → p < length program.insns
      → ((p == young) ≡ false → Way program young (is_target young) p) → Way program young (is_target young) p
  or_there p true e within on = way_there within e
  or_there p false e within on = on e

  onwards : (p : ℕ) → Way program old (is_target old) p → Way program young (is_target young) old → Way program young (is_target young) p
  onwards p (way_there low e) rest = subst (λ (q : ℕ). Way program young (is_target young) q) (sym (one_slot p old e)) rest
  onwards p (way_on i apart stands goes w) rest =
      or_there p (p == young) refl (stands_within program p i stands) (λ e. way_on i e stands goes (onwards (p + slots_of i) w rest))
  onwards p (way_jumped i q apart stands jump to w) rest =
      or_there p (p == young) refl (stands_within program p i stands) (λ e. way_jumped i q e stands jump to (onwards q w rest))

  -- a way to an end without the younger slot comes to the older one, or is one without that
  or_old : (p : ℕ) (b : Bool) → (p == old) ≡ b → Way program young (is_end_but program young) p
      → (Way program young (is_end_but program young) old → ⊥) → ((p == old) ≡ false → ⊥) → ⊥
  or_old p true e w never on = never (subst (λ (q : ℕ). Way program young (is_end_but program young) q) (one_slot p old e) w)
  or_old p false e w never on = on e

  without : (p : ℕ) → Way program young (is_end_but program young) p → (Way program young (is_end_but program young) old → ⊥)
      → (Way program old (is_end_but program old) p → ⊥) → ⊥
  without p (way_there low e) never none =
      or_old p (p == old) refl (way_there low e) never (λ f. none (way_there low (end_but _ (p == young) (p == old) e f)))
  without p (way_on i apart stands goes w) never none =
      or_old p (p == old) refl (way_on i apart stands goes w) never
      (λ f. without (p + slots_of i) w never (λ tail. none (way_on i f stands goes tail)))
  without p (way_jumped i q apart stands jump to w) never none =
      or_old p (p == old) refl (way_jumped i q apart stands jump to w) never
      (λ f. without q w never (λ tail. none (way_jumped i q f stands jump to tail)))

pub sure_goes_on : SureGoesOn
sure_goes_on program young old p here there = (
  onwards program young old p here.0 there.0,
  (λ w. without program young old p w there.1 here.1),
)

pub same_way : (a b : ℕ) → Some (pos a) ≡ Some (pos b) → a ≡ b
same_way a b e = cc

just_one : (program : Checked) (young old p q way : ℕ) (i : Insn) → target_of p i ≡ Some (pos q)
    → JustOne (IsSure program young (p + 1)) (IsSure program young q) → IsWayOut p i way → IsSure program old way → IsSure program young old
    → JustOne (IsSure program old (p + 1)) (IsSure program old q)
just_one program young old p q way i to (inl d) (inl e) sure on =
    inl (subst (λ (s : ℕ). IsSure program old s) e sure, λ s. d.1 (sure_goes_on program young old q s on))
just_one program young old p q way i to (inl d) (inr e) sure on =
    absurd (d.1 (sure_goes_on program young old q (subst (λ (s : ℕ). IsSure program old s) (same_way way q (sym e ∙ to)) sure) on))
just_one program young old p q way i to (inr d) (inl e) sure on =
    absurd (d.0 (sure_goes_on program young old (p + 1) (subst (λ (s : ℕ). IsSure program old s) e sure) on))
just_one program young old p q way i to (inr d) (inr e) sure on =
    inr ((λ s. d.0 (sure_goes_on program young old (p + 1) s on)), subst (λ (s : ℕ). IsSure program old s) (same_way way q (sym e ∙ to)) sure)

pub older_is_decided : OlderIsDecided
older_is_decided program young old p way (JumpIf condition width dst source offset) d out sure on =
    (d.0, d.1, just_one program young old p d.0 way (JumpIf condition width dst source offset) d.1 d.2 out sure on)
older_is_decided program young old p way _ d out sure on = absurd d
