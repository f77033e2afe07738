-- The slots that make a value, one after another.
use Rattle.std.proofs.Common.{◌≡◌, ◌<◌, ℕ, suc, ◌+◌, arith, Bool, true, false, List, [], ◌∷◌, ◌++◌, length, refl, sym, ap, ◌∙◌, subst}
use Rattle.std.specs.Prelude.{◌||◌, slice_set, Ok, Err, Result}
use Rattle.bpf_isa.specs.Programs.{Checked}
use Rattle.bpf_whynot.specs.Asked.{some_goals}
use Rattle.bpf_whynot.specs.Constants.{is_maker, makers, with_slot}
use Rattle.bpf_whynot.specs.Tables.{AreGoals}
use Rattle.bpf_whynot.specs.declared.fault.GoalFault.{GoalFault}
use Rattle.bpf_whynot.specs.declared.maker.Maker.{Maker}
use Rattle.bpf_whynot.specs.declared.fault.GoalFault.TheVariants.{NoConstant}

abbrev pub has_some : List ℕ → Bool
has_some [] = false
has_some (p ∷ goals) = true

pub some_more : (b : Bool) (p : ℕ) (goals : List ℕ) → (has_some goals || b) ≡ has_some (with_slot b p goals)
some_more true p [] = refl
some_more true p (q ∷ goals) = refl
some_more false p [] = refl
some_more false p (q ∷ goals) = refl

pub some_are : (goals : List ℕ) → has_some goals ≡ true → some_goals goals ≡ Ok goals
some_are [] e = absurd cc
some_are (p ∷ goals) e = refl

pub none_are : (goals : List ℕ) → has_some goals ≡ false → some_goals goals ≡ Err NoConstant
none_are [] e = refl
none_are (p ∷ goals) e = absurd cc

one_more : (n : ℕ) → suc n ≡ n + 1
one_more n = omega arith

module _ (program : Checked) (m : Maker) (n : ℕ) (made : Bool) (is : made ≡ is_maker program m n) where
  pub found_more : (found : Bool) → found ≡ has_some (makers program m n) → (found || made) ≡ has_some (makers program m (n + 1))
  found_more found e =
      subst (λ (k : ℕ). (found || made) ≡ has_some (makers program m k)) (one_more n)
      (ap (λ (b : Bool). b || made) e ∙ ap (λ (b : Bool). has_some (makers program m n) || b) is
      ∙ some_more (is_maker program m n) n (makers program m n))

  pub flags_more : (flags : List Bool) → AreGoals program (with_slot made n (makers program m n)) flags → AreGoals program (makers program m (n + 1)) flags
  flags_more flags are =
      subst (λ (k : ℕ). AreGoals program (makers program m k) flags) (one_more n)
      (subst (λ (b : Bool). AreGoals program (with_slot b n (makers program m n)) flags) is are)
