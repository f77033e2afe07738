-- The slots that are asked about, one item after another.
use Rattle.std.proofs.Common.{◌≡◌, ◌≢◌, ◌<◌, ◌⊎◌, inl, inr, ℕ, zero, suc, Bool, true, false, List, [], ◌∷◌, ◌++◌, length, get_or, take, refl, sym, ap, ◌∙◌, subst, arith, Option, Some, None, length-set}
use Rattle.std.specs.Prelude.{Result, Ok, Err, ◌==◌, ◌||◌, is_some, slice_set, if◌then◌else◌}
use Rattle.std.proofs.lemmas.Bool.Decides.{nat_tests}
use Rattle.std.proofs.lemmas.List.{get_or-set_same, get_or-set_other}
use Rattle.bpf_isa.specs.Programs.{Checked, insn_at}
use Rattle.bpf_isa.specs.declared.instruction.Insn.{Insn}
use Rattle.bpf_origin.specs.Asked.{number}
use Rattle.bpf_whynot.specs.Asked.{and_goals, goal_in, goals_of, start_at, with_goal}
use Rattle.bpf_whynot.specs.Reach.{is_goal}
use Rattle.bpf_whynot.specs.Tables.{AreGoals, is_in}
use Rattle.bpf_whynot.specs.declared.fault.GoalFault.{GoalFault}
use Rattle.bpf_whynot.specs.declared.fault.GoalFault.TheVariants.{NoInstruction}
use Rattle.bpf_whynot.proofs.Flowing.{stands_within}

-- goals are those of the first item and of the others
record Both (first : Result ℕ GoalFault) (more : Result (List ℕ) GoalFault) (goals : List ℕ) : Type 0 where
  pub p : ℕ
  pub rest : List ℕ
  pub one : first ≡ Ok p
  pub others : more ≡ Ok rest
  pub all : goals ≡ p ∷ rest

ok_goals : (a b : List ℕ) → ◌≡◌ {A = Result (List ℕ) GoalFault} (Ok a) (Ok b) → b ≡ a
ok_goals a b e = cc

both : (first : Result ℕ GoalFault) (more : Result (List ℕ) GoalFault) (goals : List ℕ) → and_goals first more ≡ Ok goals → Both first more goals
both (Ok p) (Ok rest) goals e = record { p = p; rest = rest; one = refl; others = refl; all = ok_goals (p ∷ rest) goals e }
both (Ok p) (Err fault) goals e = absurd cc
both (Err fault) more goals e = absurd cc

module _ (program : Checked) where
  pub more : (items : List (List ℕ)) (k : ℕ) (goals : List ℕ) (p : ℕ) → k < length items → goals_of program (take k items) ≡ Ok goals
      → goal_in program (get_or items k []) ≡ Ok p → goals_of program (take (suc k) items) ≡ Ok (goals ++ p ∷ [])
  more [] k goals p low e is = absurd (omega (arith, low))
  more (item ∷ items) zero goals p low e is =
      ap (λ (r : Result ℕ GoalFault). and_goals r (Ok [])) is ∙ ap (λ (gs : List ℕ). Ok (gs ++ p ∷ [])) (sym (ok_goals [] goals e))
  more (item ∷ items) (suc k) goals p low e is =
      let b = both (goal_in program item) (goals_of program (take k items)) goals e in
      ap (λ (r : Result ℕ GoalFault). and_goals r (goals_of program (take (suc k) items))) b.one
      ∙ ap (with_goal b.p) (more items k b.rest p (omega (arith, low)) b.others is)
      ∙ ap (λ (gs : List ℕ). Ok (gs ++ p ∷ [])) (sym b.all)

  pub fails : (items : List (List ℕ)) (k : ℕ) (goals : List ℕ) (fault : GoalFault) → k < length items → goals_of program (take k items) ≡ Ok goals
      → goal_in program (get_or items k []) ≡ Err fault → goals_of program items ≡ Err fault
  fails [] k goals fault low e is = absurd (omega (arith, low))
  fails (item ∷ items) zero goals fault low e is = ap (λ (r : Result ℕ GoalFault). and_goals r (goals_of program items)) is
  fails (item ∷ items) (suc k) goals fault low e is =
      let b = both (goal_in program item) (goals_of program (take k items)) goals e in
      ap (λ (r : Result ℕ GoalFault). and_goals r (goals_of program items)) b.one
      ∙ ap (with_goal b.p) (fails items k b.rest fault (omega (arith, low)) b.others is)

  start_if : (p q : ℕ) (b : Bool) → is_some (insn_at program q) ≡ b → (if b then Ok q else Err NoInstruction) ≡ Ok p → is_some (insn_at program p) ≡ true
  start_if p q true is e = subst (λ (i : ℕ). is_some (insn_at program i) ≡ true) (same q p e) is
    where
      same : (a b : ℕ) → ◌≡◌ {A = Result ℕ GoalFault} (Ok a) (Ok b) → a ≡ b
      same a b e = cc
  start_if p q false is e = absurd cc

  start_ok : (p : ℕ) (o : Option ℕ) → start_at program o ≡ Ok p → is_some (insn_at program p) ≡ true
  start_ok p None e = absurd cc
  start_ok p (Some q) e = start_if p q (is_some (insn_at program q)) refl e

  some_within : (p : ℕ) (o : Option Insn) → insn_at program p ≡ o → is_some o ≡ true → p < length program.insns
  some_within p None is e = absurd cc
  some_within p (Some i) is e = stands_within program p i is

  pub goal_within : (item : List ℕ) (p : ℕ) → goal_in program item ≡ Ok p → p < length program.insns
  goal_within item p e = some_within p (insn_at program p) refl (start_ok p (number item) e)

  -- one more flag
  or_false : (a : Bool) → (a || false) ≡ a
  or_false true = refl
  or_false false = refl

  or_more : (a b c : Bool) → (a || (b || c)) ≡ ((a || b) || c)
  or_more true b c = refl
  or_more false b c = refl

  goal_last : (goals : List ℕ) (p q : ℕ) → is_goal (goals ++ p ∷ []) q ≡ (is_goal goals q || (p == q))
  goal_last [] p q = or_false (p == q)
  goal_last (goal ∷ goals) p q = ap (λ (b : Bool). (goal == q) || b) (goal_last goals p q) ∙ or_more (goal == q) (is_goal goals q) (p == q)

  same_is : (p q : ℕ) → q ≡ p → (p == q) ≡ true
  same_is p q e = grind (arith, nat_tests)

  other_is : (p q : ℕ) → q ≢ p → (p == q) ≡ false
  other_is p q e = grind (arith, nat_tests)

  or_true : (a b : Bool) → b ≡ true → (a || b) ≡ true
  or_true true b e = refl
  or_true false b e = e

  or_none : (a b : Bool) → b ≡ false → (a || b) ≡ a
  or_none true b e = refl
  or_none false b e = e

  same_or_other : (i j : ℕ) → (i ≡ j) ⊎ (i ≢ j)
  same_or_other i j = grind arith

  pub one_flag : (goals : List ℕ) (flags : List Bool) (p : ℕ) → p < length program.insns → AreGoals program goals flags
      → AreGoals program (goals ++ p ∷ []) (slice_set flags p true)
  one_flag goals flags p low are = record {
    size = length-set flags p true ∙ are.size;
    each = λ q. by_case q (same_or_other q p);
  }
    where
      by_case : (q : ℕ) → (q ≡ p) ⊎ (q ≢ p) → is_in (slice_set flags p true) q ≡ is_goal (goals ++ p ∷ []) q
      by_case q (inl same) =
          let size = are.size in
          ap (is_in (slice_set flags p true)) same ∙ get_or-set_same flags p true false (omega (arith, low, size))
          ∙ sym (goal_last goals p q ∙ or_true (is_goal goals q) (p == q) (same_is p q same))
      by_case q (inr apart) =
          get_or-set_other flags p q true false apart ∙ are.each q
          ∙ sym (goal_last goals p q ∙ or_none (is_goal goals q) (p == q) (other_is p q apart))
