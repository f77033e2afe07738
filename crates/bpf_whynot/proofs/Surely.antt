-- The slots from which control comes to some others are those with a way to one of them.
use Rattle.std.proofs.Common.{◌≡◌, ◌<◌, ◌⊎◌, inl, inr, ℕ, ◌+◌, Bool, true, false, List, length, replicate, Option, Some, None, refl, sym, ap, subst, ◌∙◌, arith}
use Rattle.std.specs.Prelude.{ℤ, pos, negsuc, IsSome, ◌==◌, ◌&&◌, ◌||◌, not}
use Rattle.std.proofs.lemmas.List.{get_or-replicate}
use Rattle.bpf_isa.specs.Programs.{Checked, IsProgram, IsStartAt, insn_at, slots_of, target_of}
use Rattle.bpf_isa.specs.declared.instruction.Insn.{Insn}
use Rattle.bpf_isa.specs.declared.instruction.Insn.TheVariants.{CallLocal}
use Rattle.bpf_whynot.specs.Flows.{behind, jump, unless}
use Rattle.bpf_whynot.specs.Levels.{AreSeeds}
use Rattle.bpf_whynot.specs.Reach.{goes_on, calls}
use Rattle.bpf_whynot.specs.Sures.{AreWays, TellsSure, Way, is_end_but, is_target, told_sure}
use Rattle.bpf_whynot.specs.declared.sure.Sure.{Sure}
use Rattle.bpf_whynot.specs.Sures.Way.{there as way_there, on as way_on, jumped as way_jumped}
use Rattle.bpf_whynot.specs.Tables.{is_in}
use Rattle.bpf_whynot.specs.Walks.{AreBack, Comes}
use Rattle.bpf_whynot.specs.Walks.Comes.{here as comes_here, on as comes_on, jumps as comes_jumps}
use Rattle.bpf_whynot.proofs.Flowing.{Calling, Going, behind_back, behind_call, behind_on, jump_back, jump_there, stands_within}
use Rattle.bpf_whynot.proofs.Walking.{reached_within, unless_other, unless_there, unless_way}

one_slot : (i : Insn) → calls i ≡ true → slots_of i ≡ 1
one_slot (CallLocal distance) e = refl
one_slot _ e = absurd cc

or_left : (a b : Bool) → a ≡ true → (a || b) ≡ true
or_left true b e = refl
or_left false b e = absurd cc

or_right : (a b : Bool) → b ≡ true → (a || b) ≡ true
or_right true b e = refl
or_right false b e = e

or_either : (a b : Bool) → (a || b) ≡ true → (a ≡ true) ⊎ (b ≡ true)
or_either true b e = inl refl
or_either false b e = inr e

not_true : (b : Bool) → not b ≡ true → b ≡ false
not_true true e = absurd cc
not_true false e = refl

not_false : (b : Bool) → b ≡ false → not b ≡ true
not_false true e = absurd cc
not_false false e = refl

module _ (program : Checked) (target : ℕ) (last : ℕ → Bool) (above seeds : List Bool) where
  way_behind : (p q : ℕ) → (p == target) ≡ false → Going program p q ⊎ (Calling program above p × (q ≡ p + 1)) → Way program target last q → Way program target last p
  way_behind p q apart (inl g) w =
      way_on g.insn apart g.stands (or_left (goes_on g.insn) (calls g.insn) g.on) (subst (λ (i : ℕ). Way program target last i) g.there w)
  way_behind p q apart (inr g) w =
      let next : q ≡ p + slots_of g.0.insn = g.1 ∙ ap (λ (n : ℕ). p + n) (sym (one_slot g.0.insn g.0.call)) in
      way_on g.0.insn apart g.0.stands (or_right (goes_on g.0.insn) (calls g.0.insn) g.0.call) (subst (λ (i : ℕ). Way program target last i) next w)

  to_way : AreSeeds last (length program.insns) seeds → (p : ℕ)
      → Comes (unless target (behind program above)) (unless target (jump program)) (is_in seeds) p → Way program target last p
  to_way are p (comes_here e) =
      let low = reached_within seeds p e in
      let size = are.size in
      let within : p < length program.insns = omega (arith, low, size) in
      way_there within (sym (are.each p within) ∙ e)
  to_way are p (comes_on q e c) =
      way_behind p q (not_true (p == target) (unless_other target (behind program above) p q e))
      (behind_back program above p q (unless_way target (behind program above) p q e)) (to_way are q c)
  to_way are p (comes_jumps q e c) =
      let g = jump_back program p q (unless_way target (jump program) p q e) in
      way_jumped g.insn q (not_true (p == target) (unless_other target (jump program) p q e)) g.stands g.jump g.target (to_way are q c)

-- a call leads to a slot of the program
record CallsTo (program : Checked) (p : ℕ) (i : Insn) : Type 0 where
  pub to : ℕ
  pub target : target_of p i ≡ Some (pos to)
  pub within : to < length program.insns

start_within : (program : Checked) (q : ℕ) (o : Option Insn) → insn_at program q ≡ o → IsSome o → q < length program.insns
start_within program q None e some = absurd cc
start_within program q (Some i) e some = stands_within program q i e

lands_in : (program : Checked) (p : ℕ) (i : Insn) (z : ℤ) → target_of p i ≡ Some z → IsStartAt program z → CallsTo program p i
lands_in program p i (pos q) e start = record { to = q; target = e; within = start_within program q (insn_at program q) refl start }
lands_in program p i (negsuc n) e start = absurd start

calls_to : (program : Checked) → IsProgram program → (p : ℕ) (i : Insn) → insn_at program p ≡ Some i → calls i ≡ true → CallsTo program p i
calls_to program is p (CallLocal distance) stands e = lands_in program p (CallLocal distance) _ refl (is.lands p _ (CallLocal distance) stands refl)
calls_to program is p _ stands e = absurd cc

module _ (program : Checked) (target : ℕ) (last : ℕ → Bool) (above seeds marks : List Bool) where
  behind_either : IsProgram program → above ≡ replicate (length program.insns) true → (p : ℕ) (i : Insn) → insn_at program p ≡ Some i
      → (goes_on i ≡ true) ⊎ (calls i ≡ true) → behind program above p ≡ Some (p + slots_of i)
  behind_either is all p i stands (inl on) = behind_on program above p i stands on
  behind_either is all p i stands (inr call) =
      let to = calls_to program is p i stands call in
      let low = to.within in
      let known : is_in above to.to ≡ true =
      ap (λ (flags : List Bool). is_in flags to.to) all ∙ get_or-replicate (length program.insns) to.to true false low in
      behind_call program above p to.to i stands call to.target known ∙ ap (λ (n : ℕ). Some (p + n)) (sym (one_slot i call))

  from_way : IsProgram program → above ≡ replicate (length program.insns) true → AreSeeds last (length program.insns) seeds
      → AreBack (unless target (behind program above)) (unless target (jump program)) (is_in seeds) (length program.insns) marks
      → (p : ℕ) → Way program target last p → is_in marks p ≡ true
  from_way is all are back p (way_there low e) = back.here p low (are.each p low ∙ e)
  from_way is all are back p (way_on i apart stands goes w) =
      back.on p (p + slots_of i) (stands_within program p i stands)
      (unless_there target (behind program above) p (p + slots_of i) (not_false (p == target) apart)
      (behind_either is all p i stands (or_either (goes_on i) (calls i) goes)))
      (from_way is all are back (p + slots_of i) w)
  from_way is all are back p (way_jumped i q apart stands test to w) =
      back.jumps p q (stands_within program p i stands)
      (unless_there target (jump program) p q (not_false (p == target) apart) (jump_there program p q i stands test to))
      (from_way is all are back q w)

  pub ways : IsProgram program → above ≡ replicate (length program.insns) true → AreSeeds last (length program.insns) seeds
      → AreBack (unless target (behind program above)) (unless target (jump program)) (is_in seeds) (length program.insns) marks
      → AreWays program target last marks
  ways is all are back p = (
    (λ marked. to_way program target last above seeds are p (back.sound p marked)),
    from_way is all are back p,
  )

-- one test of both
and_both : (a b : Bool) → (a && not b) ≡ true → (a ≡ true) × (b ≡ false)
and_both true true e = absurd cc
and_both true false e = (refl, refl)
and_both false b e = absurd cc

and_is : (a b : Bool) → a ≡ true → (b ≡ true → ⊥) → (a && not b) ≡ true
and_is true true e none = absurd (none refl)
and_is true false e none = refl
and_is false b e none = absurd cc

clash : (b : Bool) → b ≡ true → b ≡ false → ⊥
clash true t f = cc
clash false t f = cc

pub tells : (program : Checked) (target : ℕ) (sure : Sure) → AreWays program target (is_target target) sure.comes.items
    → AreWays program target (is_end_but program target) sure.ends.items → TellsSure program target (told_sure sure)
tells program target sure comes ends p = (
  (λ told.
      let both = and_both (is_in sure.comes.items p) (is_in sure.ends.items p) told in
      ((comes p).0 both.0, λ w. clash (is_in sure.ends.items p) ((ends p).1 w) both.1)),
  (λ is. and_is (is_in sure.comes.items p) (is_in sure.ends.items p) ((comes p).1 is.0) (λ marked. is.1 ((ends p).0 marked))),
)
