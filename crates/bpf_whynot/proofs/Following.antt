-- A run of one function, past what it calls: it goes from slot to slot as the ways of the program lead.
use Rattle.std.proofs.Common.{◌≡◌, ◌<◌, ◌≤◌, ◌⊎◌, inl, inr, ℕ, zero, suc, ◌+◌, pos, Bool, true, false, List, ◌∷◌, Option, Some, None, length, refl, sym, ap, ◌∙◌, subst, arith}
use Rattle.std.specs.Prelude.{◌||◌, IsSome}
use Rattle.bpf_isa.specs.Programs.{Checked, FallsThrough, IsProgram, IsStart, insn_at, slots_of, target_of}
use Rattle.bpf_isa.specs.declared.instruction.Insn.{Insn}
use Rattle.bpf_isa.specs.declared.instruction.Insn.TheVariants.{CallLocal, Exit, Jump, JumpLong}
use Rattle.bpf_steps.specs.Runs.{state_after}
use Rattle.bpf_steps.specs.State.{State, depth}
use Rattle.bpf_whynot.specs.BranchLaws.{GoesOnFor}
use Rattle.bpf_whynot.specs.Reach.{calls, goes_on, jumps, return_slots}
use Rattle.bpf_whynot.proofs.Flowing.{stands_within}
use Rattle.bpf_whynot.proofs.Onward.{Onward, as_deep, leads_after}
use Rattle.bpf_whynot.proofs.Onward.Onward.{still, on, jumped, called, returned}

-- The function that returns to the first of these slots, or ends the program, stands at a slot; or what it called returns there.
pub data Stands (base : List ℕ) : ℕ → ℕ → List ℕ → Type 0 where
  here : {p : ℕ} → Stands base p p base
  under : {v p q : ℕ} {returns : List ℕ} → Stands base v q returns → Stands base v p (q ∷ returns)

at_least : (base : List ℕ) (v p : ℕ) (ps : List ℕ) → Stands base v p ps → length base ≤ length ps
at_least base v p ps here = omega arith
at_least base v p (q ∷ returns) (under s) = let low = at_least base v q returns s in omega (arith, low)

at_level : (base : List ℕ) (v p : ℕ) (ps : List ℕ) → Stands base v p ps → length ps ≡ length base → v ≡ p
at_level base v p ps here e = refl
at_level base v p (q ∷ returns) (under s) e = let low = at_least base v q returns s in absurd (omega (arith, low, e))

-- Where an instruction of a function leads in it: behind itself, also behind a call, or along a jump.
abbrev pub FlowBy : ℕ → Insn → ℕ → Type 0
FlowBy p i w = (((goes_on i || calls i) ≡ true) × (w ≡ p + slots_of i)) ⊎ ((jumps i ≡ true) × (target_of p i ≡ Some (pos w)))

pub record Flow (program : Checked) (p w : ℕ) : Type 0 where
  pub insn : Insn
  pub stands : insn_at program p ≡ Some insn
  pub way : FlowBy p insn w

-- It leads to an instruction.
falls : (i : Insn) → (goes_on i || calls i) ≡ true → FallsThrough i
falls (Jump offset) e = absurd cc
falls (JumpLong distance) e = absurd cc
falls Exit e = absurd cc
falls _ e = tt

starts_by : (program : Checked) → IsProgram program → (p w : ℕ) (i : Insn) → insn_at program p ≡ Some i → FlowBy p i w → IsStart program w
starts_by program is p w i stands (inl g) = subst (IsStart program) (sym g.1) (is.falls p i stands (falls i g.0))
starts_by program is p w i stands (inr j) = is.lands p (pos w) i stands j.1

pub flow_starts : (program : Checked) → IsProgram program → (p w : ℕ) → Flow program p w → IsStart program w
flow_starts program is p w f = starts_by program is p w f.insn f.stands f.way

within_by : (program : Checked) (p : ℕ) (found : Option Insn) → insn_at program p ≡ found → IsSome found → p < length program.insns
within_by program p None stands some = absurd cc
within_by program p (Some i) stands some = stands_within program p i stands

pub start_within : (program : Checked) (p : ℕ) → IsStart program p → p < length program.insns
start_within program p start = within_by program p (insn_at program p) refl start

-- A step: it leaves the function, or what it called goes on or returns, or it leads on in the function.
data Went (program : Checked) (base : List ℕ) (v p : ℕ) (ps : List ℕ) (q : ℕ) (qs : List ℕ) : Type 0 where
  left : length qs < length base → Went program base v p ps q qs
  stayed : Stands base v q qs → Went program base v p ps q qs
  went : (w : ℕ) → Stands base w q qs → length ps ≡ length base → p ≡ v → Flow program p w → Went program base v p ps q qs

either : (a b : Bool) → a ≡ true → (a || b) ≡ true
either true b e = refl
either false b e = absurd cc

or_else : (a b : Bool) → b ≡ true → (a || b) ≡ true
or_else true b e = refl
or_else false b e = e

one_slot_long : (i : Insn) → calls i ≡ true → 1 ≡ slots_of i
one_slot_long (CallLocal distance) e = refl
one_slot_long _ e = absurd cc

shorter : (q : ℕ) (returns : List ℕ) → length returns < length (q ∷ returns)
shorter q returns = omega arith

goes : (program : Checked) (base : List ℕ) (v p q : ℕ) (ps qs : List ℕ) → Stands base v p ps → Onward program p ps q qs → Went program base v p ps q qs
goes program base v p q ps qs here still = stayed here
goes program base v p q ps qs here (on i stands more) =
    went (p + slots_of i) here refl refl (record { insn = i; stands = stands; way = inl (either (goes_on i) (calls i) more, refl) })
goes program base v p q ps qs here (jumped i to stands jump names) = went to here refl refl (record { insn = i; stands = stands; way = inr (jump, names) })
goes program base v p q ps qs here (called i to stands call names room) =
    went (p + 1) (under here) refl refl
    (record { insn = i; stands = stands; way = inl (or_else (goes_on i) (calls i) call, ap (λ (n : ℕ). p + n) (one_slot_long i call)) })
goes program base v p q ps qs here (returned stands) = left (shorter q qs)
goes program base v p q ps qs (under s) still = stayed (under s)
goes program base v p q ps qs (under s) (on i stands more) = stayed (under s)
goes program base v p q ps qs (under s) (jumped i to stands jump names) = stayed (under s)
goes program base v p q ps qs (under s) (called i to stands call names room) = stayed (under (under s))
goes program base v p q ps qs (under s) (returned stands) = stayed s

-- What holds of the slot at which a function stands, and goes on to hold as it goes from slot to slot, holds when it stands there n steps later.
module _ (x : State) (program : IsProgram x.program) (n : ℕ) (within : GoesOnFor x n) (P : ℕ → Type 0) (first : P x.pc)
    (each : (k w : ℕ) → k < n → depth (state_after k x) ≡ depth x → Flow x.program (state_after k x).pc w → P (state_after k x).pc → P w) where
  record Standing (k : ℕ) : Type 0 where
    pub slot : ℕ
    pub stands : Stands (return_slots x) slot (state_after k x).pc (return_slots (state_after k x))
    pub holds : P slot

  stands_next : (k : ℕ) → k < n → (s : Standing k)
      → Went x.program (return_slots x) s.slot (state_after k x).pc (return_slots (state_after k x)) (state_after (suc k) x).pc (return_slots (state_after (suc k) x))
      → Standing (suc k)
  stands_next k low s (left less) =
      let deep = within (suc k) (omega (arith, low)) in
      let was = as_deep x in
      let now = as_deep (state_after (suc k) x) in
      absurd (omega (arith, less, deep, was, now))
  stands_next k low s (stayed there) = record { slot = s.slot; stands = there; holds = s.holds }
  stands_next k low s (went w there level same flow) = record {
    slot = w;
    stands = there;
    holds = each k w low (sym (as_deep (state_after k x)) ∙ level ∙ as_deep x) flow (subst P (sym same) s.holds);
  }

  standing : (k : ℕ) → k ≤ n → Standing k
  standing zero low = record { slot = x.pc; stands = here; holds = first }
  standing (suc k) low =
      let s = standing k (omega (arith, low)) in
      stands_next k (omega (arith, low)) s
      (goes x.program (return_slots x) s.slot (state_after k x).pc (state_after (suc k) x).pc (return_slots (state_after k x)) (return_slots (state_after (suc k) x))
      s.stands (leads_after k x program))

  pub follows : depth (state_after n x) ≡ depth x → P (state_after n x).pc
  follows level =
      let s = standing n (omega arith) in
      subst P (at_level (return_slots x) s.slot (state_after n x).pc (return_slots (state_after n x)) s.stands
      (as_deep (state_after n x) ∙ level ∙ sym (as_deep x))) s.holds
