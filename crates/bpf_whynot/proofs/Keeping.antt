-- What holds values: by flags of the slots from which they can be written.
use Rattle.std.proofs.Common.{◌≡◌, ◌≢◌, inl, inr, ℕ, ◌+◌, Bool, true, false, List, [], Option, Some, None, refl, sym, ap, subst, ◌∙◌, arith, length}
use Rattle.std.specs.Prelude.{◌↔◌, ◌==◌, if◌then◌else◌, ℤ}
use Rattle.std.specs.Option.{option_map_or}
use Rattle.std.proofs.lemmas.Bool.Decides.{nat_tests}
use Rattle.bpf_isa.specs.Programs.{Checked, insn_at}
use Rattle.bpf_isa.specs.declared.instruction.Condition.{Condition}
use Rattle.bpf_isa.specs.declared.instruction.Insn.{Insn}
use Rattle.bpf_isa.specs.declared.instruction.Insn.TheVariants.{JumpIf}
use Rattle.bpf_isa.specs.declared.instruction.Source.{Source}
use Rattle.bpf_isa.specs.declared.instruction.Width.{Width}
use Rattle.bpf_journal.specs.Histories.{Record, is_step}
use Rattle.bpf_machine.specs.declared.moves.Move.{Move}
use Rattle.bpf_machine.specs.declared.moves.Move.TheVariants as move
use Rattle.bpf_origin.specs.Wanted.{are_hit}
use Rattle.bpf_origin.specs.declared.place.Place.{Place}
use Rattle.bpf_steps.specs.Platform.{frame_count}
use Rattle.bpf_steps.specs.State.{State}
use Rattle.bpf_whynot.specs.Flows.{target_slot}
use Rattle.bpf_whynot.proofs.Flowing.{target_back, target_there}
use Rattle.bpf_whynot.specs.Keeps.{AreWriting, CanWrite, Could, CouldBy, KeptHere, OneWay, TellsKeep, held_places, may_write, wall_at, writes_one}
use Rattle.bpf_whynot.specs.Tables.{is_in}
use Rattle.bpf_whynot.specs.declared.branch_aim.Aim.{Aim}
use Rattle.bpf_whynot.specs.declared.keep.Keep.{Keep}

same_test : (a b : ℕ) → a ≡ b → (a == b) ≡ true
same_test a b e = grind (arith, nat_tests)

other_test : (a b : ℕ) → a ≢ b → (a == b) ≡ false
other_test a b e = grind (arith, nat_tests)

wall_here : (program : Checked) (wall : Aim) (d : ℕ) → d ≡ wall.depth → wall_at program wall d ≡ wall
wall_here program wall d e = ap (λ (t : Bool). if t then wall else record { depth = frame_count; slot = length program.insns }) (same_test d wall.depth e)

wall_deeper : (program : Checked) (wall : Aim) (d : ℕ) → d ≢ wall.depth → wall_at program wall d ≡ record { depth = frame_count; slot = length program.insns }
wall_deeper program wall d e = ap (λ (t : Bool). if t then wall else record { depth = frame_count; slot = length program.insns }) (other_test d wall.depth e)

pub marks_here : (program : Checked) (keep : Keep) (d : ℕ) → TellsKeep program keep → d ≡ keep.wall.depth
    → AreWriting program keep.places.items (wall_at program keep.wall d) keep.here.items
marks_here program keep d tells e =
    subst (λ (w : Aim). AreWriting program keep.places.items w keep.here.items) (sym (wall_here program keep.wall d e)) tells.here

pub marks_deeper : (program : Checked) (keep : Keep) (d : ℕ) → TellsKeep program keep → d ≢ keep.wall.depth
    → AreWriting program keep.places.items (wall_at program keep.wall d) keep.deeper.items
marks_deeper program keep d tells e =
    subst (λ (w : Aim). AreWriting program keep.places.items w keep.deeper.items) (sym (wall_deeper program keep.wall d e)) tells.deeper

-- the places that are held
pub none_held : (values : ℕ) (wanted : List Place) → values ≡ 0 → held_places values wanted ≡ []
none_held values wanted e = ap (λ (t : Bool). if t then [] else wanted) (same_test values 0 e)

pub all_held : (values : ℕ) (wanted : List Place) → values ≢ 0 → held_places values wanted ≡ wanted
all_held values wanted e = ap (λ (t : Bool). if t then [] else wanted) (other_test values 0 e)

-- a slot that writes one of them
unhit : (d : ℕ) (o : Option Insn) → option_map_or (λ i. are_hit (may_write d i) []) o false ≡ false
unhit d None = refl
unhit d (Some i) = refl

either_way : (b t : Bool) → t ≡ false → (if b then false else t) ≡ false
either_way true t e = refl
either_way false t e = e

pub writes_nothing : (program : Checked) (values : ℕ) (wanted : List Place) (wall : Aim) (p : ℕ) → values ≡ 0
    → false ≡ writes_one program (held_places values wanted) wall p
writes_nothing program values wanted wall p none =
    sym (ap (λ (places : List Place). writes_one program places wall p) (none_held values wanted none)
    ∙ either_way (p == wall.slot) _ (unhit wall.depth (insn_at program p)))

pub writes_no_wall : (program : Checked) (places : List Place) (wall : Aim) (p : ℕ) → p ≡ wall.slot → false ≡ writes_one program places wall p
writes_no_wall program places wall p e =
    sym (ap (λ (t : Bool). if t then false else option_map_or (λ i. are_hit (may_write wall.depth i) places) (insn_at program p) false) (same_test p wall.slot e))

pub writes_by : (program : Checked) (places : List Place) (wall : Aim) (p : ℕ) (o : Option Insn) → p ≢ wall.slot → insn_at program p ≡ o
    → option_map_or (λ i. are_hit (may_write wall.depth i) places) o false ≡ writes_one program places wall p
writes_by program places wall p o other e =
    sym (ap (λ (t : Bool). if t then false else option_map_or (λ i. are_hit (may_write wall.depth i) places) (insn_at program p) false) (other_test p wall.slot other)
    ∙ ap (λ (s : Option Insn). option_map_or (λ i. are_hit (may_write wall.depth i) places) s false) e)

-- a way out of a conditional jump
clash : {A : Type 0} (b : Bool) → b ≡ true → b ≡ false → A
clash true t f = absurd cc
clash false t f = absurd cc

same_slot : (a b : ℕ) → Some a ≡ Some b → a ≡ b
same_slot a b e = cc

no_slot : {A : Type 0} (q : ℕ) (o : Option ℕ) → o ≡ None → o ≡ Some q → A
no_slot q o none some = absurd cc

module _ (program : Checked) (places : List Place) (wall : Aim) (marks : List Bool) (are : AreWriting program places wall marks) where
  pub by_next : (at : ℕ) (i : Insn) → is_in marks (at + 1) ≡ true → (◌≡◌ {A = Bool} true true) ↔ OneWay program places wall at i
  by_next at i on = ((λ e. inl ((are (at + 1)).0 on)), λ one. refl)

  pub by_target : (at q : ℕ) (i : Insn) → is_in marks (at + 1) ≡ false → target_slot at i ≡ Some q
      → (is_in marks q ≡ true) ↔ OneWay program places wall at i
  by_target at q i off to = (
    (λ e. inr (q, target_back at q i to, (are q).0 e)),
    (λ one. elim one [
      | inl x ↦ clash (is_in marks (at + 1)) ((are (at + 1)).1 x) off
      | inr x ↦
          (are q).1
          (subst (λ (p : ℕ). CanWrite program places wall p) (same_slot x.0 q (sym (target_there at x.0 i x.1) ∙ to)) x.2)
    ]),
  )

  pub by_none : (at : ℕ) (i : Insn) → is_in marks (at + 1) ≡ false → target_slot at i ≡ None
      → (◌≡◌ {A = Bool} false true) ↔ OneWay program places wall at i
  by_none at i off to = (
    (λ e. absurd cc),
    (λ one. elim one [
      | inl x ↦ clash (is_in marks (at + 1)) ((are (at + 1)).1 x) off
      | inr x ↦ no_slot x.0 (target_slot at i) to (target_there at x.0 i x.1)
    ]),
  )

pub jump_could : (b : Bool) (program : Checked) (places : List Place) (wall : Aim) (at : ℕ) (i : Insn) (condition : Condition) (width : Width) (dst : ℕ) (source : Source) (offset : ℤ)
    → i ≡ JumpIf condition width dst source offset → ((b ≡ true) ↔ OneWay program places wall at i) → (b ≡ true) ↔ CouldBy program places wall at i
jump_could b program places wall at i condition width dst source offset is d =
    subst (λ (k : Insn). (b ≡ true) ↔ CouldBy program places wall at k) (sym is) (subst (λ (k : Insn). (b ≡ true) ↔ OneWay program places wall at k) is d)

-- a step by the instruction that stands there
same_insn : (i j : Insn) → Some i ≡ Some j → i ≡ j
same_insn i j e = cc

no_insn : {A : Type 0} (i : Insn) (o : Option Insn) → o ≡ None → o ≡ Some i → A
no_insn i o none some = absurd cc

pub could_some : (b : Bool) (places : List Place) (wall : Aim) (x : State) (i : Insn) → insn_at x.program x.pc ≡ Some i
    → ((b ≡ true) ↔ CouldBy x.program places wall x.pc i) → (b ≡ true) ↔ Could places wall x move.Step
could_some b places wall x i is d = (
  (λ e. (i, is, d.0 e)),
  (λ s. d.1 (subst (λ (j : Insn). CouldBy x.program places wall x.pc j) (same_insn s.0 i (sym s.1 ∙ is)) s.2)),
)

pub could_none : (places : List Place) (wall : Aim) (x : State) → insn_at x.program x.pc ≡ None → (◌≡◌ {A = Bool} false true) ↔ Could places wall x move.Step
could_none places wall x none = ((λ e. absurd cc), λ s. no_insn s.0 (insn_at x.program x.pc) none s.1)

-- a move that kept them, or didn't
could_step : (b : Bool) (places : List Place) (wall : Aim) (x : State) (m : Move) → is_step m ≡ true → ((b ≡ true) ↔ Could places wall x move.Step)
    → (b ≡ true) ↔ Could places wall x m
could_step b places wall x move.Step is d = d
could_step b places wall x (move.Edit e) is d = absurd cc

could_edit : (b : Bool) (places : List Place) (wall : Aim) (x : State) (m : Move) → is_step m ≡ false → ((b ≡ true) ↔ CanWrite x.program places wall x.pc)
    → (b ≡ true) ↔ Could places wall x m
could_edit b places wall x move.Step is d = absurd cc
could_edit b places wall x (move.Edit e) is d = d

module _ (marks : List Bool) (places : List Place) (wall : Aim) (r : Record) (y : State) (are : AreWriting r.before.program places wall marks) where
  pub still_can : is_in marks y.pc ≡ true → (◌≡◌ {A = Bool} false true) ↔ KeptHere places wall r y
  still_can on = ((λ e. absurd cc), λ kept. absurd (kept.1 ((are y.pc).0 on)))

  never : is_in marks y.pc ≡ false → CanWrite r.before.program places wall y.pc → ⊥
  never off can = clash (is_in marks y.pc) ((are y.pc).1 can) off

  keeps : (b : Bool) → is_in marks y.pc ≡ false → ((b ≡ true) ↔ Could places wall r.before r.move) → (b ≡ true) ↔ KeptHere places wall r y
  keeps b off d = ((λ e. (d.0 e, never off)), λ kept. d.1 kept.0)

  pub step_keeps : (b : Bool) → is_in marks y.pc ≡ false → is_step r.move ≡ true → ((b ≡ true) ↔ Could places wall r.before move.Step)
      → (b ≡ true) ↔ KeptHere places wall r y
  step_keeps b off is d = keeps b off (could_step b places wall r.before r.move is d)

  pub edit_keeps : is_in marks y.pc ≡ false → is_step r.move ≡ false → (is_in marks r.before.pc ≡ true) ↔ KeptHere places wall r y
  edit_keeps off is = keeps (is_in marks r.before.pc) off (could_edit (is_in marks r.before.pc) places wall r.before r.move is (are r.before.pc))
