-- One move of the pass: what the answer is by it.
use Rattle.std.proofs.Common.{◌≡◌, ◌≢◌, ◌<◌, inl, inr, ℕ, ◌+◌, ◌-◌, Bool, true, false, List, [], Option, Some, None, refl, sym, ap, subst, ◌∙◌, arith}
use Rattle.std.specs.Prelude.{Result, ◌↔◌, ◌==◌, ◌||◌, nat_lt, not, if◌then◌else◌, ℤ, take}
use lib.Chars.{codes}
use Rattle.std.proofs.lemmas.Bool.Decides.{nat_tests}
use Rattle.counted_io.specs.Counted.{Tally}
use Rattle.counted_io.specs.Writing.{WritesAfter}
use Rattle.counted_io.proofs.Appending.{WritesAfter-WritesAfter}
use Rattle.bpfdb_script.proofs.Telling.{WritesAfter-nothing}
use Rattle.counted_io.specs.declared.fault.WriteFault.{WriteFault}
use Rattle.bpf_isa.specs.Programs.{Checked, insn_at}
use Rattle.bpf_isa.specs.declared.instruction.Insn.{Insn}
use Rattle.bpf_isa.specs.declared.instruction.Insn.TheVariants.{JumpIf}
use Rattle.bpf_isa.specs.declared.instruction.Condition.{Condition}
use Rattle.bpf_isa.specs.declared.instruction.Source.{Source}
use Rattle.bpf_isa.specs.declared.instruction.Width.{Width}
use Rattle.bpf_journal.specs.Histories.{Record, is_step}
use Rattle.bpf_machine.specs.declared.moves.Move.{Move}
use Rattle.bpf_machine.specs.declared.moves.Move.TheVariants as move
use Rattle.bpf_machine.specs.Moves.{overwritten}
use Rattle.bpf_origin.specs.Answers.{Answer, wanted_before}
use Rattle.bpf_origin.specs.Reads.{followed}
use Rattle.bpf_origin.specs.Wanted.{most_places, still_wanted}
use Rattle.bpf_origin.specs.declared.place.Place.{Place}
use Rattle.bpf_origin.specs.declared.question.Question.{Question}
use Rattle.bpf_origin.specs.Texts.{lines_text}
use Rattle.bpf_steps.specs.State.{State, depth}
use Rattle.bpf_whynot.specs.Answers.{lost_line}
use Rattle.bpf_whynot.specs.Flows.{target_slot}
use Rattle.bpf_whynot.specs.Sures.{IsSure, TellsSure, told_sure}
use Rattle.bpf_whynot.specs.declared.sure.Sure.{Sure}
use Rattle.bpf_whynot.proofs.Flowing.{target_back, target_there}
use Rattle.bpf_whynot.specs.Branches.{Branches, Decided, DecidedIt, DecidesBy, Entered, IsBranch, JustOne, Parts, Quest, aim_at, holds_from, kept_text, made, told_text}
use Rattle.bpf_whynot.specs.Branches.Branches.{called as is_called, passed as is_passed, valued as is_valued, told as is_told, kept as is_kept, cut as is_cut}
use Rattle.bpf_whynot.specs.BranchTurns.{Chases, IsOne, IsToldAs, Knows, Takes, quest_of}
use Rattle.bpf_whynot.specs.Keeps.{Held, KeptIt, TellsKeep, held_of, held_places}
use Rattle.bpf_whynot.specs.declared.keep.Keep.{Keep}
use Rattle.bpf_whynot.specs.declared.branch_aim.Aim.{Aim}
use Rattle.bpf_whynot.specs.declared.hunt.Hunt.{Hunt}
use Rattle.bpf_whynot.specs.declared.hunt.Turn.{Turn}
use Rattle.bpf_whynot.specs.declared.hunt.Turn.TheVariants.{On, Cut}

-- two tests that differ
clash : {A : Type 0} (b : Bool) → b ≡ true → b ≡ false → A
clash true t f = absurd cc
clash false t f = absurd cc

tests : (a b : Bool) (A B : Type 0) → (a ≡ true) ↔ A → (b ≡ true) ↔ B → (differ : Bool) → ((differ ≡ true) ↔ (a ≢ b)) → (differ ≡ true) ↔ JustOne A B
tests true true A B s t differ d = (
  (λ e. absurd (d.0 e refl)),
  λ j. elim j [ inl x ↦ absurd (x.1 (t.0 refl)) | inr x ↦ absurd (x.0 (s.0 refl)) ],
)
tests true false A B s t differ d = ((λ e. inl (s.0 refl, λ b. clash false (t.1 b) refl)), λ j. d.1 (λ e. cc))
tests false true A B s t differ d = ((λ e. inr ((λ a. clash false (s.1 a) refl), t.0 refl)), λ j. d.1 (λ e. cc))
tests false false A B s t differ d = (
  (λ e. absurd (d.0 e refl)),
  λ j. elim j [ inl x ↦ clash false (s.1 x.0) refl | inr x ↦ clash false (t.1 x.1) refl ],
)

-- a conditional jump with a target
same_slot : (a b : ℕ) → Some a ≡ Some b → a ≡ b
same_slot a b e = cc

pub parts_some : (program : Checked) (slot at q : ℕ) (test : ℕ → Bool) (i : Insn) (differ : Bool) → TellsSure program slot test → target_slot at i ≡ Some q
    → ((differ ≡ true) ↔ (test (at + 1) ≢ test q)) → (differ ≡ true) ↔ Parts program slot at i
parts_some program slot at q test i differ sure to d =
    let both = tests (test (at + 1)) (test q) (IsSure program slot (at + 1)) (IsSure program slot q) (sure (at + 1)) (sure q) differ d in (
      (λ e. (q, target_back at q i to, both.0 e)),
      (λ s.
          let same = same_slot s.0 q (sym (target_there at s.0 i s.1) ∙ to) in
          both.1 (subst (λ (p : ℕ). JustOne (IsSure program slot (at + 1)) (IsSure program slot p)) same s.2)),
    )

no_slot : {A : Type 0} (q : ℕ) (o : Option ℕ) → o ≡ None → o ≡ Some q → A
no_slot q o none some = absurd cc

pub parts_none : (program : Checked) (slot at : ℕ) (i : Insn) → target_slot at i ≡ None → (◌≡◌ {A = Bool} false true) ↔ Parts program slot at i
parts_none program slot at i none = (
  (λ e. clash false e refl),
  (λ s. no_slot s.0 (target_slot at i) none (target_there at s.0 i s.1)),
)

pub differs : (a b : Bool) → ((if a then not b else b) ≡ true) ↔ (a ≢ b)
differs true true = ((λ e. absurd cc), λ n. absurd (n refl))
differs true false = ((λ e f. cc), λ n. refl)
differs false true = ((λ e f. cc), λ n. refl)
differs false false = ((λ e. absurd cc), λ n. absurd (n refl))

-- a conditional jump
pub jump_decides : (b : Bool) (program : Checked) (slot at : ℕ) (i : Insn) (condition : Condition) (width : Width) (dst : ℕ) (source : Source) (offset : ℤ)
    → i ≡ JumpIf condition width dst source offset → ((b ≡ true) ↔ Parts program slot at i) → (b ≡ true) ↔ DecidesBy program slot at i
jump_decides b program slot at i condition width dst source offset is d =
    subst (λ (k : Insn). (b ≡ true) ↔ DecidesBy program slot at k) (sym is) (subst (λ (k : Insn). (b ≡ true) ↔ Parts program slot at k) is d)

differ_not : (a b : ℕ) → a ≡ b → not (a == b) ≡ false
differ_not a b same = grind (arith, nat_tests)

differ_so : (a b : ℕ) → a ≢ b → not (a == b) ≡ true
differ_so a b other = grind (arith, nat_tests)

pub slots_differ : (a b p q : ℕ) → a ≡ p → b ≡ q → (not (a == b) ≡ true) ↔ (p ≢ q)
slots_differ a b p q e f = (
  (λ t same. clash (not (a == b)) t (differ_not a b (e ∙ same ∙ sym f))),
  (λ other. differ_so a b (λ same. other (sym e ∙ same ∙ f))),
)

-- a step by the instruction that stands there
same_insn : (i j : Insn) → Some i ≡ Some j → i ≡ j
same_insn i j e = cc

pub decides_some : (b : Bool) (slot : ℕ) (x y : State) (i : Insn) → insn_at x.program x.pc ≡ Some i → ((b ≡ true) ↔ DecidesBy x.program slot x.pc i)
    → (b ≡ true) ↔ Decided slot x move.Step y
decides_some b slot x y i is d = (
  (λ e. (i, is, d.0 e)),
  (λ s. d.1 (subst (λ (j : Insn). DecidesBy x.program slot x.pc j) (same_insn s.0 i (sym s.1 ∙ is)) s.2)),
)

no_insn : {A : Type 0} (i : Insn) (o : Option Insn) → o ≡ None → o ≡ Some i → A
no_insn i o none some = absurd cc

pub decides_none : (slot : ℕ) (x y : State) → insn_at x.program x.pc ≡ None → (◌≡◌ {A = Bool} false true) ↔ Decided slot x move.Step y
decides_none slot x y none = ((λ e. clash false e refl), λ s. no_insn s.0 (insn_at x.program x.pc) none s.1)

-- a move of the function
pub not_here : (a : Aim) (r : Record) (y : State) → depth r.before ≢ a.depth → (◌≡◌ {A = Bool} false true) ↔ DecidedIt a r y
not_here a r y other = ((λ e. clash false e refl), λ d. absurd (other d.0))

by_step : (b : Bool) (slot : ℕ) (x y : State) (m : Move) → is_step m ≡ true → ((b ≡ true) ↔ Decided slot x move.Step y) → (b ≡ true) ↔ Decided slot x m y
by_step b slot x y move.Step is d = d
by_step b slot x y (move.Edit e) is d = absurd cc

by_edit : (b : Bool) (slot : ℕ) (x y : State) (m : Move) → is_step m ≡ false → ((b ≡ true) ↔ (y.pc ≢ x.pc)) → (b ≡ true) ↔ Decided slot x m y
by_edit b slot x y move.Step is d = absurd cc
by_edit b slot x y (move.Edit e) is d = d

both_here : (b : Bool) (a : Aim) (r : Record) (y : State) → depth r.before ≡ a.depth → ((b ≡ true) ↔ Decided a.slot r.before r.move y) → (b ≡ true) ↔ DecidedIt a r y
both_here b a r y same d = ((λ e. (same, d.0 e)), λ s. d.1 s.1)

pub step_here : (b : Bool) (a : Aim) (r : Record) (y : State) → depth r.before ≡ a.depth → is_step r.move ≡ true
    → ((b ≡ true) ↔ Decided a.slot r.before move.Step y) → (b ≡ true) ↔ DecidedIt a r y
step_here b a r y same is d = both_here b a r y same (by_step b a.slot r.before y r.move is d)

pub edit_here : (b : Bool) (a : Aim) (r : Record) (y : State) → depth r.before ≡ a.depth → is_step r.move ≡ false
    → ((b ≡ true) ↔ (y.pc ≢ r.before.pc)) → (b ≡ true) ↔ DecidedIt a r y
edit_here b a r y same is d = both_here b a r y same (by_edit b a.slot r.before y r.move is d)

-- what is looked for next, and what is held
abbrev held_by : List Place → Aim → Held
held_by places wall = record { places = places; wall = wall }

pub hold_new : (x y : State) (aim : Aim) (wanted : List Place) (keep : Keep) (hunt : Hunt) → y ≡ x → aim ≡ aim_at y → TellsKeep y.program keep
    → held_of keep ≡ record { places = held_places hunt.values wanted; wall = aim } → TellsSure x.program hunt.aim.slot (told_sure hunt.sure)
    → Chases x wanted hunt.aim hunt
    (On (record { aim = hunt.aim; sure = hunt.sure; values = hunt.values; lines = hunt.lines; told = hunt.told; keep = keep }))
hold_new x y aim wanted keep hunt at is tells held sure = (
  (sure, subst (λ (z : State). TellsKeep z.program keep) at tells),
  refl,
  ap (λ (h : Held). record (quest_of hunt wanted) { held = h }) (held ∙ ap (held_by (held_places hunt.values wanted)) (is ∙ ap aim_at at)),
)

pub chases_from : (x : State) (wanted : List Place) (aim : Aim) (sure : Sure) (hunt : Hunt) (turn : Turn) → aim ≡ aim_at x
    → Chases x wanted aim (record { aim = aim; sure = sure; values = hunt.values; lines = hunt.lines; told = hunt.told; keep = hunt.keep }) turn
    → Chases x wanted (aim_at x) hunt turn
chases_from x wanted aim sure hunt (Cut written) is chases = absurd chases
chases_from x wanted aim sure hunt (On next) is chases =
    (chases.0, chases.1, chases.2 ∙ ap (λ (a : Aim). holds_from x (record (quest_of hunt wanted) { aim = a })) is)

pub is_lower : (a b : ℕ) → a < b → nat_lt a b ≡ true
is_lower a b low = grind (arith, nat_tests, low)

pub not_lower : (a b : ℕ) → (a < b → ⊥) → nat_lt a b ≡ false
not_lower a b high = grind (arith, nat_tests, high)

-- a branch that decided, or kept a value
none_of : (a b : Bool) → (a || b) ≡ false → (a ≡ false) × (b ≡ false)
none_of true b e = absurd cc
none_of false b e = (refl, e)

pub no_branch : (decided kept some : Bool) (s : Quest) (r : Record) (y : State) → (decided ≡ true) ↔ DecidedIt s.aim r y → (kept ≡ true) ↔ KeptIt s.held r y
    → some ≡ (decided || kept) → some ≡ false → IsBranch s r y → ⊥
no_branch decided kept some s r y d k e none branch =
    let both = none_of decided kept (sym e ∙ none) in
    elim branch [ inl x ↦ clash decided (d.1 x) both.0 | inr x ↦ clash kept (k.1 x) both.1 ]

one_of : (b : Bool) (decided kept : Bool) (s : Quest) (r : Record) (y : State) → (b ≡ true) ↔ DecidedIt s.aim r y → (kept ≡ true) ↔ KeptIt s.held r y
    → b ≡ decided → (decided || kept) ≡ true → IsOne decided s r y
one_of b true kept s r y d k e some = d.0 e
one_of b false kept s r y d k e some = ((λ is. clash b (d.1 is) e), k.0 some)

pub told_as : (decided kept some : Bool) (s : Quest) (r : Record) (y : State) → (decided ≡ true) ↔ DecidedIt s.aim r y → (kept ≡ true) ↔ KeptIt s.held r y
    → some ≡ (decided || kept) → some ≡ true → made s r y ≡ false → (Entered s r → ⊥) → IsToldAs decided s r y
told_as decided kept some s r y d k e is other inside = record {
  other = other;
  inside = inside;
  one = one_of decided decided kept s r y d k refl (sym e ∙ is);
}

-- what a move read
pub read_by_step : (addresses : Bool) (x : State) (m : Move) → is_step m ≡ true → followed addresses x m ≡ followed addresses x move.Step
read_by_step addresses x move.Step is = refl
read_by_step addresses x (move.Edit e) is = absurd cc

pub read_by_edit : (addresses : Bool) (x : State) (m : Move) → is_step m ≡ false → followed addresses x m ≡ []
read_by_edit addresses x move.Step is = absurd cc
read_by_edit true x (move.Edit e) is = refl
read_by_edit false x (move.Edit e) is = refl

module _ {W : Type 0} (contents : W → Option (List ℕ)) (q : Question) (k : ℕ) (r : Record) (h : List Record) (y : State) (wanted left : List Place) where
  on_with : (s t : Quest) (rest : Answer) → s ≡ t → Branches q (k + 1) s h r.before rest → Branches q (k + 1) t h r.before rest
  on_with s t rest e on = subst (λ (u : Quest). Branches q (k + 1) u h r.before rest) e on

  told_on : (old : Tally W) (a b : Result (Unit {0}) WriteFault) → a ≡ b → WritesAfter contents old b old a []
  told_on old a b e = subst (λ (told : Result (Unit {0}) WriteFault). WritesAfter contents old b old told []) (sym e) (WritesAfter-nothing contents old b)

  pub turn_passes : (old : Tally W) (hunt : Hunt) → left ≡ still_wanted y (overwritten r.before r.move) wanted → made (quest_of hunt wanted) r y ≡ false
      → Knows r.before hunt → (Entered (quest_of hunt wanted) r → ⊥) → (IsBranch (quest_of hunt wanted) r y → ⊥)
      → Takes contents q k r h y wanted left old hunt old (On hunt)
  turn_passes old hunt still not knows inside none = record {
    knows = knows;
    text = [];
    writes = WritesAfter-nothing contents old hunt.told;
    is = λ rest on. is_passed not inside none (on_with _ _ rest (ap (quest_of hunt) still) on);
  }

  pub turn_calls : (old : Tally W) (hunt : Hunt) (turn : Turn) → left ≡ still_wanted y (overwritten r.before r.move) wanted → made (quest_of hunt wanted) r y ≡ false
      → Entered (quest_of hunt wanted) r
      → Chases r.before left (if nat_lt (depth r.before) hunt.aim.depth then aim_at r.before else hunt.aim) hunt turn
      → Takes contents q k r h y wanted left old hunt old turn
  turn_calls old hunt (Cut written) still not low chases = absurd chases
  turn_calls old hunt (On next) still not low chases = record {
    knows = chases.0;
    text = [];
    writes = told_on old next.told hunt.told chases.1;
    is = λ rest on.
        is_called not low
        (on_with _ _ rest
        (chases.2
        ∙ ap (λ (ws : List Place). holds_from r.before (record (quest_of hunt ws) { aim = if nat_lt (depth r.before) hunt.aim.depth then aim_at r.before else hunt.aim })) still) on);
  }

  pub turn_values : (old : Tally W) (hunt : Hunt) (turn : Turn) → left ≡ take most_places (wanted_before q r y wanted) → made (quest_of hunt wanted) r y ≡ true
      → Chases r.before left (aim_at r.before) (record hunt { values = hunt.values - 1 }) turn
      → Takes contents q k r h y wanted left old hunt old turn
  turn_values old hunt (Cut written) more is chases = absurd chases
  turn_values old hunt (On next) more is chases = record {
    knows = chases.0;
    text = [];
    writes = told_on old next.told hunt.told chases.1;
    is = λ rest on.
        is_valued is
        (on_with _ _ rest
        (chases.2
        ∙ ap (λ (ws : List Place). holds_from r.before (record (quest_of (record hunt { values = hunt.values - 1 }) ws) { aim = aim_at r.before })) more) on);
  }

  one_branch : (decided : Bool) (s : Quest) → IsOne decided s r y → IsBranch s r y
  one_branch true s one = inl one
  one_branch false s one = inr one.1

  pub turn_cuts : (old now : Tally W) (hunt : Hunt) (decided : Bool) (written : Result (Unit {0}) WriteFault) → IsToldAs decided (quest_of hunt wanted) r y
      → hunt.lines ≡ 0 → WritesAfter contents old hunt.told now written lines_text → Takes contents q k r h y wanted left old hunt now (Cut written)
  turn_cuts old now hunt decided written this none writes =
      (writes, is_cut this.other this.inside (one_branch decided (quest_of hunt wanted) this.one) none)

  -- the text of either line
  abbrev before_line : Bool → List ℕ
  before_line decided = if decided then [] else codes "kept: "

  pub turn_tells : (old mid now : Tally W) (hunt : Hunt) (decided : Bool) (begun told : Result (Unit {0}) WriteFault) (turn : Turn)
      → left ≡ still_wanted y (overwritten r.before r.move) wanted → IsToldAs decided (quest_of hunt wanted) r y → 0 < hunt.lines
      → WritesAfter contents old hunt.told mid begun (before_line decided)
      → WritesAfter contents mid begun now told (lost_line q.places (k + 1) r.before r.move y)
      → Chases r.before left (if decided then aim_at r.before else hunt.aim) (record hunt { lines = hunt.lines - 1; told = told }) turn
      → Takes contents q k r h y wanted left old hunt now turn
  turn_tells old mid now hunt decided begun told (Cut written) still this some first line chases = absurd chases
  turn_tells old mid now hunt true begun told (On next) still this some first line chases = record {
    knows = chases.0;
    text = told_text q (k + 1) r y;
    writes = subst (λ (last : Result (Unit {0}) WriteFault). WritesAfter contents old hunt.told now last (told_text q (k + 1) r y)) (sym chases.1)
        (WritesAfter-WritesAfter contents old mid now hunt.told begun told [] (told_text q (k + 1) r y) (told_text q (k + 1) r y) first line refl);
    is = λ rest on.
        is_told this.other this.inside this.one some
        (on_with _ _ rest
        (chases.2 ∙ ap (λ (ws : List Place). holds_from r.before (record (quest_of hunt ws) { aim = aim_at r.before; lines = hunt.lines - 1 })) still) on);
  }
  turn_tells old mid now hunt false begun told (On next) still this some first line chases = record {
    knows = chases.0;
    text = kept_text q (k + 1) r y;
    writes = subst (λ (last : Result (Unit {0}) WriteFault). WritesAfter contents old hunt.told now last (kept_text q (k + 1) r y)) (sym chases.1)
        (WritesAfter-WritesAfter contents old mid now hunt.told begun told (codes "kept: ") (told_text q (k + 1) r y) (kept_text q (k + 1) r y) first line refl);
    is = λ rest on.
        is_kept this.other this.inside this.one.0 this.one.1 some
        (on_with _ _ rest
        (chases.2 ∙ ap (λ (ws : List Place). holds_from r.before (record (quest_of hunt ws) { lines = hunt.lines - 1 })) still) on);
  }
