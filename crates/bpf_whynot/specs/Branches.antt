-- Why a value came about: the branches that decided that the moves were made which the answer about it tells, and that the program came to where it
-- stands (dynamic control dependence), and those that kept a value as it was (potential dependence), the newest first.
use Rattle.std.specs.Prelude.{◌≡◌, ◌≢◌, ◌<◌, ◌⊎◌, ℕ, ◌+◌, ◌-◌, ◌==◌, nat_lt, pos, Bool, true, false, if◌then◌else◌, List, [], ◌∷◌, ◌++◌, Some, take}
use lib.Chars.{codes}
use Rattle.bpf_isa.specs.Programs.{Checked, insn_at, target_of}
use Rattle.bpf_isa.specs.declared.instruction.Insn.{Insn}
use Rattle.bpf_isa.specs.declared.instruction.Insn.TheVariants.{JumpIf}
use Rattle.bpf_machine.specs.declared.moves.Move.{Move}
use Rattle.bpf_machine.specs.declared.moves.Move.TheVariants as move
use Rattle.bpf_machine.specs.Moves.{overwritten}
use Rattle.bpf_steps.specs.State.{State, depth}
use Rattle.bpf_journal.specs.Histories.{Record}
use Rattle.bpf_origin.specs.Answers.{Answer, wanted_before, with_line}
use Rattle.bpf_origin.specs.Texts.{lines_text}
use Rattle.bpf_origin.specs.Wanted.{are_hit, most_places, still_wanted, want_parts}
use Rattle.bpf_origin.specs.Writes.{written}
use Rattle.bpf_origin.specs.declared.place.Part.{Part}
use Rattle.bpf_origin.specs.declared.place.Place.{Place}
use Rattle.bpf_origin.specs.declared.question.Extent.TheVariants.{Lines}
use Rattle.bpf_origin.specs.declared.question.Question.{Question}
use Rattle.bpf_whynot.specs.Answers.{lost_line, only}
use Rattle.bpf_whynot.specs.Keeps.{Held, KeptIt, held_places}
use Rattle.bpf_whynot.specs.Sures.{IsSure}
use Rattle.bpf_whynot.specs.declared.branch_aim.Aim.{Aim}

-- A conditional jump decides that its function comes to a slot (control dependence): by one way out of it that is sure, and by the other it isn't.
abbrev pub JustOne : Type 0 → Type 0 → Type 0
JustOne a b = (a × (b → ⊥)) ⊎ ((a → ⊥) × b)

abbrev pub Parts : Checked → ℕ → ℕ → Insn → Type 0
Parts program slot p i = (q : ℕ) × (target_of p i ≡ Some (pos q)) × JustOne (IsSure program slot (p + 1)) (IsSure program slot q)

abbrev pub DecidesBy : Checked → ℕ → ℕ → Insn → Type 0
DecidesBy program slot p (JumpIf condition width dst source offset) = Parts program slot p (JumpIf condition width dst source offset)
DecidesBy program slot p _ = ⊥

-- A move decided it: a step by such a jump, or an edit that led to another slot.
abbrev pub Decided : ℕ → State → Move → State → Type 0
Decided slot x move.Step y = (i : Insn) × (insn_at x.program x.pc ≡ Some i) × DecidesBy x.program slot x.pc i
Decided slot x (move.Edit e) y = y.pc ≢ x.pc

-- The slot that was come to, and the depth of calls of its function.
abbrev pub aim_at : State → Aim
aim_at x = record { depth = depth x; slot = x.pc }

-- A move of that function itself decided it.
abbrev pub DecidedIt : Aim → Record → State → Type 0
DecidedIt a r y = (depth r.before ≡ a.depth) × Decided a.slot r.before r.move y

-- The end: no other move is such a branch.
abbrev pub end_text : Bool → List ℕ
end_text opening = if opening then codes "no other branch; at the opening\n" else codes "no other branch; before the kept history\n"

-- What is looked for: where the values at some places came from, in so many more lines of the answer about them; how a function came to its slot, in so
-- many lines; and what kept those values as they were, up to the oldest slot that is told of a call.
pub record Quest : Type 0 where
  pub wanted : List Place
  pub values : ℕ
  pub aim : Aim
  pub lines : ℕ
  pub held : Held

-- From a state on what is wanted is held to be as it is.
abbrev pub holds_from : State → Quest → Quest
holds_from x s = record s { held = record { places = held_places s.values s.wanted; wall = aim_at x } }

-- A move made a value: the answer about the value tells it.
abbrev pub made : Quest → Record → State → Bool
made s r y = if s.values == 0 then false else are_hit (written y (overwritten r.before r.move)) s.wanted

-- Behind such a move it is looked for what that read, and how the program came to it; behind a branch that is told for how it came to that, unless it
-- only kept a value; behind a call that began the function for how it came to the call.
abbrev pub behind_value : Question → Quest → Record → State → Quest
behind_value q s r y =
    holds_from r.before
    (record s { wanted = take most_places (wanted_before q r y s.wanted); values = s.values - 1; aim = aim_at r.before })

abbrev pub behind : Quest → Record → State → Quest
behind s r y = record s { wanted = still_wanted y (overwritten r.before r.move) s.wanted }

abbrev pub behind_call : Quest → Record → State → Quest
behind_call s r y =
    holds_from r.before (record (behind s r y) { aim = if nat_lt (depth r.before) s.aim.depth then aim_at r.before else s.aim })

abbrev pub behind_branch : Quest → Record → State → Quest
behind_branch s r y = holds_from r.before (record (behind s r y) { aim = aim_at r.before; lines = s.lines - 1 })

abbrev pub behind_kept : Quest → Record → State → Quest
behind_kept s r y = holds_from r.before (record (behind s r y) { lines = s.lines - 1 })

-- A call began the function, or that in which a value was held.
abbrev pub Entered : Quest → Record → Type 0
Entered s r = depth r.before < s.held.wall.depth

-- The lines of both.
abbrev pub told_text : Question → ℕ → Record → State → List ℕ
told_text q k r y = lost_line q.places k r.before r.move y

abbrev pub kept_text : Question → ℕ → Record → State → List ℕ
kept_text q k r y = codes "kept: " ++ told_text q k r y

-- A branch is told: it decided, or it kept a value.
abbrev pub IsBranch : Quest → Record → State → Type 0
IsBranch s r y = DecidedIt s.aim r y ⊎ KeptIt s.held r y

-- The answer after k moves. The latest move is told that decided that the function came to the slot which is looked for: the oldest one, in that call,
-- that is to be explained. (What decided about a younger one decided about that, too: `OlderIsDecided` of Laws.) So is each that kept a value, by the
-- slots up to the oldest one that is told.
pub data Branches (q : Question) : ℕ → Quest → List Record → State → Answer → Type 0 where
  ended : {k : ℕ} {s : Quest} {y : State} → Branches q k s [] y (only (end_text q.opening))
  valued : {k : ℕ} {s : Quest} {r : Record} {h : List Record} {y : State} {rest : Answer} → made s r y ≡ true
      → Branches q (k + 1) (behind_value q s r y) h r.before rest → Branches q k s (r ∷ h) y rest
  called : {k : ℕ} {s : Quest} {r : Record} {h : List Record} {y : State} {rest : Answer} → made s r y ≡ false → Entered s r
      → Branches q (k + 1) (behind_call s r y) h r.before rest → Branches q k s (r ∷ h) y rest
  passed : {k : ℕ} {s : Quest} {r : Record} {h : List Record} {y : State} {rest : Answer} → made s r y ≡ false → (Entered s r → ⊥)
      → (IsBranch s r y → ⊥) → Branches q (k + 1) (behind s r y) h r.before rest → Branches q k s (r ∷ h) y rest
  told : {k : ℕ} {s : Quest} {r : Record} {h : List Record} {y : State} {rest : Answer} → made s r y ≡ false → (Entered s r → ⊥)
      → DecidedIt s.aim r y → 0 < s.lines
      → Branches q (k + 1) (behind_branch s r y) h r.before rest → Branches q k s (r ∷ h) y (with_line (told_text q (k + 1) r y) rest)
  kept : {k : ℕ} {s : Quest} {r : Record} {h : List Record} {y : State} {rest : Answer} → made s r y ≡ false → (Entered s r → ⊥)
      → (DecidedIt s.aim r y → ⊥) → KeptIt s.held r y → 0 < s.lines
      → Branches q (k + 1) (behind_kept s r y) h r.before rest → Branches q k s (r ∷ h) y (with_line (kept_text q (k + 1) r y) rest)
  cut : {k : ℕ} {s : Quest} {r : Record} {h : List Record} {y : State} → made s r y ≡ false → (Entered s r → ⊥)
      → IsBranch s r y → s.lines ≡ 0 → Branches q k s (r ∷ h) y (record { text = lines_text; extent = Lines })

-- The answer about some parts, where a machine stands.
abbrev pub quest_about : Question → List Part → State → Quest
quest_about q parts y = record {
  wanted = take most_places (want_parts [] parts);
  values = q.lines;
  aim = aim_at y;
  lines = q.lines;
  held = record { places = held_places q.lines (take most_places (want_parts [] parts)); wall = aim_at y };
}

abbrev pub AreBranches : Question → List Part → List Record → State → Answer → Type 0
AreBranches q parts h y answer = Branches q 0 (quest_about q parts y) h y answer
