-- Where a program may come to, by what its instructions say and whatever conditions decide.
use Rattle.std.specs.Prelude.{◌≡◌, ◌<◌, ◌↔◌, ℕ, ◌+◌, pos, ◌==◌, if◌then◌else◌, Bool, true, false, List, ◌∷◌, Some, length, map, reverse}
use Rattle.std.specs.List.{list_any}
use Rattle.std.specs.Option.{option_map_or}
use Rattle.bpf_entries.specs.Status.{has_ended}
use Rattle.bpf_isa.specs.Programs.{Checked, insn_at, slots_of, target_of}
use Rattle.bpf_isa.specs.declared.instruction.Insn.{Insn}
use Rattle.bpf_isa.specs.declared.instruction.Insn.TheVariants.{JumpIf, Jump, JumpLong, CallLocal, Exit}
use Rattle.bpf_steps.specs.Platform.{frame_count}
use Rattle.bpf_steps.specs.State.{State, frame}

-- An instruction may be followed by the one after it: each but `ja`, `exit` and the call of a function, which is followed by that function.
abbrev pub goes_on : Insn → Bool
goes_on (Jump offset) = false
goes_on (JumpLong distance) = false
goes_on (CallLocal distance) = false
goes_on Exit = false
goes_on _ = true

-- It may jump: `ja` and the conditional jumps.
abbrev pub jumps : Insn → Bool
jumps (JumpIf condition width dst source offset) = true
jumps (Jump offset) = true
jumps (JumpLong distance) = true
jumps _ = false

-- It calls a function of the program.
abbrev pub calls : Insn → Bool
calls (CallLocal distance) = true
calls _ = false

-- A slot is one of those that are asked about.
abbrev pub is_goal : List ℕ → ℕ → Bool
is_goal goals p = list_any (λ goal. goal == p) goals

-- From a slot, with the slots to which the functions that stand return, the innermost first, a program can come to a goal: it is there; or it
-- goes on behind an instruction, jumps, calls, where there is a frame for that, or returns, and can from there.
pub data CanReach (program : Checked) (goals : List ℕ) : ℕ → List ℕ → Type 0 where
  there : {p : ℕ} {returns : List ℕ} → is_goal goals p ≡ true → CanReach program goals p returns
  on : {p : ℕ} {returns : List ℕ} (i : Insn) → insn_at program p ≡ Some i → goes_on i ≡ true
      → CanReach program goals (p + slots_of i) returns → CanReach program goals p returns
  jumped : {p : ℕ} {returns : List ℕ} (i : Insn) (q : ℕ) → insn_at program p ≡ Some i → jumps i ≡ true → target_of p i ≡ Some (pos q)
      → CanReach program goals q returns → CanReach program goals p returns
  called : {p : ℕ} {returns : List ℕ} (i : Insn) (q : ℕ) → insn_at program p ≡ Some i → calls i ≡ true → target_of p i ≡ Some (pos q)
      → length returns + 1 < frame_count → CanReach program goals q ((p + 1) ∷ returns) → CanReach program goals p returns
  returned : {p q : ℕ} {returns : List ℕ} → insn_at program p ≡ Some Exit
      → CanReach program goals q returns → CanReach program goals p (q ∷ returns)

-- A test tells just that, of slots with as many functions as can stand.
abbrev pub TellsReach : Checked → List ℕ → (ℕ → List ℕ → Bool) → Type 0
TellsReach program goals can = (p : ℕ) (returns : List ℕ) → length returns < frame_count → (can p returns ≡ true) ↔ CanReach program goals p returns

-- The slot to which a pushed frame returns, 0 the innermost, and those of all.
abbrev pub return_slot : State → ℕ → ℕ
return_slot x i = option_map_or (λ f. f.return_pc) (frame x i) 0

abbrev pub return_slots : State → List ℕ
return_slots x = reverse (map (λ f. f.return_pc) x.frames)

-- A state can reach a goal by such a test. An ended one can't.
abbrev pub can_from : (ℕ → List ℕ → Bool) → State → Bool
can_from can x = if has_ended x.status then false else can x.pc (return_slots x)
