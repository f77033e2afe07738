-- Which slots of a function are come to surely, whatever conditions decide (postdominance): within one function, which a call comes back to.
use Rattle.std.specs.Prelude.{◌≡◌, ◌<◌, ◌↔◌, ℕ, ◌+◌, pos, ◌==◌, ◌&&◌, ◌||◌, not, if◌then◌else◌, Bool, true, false, List, Some, length}
use Rattle.bpf_isa.specs.Programs.{Checked, insn_at, slots_of, target_of}
use Rattle.bpf_isa.specs.declared.instruction.Insn.{Insn}
use Rattle.bpf_whynot.specs.Reach.{goes_on, jumps, calls}
use Rattle.bpf_whynot.specs.Flows.{ends}
use Rattle.bpf_whynot.specs.Tables.{is_in}
use Rattle.bpf_whynot.specs.declared.sure.Sure.{Sure}

-- A way of a function from a slot to one of some slots that does not go on from `target`: behind an instruction, also behind a call, or by a jump.
pub data Way (program : Checked) (target : ℕ) (last : ℕ → Bool) : ℕ → Type 0 where
  there : {p : ℕ} → p < length program.insns → last p ≡ true → Way program target last p
  on : {p : ℕ} (i : Insn) → (p == target) ≡ false → insn_at program p ≡ Some i → (goes_on i || calls i) ≡ true
      → Way program target last (p + slots_of i) → Way program target last p
  jumped : {p : ℕ} (i : Insn) (q : ℕ) → (p == target) ≡ false → insn_at program p ≡ Some i → jumps i ≡ true → target_of p i ≡ Some (pos q)
      → Way program target last q → Way program target last p

-- The function comes to `target` surely: there is a way to it, and without it none to an end of the function.
abbrev pub is_target : ℕ → ℕ → Bool
is_target target p = p == target

abbrev pub is_end_but : Checked → ℕ → ℕ → Bool
is_end_but program target p = ends program p && not (p == target)

abbrev pub last_of : Checked → ℕ → Bool → ℕ → Bool
last_of program target to_target = if to_target then is_target target else is_end_but program target

abbrev pub IsSure : Checked → ℕ → ℕ → Type 0
IsSure program target p = Way program target (is_target target) p × (Way program target (is_end_but program target) p → ⊥)

-- A test tells just that, of one slot; tests tell it of all slots of all programs.
abbrev pub TellsSure : Checked → ℕ → (ℕ → Bool) → Type 0
TellsSure program target test = (p : ℕ) → (test p ≡ true) ↔ IsSure program target p

-- By flags of the slots with a way to it, and of those with one to an end.
abbrev pub told_sure : Sure → ℕ → Bool
told_sure sure p = is_in sure.comes.items p && not (is_in sure.ends.items p)

-- The slots with a way to one of some slots, just those.
abbrev pub AreWays : Checked → ℕ → (ℕ → Bool) → List Bool → Type 0
AreWays program target last marks = (p : ℕ) → (is_in marks p ≡ true) ↔ Way program target last p
