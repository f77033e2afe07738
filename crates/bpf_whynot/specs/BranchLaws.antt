-- Laws of what branches decide: why it is enough to look, in a call of a function, for the oldest slot that is to be explained; and what it means
-- for the runs of a machine that a slot is sure, that a branch decided it, that this one had gone the other way, and that one kept a value.
use Rattle.std.specs.Prelude.{◌≡◌, ◌≢◌, ◌≤◌, ◌<◌, ◌⊎◌, ℕ, suc, ◌+◌, pos, false, List, Some}
use Rattle.bpf_isa.specs.Programs.{Checked, insn_at, target_of}
use Rattle.bpf_isa.specs.declared.instruction.Insn.{Insn}
use Rattle.bpf_isa.specs.declared.instruction.Insn.TheVariants.{Exit}
use Rattle.bpf_machine.specs.declared.moves.Move.TheVariants.{Step}
use Rattle.bpf_origin.specs.declared.place.Place.{Place}
use Rattle.bpf_steps.specs.Next.{next}
use Rattle.bpf_steps.specs.Runs.{state_after}
use Rattle.bpf_steps.specs.State.{State, IsState, depth}
use Rattle.bpf_whynot.specs.Sures.{IsSure}
use Rattle.bpf_whynot.specs.Branches.{Decided, DecidesBy}
use Rattle.bpf_whynot.specs.Keeps.{CanWrite, writes_one}
use Rattle.bpf_whynot.specs.declared.branch_aim.Aim.{Aim}

-- Where a function comes to an older slot surely, and from there to a younger one, it comes to the younger one surely.
abbrev pub SureGoesOn : Type 0
SureGoesOn = (program : Checked) (young old p : ℕ) → IsSure program old p → IsSure program young old → IsSure program young p

-- A way out of a conditional jump: to the slot behind it, or to its target.
abbrev pub IsWayOut : ℕ → Insn → ℕ → Type 0
IsWayOut p i way = (way ≡ p + 1) ⊎ (target_of p i ≡ Some (pos way))

-- A branch decided that a function came to the younger slot, and went a way from which it comes surely to the older one, and from there to the younger
-- one. Then it decided that it came to the older one.
abbrev pub OlderIsDecided : Type 0
OlderIsDecided =
    (program : Checked) (young old p way : ℕ) (i : Insn) → DecidesBy program young p i → IsWayOut p i way →
    IsSure program old way → IsSure program young old → DecidesBy program old p i

-- For n steps the function in which a machine stands doesn't return.
abbrev pub GoesOnFor : State → ℕ → Type 0
GoesOnFor x n = (k : ℕ) → k ≤ n → depth x ≤ depth (state_after k x)

-- n steps on, in that same call of the function, it stands at a slot.
pub record ComesTo (x : State) (n slot : ℕ) : Type 0 where
  pub within : GoesOnFor x n
  pub level : depth (state_after n x) ≡ depth x
  pub there : (state_after n x).pc ≡ slot

-- In that call it stood at a slot after none of up to n steps; none of the n steps decided that the function comes to a slot.
abbrev pub NeverAt : State → ℕ → ℕ → Type 0
NeverAt x n slot = (k : ℕ) → k ≤ n → depth (state_after k x) ≡ depth x → (state_after k x).pc ≢ slot

abbrev pub NoneDecides : State → ℕ → ℕ → Type 0
NoneDecides x n slot =
    (k : ℕ) → k < n → depth (state_after k x) ≡ depth x → Decided slot (state_after k x) Step (state_after (suc k) x) → ⊥

-- What is sure comes: no run comes to an end of the function without having stood at the slot.
abbrev pub SureIsComeTo : Type 0
SureIsComeTo =
    (x : State) (n slot end : ℕ) → IsState x → IsSure x.program slot x.pc →
    ComesTo x n end → insn_at x.program end ≡ Some Exit → NeverAt x n slot → ⊥

-- What isn't sure comes by a branch that decides it, or not at all.
abbrev pub BranchesLeadThere : Type 0
BranchesLeadThere =
    (x : State) (n slot : ℕ) → IsState x → (IsSure x.program slot x.pc → ⊥) → ComesTo x n slot → NoneDecides x n slot → ⊥

-- A branch is told of a slot: its step decided that the function comes there, n steps later it was there, and none between decided it.
pub record IsTold (x : State) (n slot : ℕ) : Type 0 where
  pub decided : Decided slot x Step (next x)
  pub came : ComesTo (next x) n slot
  pub latest : NoneDecides (next x) n slot

-- The state after a branch that goes a way.
abbrev pub gone : State → ℕ → State
gone x way = record x { pc = way }

-- The way that a branch went which is told leads surely to the slot. Had it gone the other way, the machine would come there only by a branch that
-- decides that anew, the same one or another, or not at all.
abbrev pub TurnedBranchesLeadElsewhere : Type 0
TurnedBranchesLeadElsewhere =
    (x : State) (n slot way : ℕ) (i : Insn) → IsState x → insn_at x.program x.pc ≡ Some i → IsTold x n slot →
    IsWayOut x.pc i way → way ≢ (next x).pc →
    IsSure x.program slot (next x).pc × ((m : ℕ) → ComesTo (gone x way) m slot → NoneDecides (gone x way) m slot → ⊥)

-- Where no other branch of the program decides that, the machine comes there only by this one again.
abbrev pub DecidesAlone : Checked → ℕ → ℕ → Type 0
DecidesAlone program slot p = (q : ℕ) (i : Insn) → insn_at program q ≡ Some i → DecidesBy program slot q i → q ≡ p

abbrev pub LoneBranchesArePassedAgain : Type 0
LoneBranchesArePassedAgain =
    (x : State) (n m slot way : ℕ) (i : Insn) → IsState x → insn_at x.program x.pc ≡ Some i → IsTold x n slot →
    IsWayOut x.pc i way → way ≢ (next x).pc → DecidesAlone x.program slot x.pc →
    ComesTo (gone x way) m slot → NeverAt (gone x way) m x.pc → ⊥

-- What is kept isn't written: from a state from which the function can't write some places before it comes to a slot, in that call it takes no step at an
-- instruction that may write one, as long as it comes to that slot after none of the steps.
abbrev pub KeptIsNotWritten : Type 0
KeptIsNotWritten =
    (x : State) (n : ℕ) (places : List Place) (wall : Aim) → IsState x → (CanWrite x.program places wall x.pc → ⊥) →
    GoesOnFor x n → depth (state_after n x) ≡ depth x → NeverAt x n wall.slot →
    writes_one x.program places wall (state_after n x).pc ≡ false
