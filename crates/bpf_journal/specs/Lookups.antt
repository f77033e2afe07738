-- Records that are looked up in a history, from the newest on.
use Rattle.std.specs.Prelude.{◌≡◌, ◌≢◌, ◌≤◌, ◌<◌, length, ℕ, zero, suc, Bool, not, ◌-◌, ◌==◌, List, [], ◌∷◌, Option, Some, None, option_map, if◌then◌else◌}
use Rattle.bpf_steps.specs.ByAddress.{byte}
use Rattle.bpf_steps.specs.State.{State}
use Rattle.bpf_journal.specs.Histories.{Record}
use Rattle.bpf_journal.specs.declared.timeline.ByteChange.{ByteChange}

-- A test of a record and the state after its move.
abbrev pub Test : Type 0
Test = Record → State → Bool

-- How many moves the n-th latest record that passes a test lies back, in a history that leads to y: 1 is the last move. None where
-- there are fewer.
abbrev pub latest : Test → ℕ → List Record → State → Option ℕ
latest test n [] y = None
latest test n (r ∷ h) y =
    if test r y then (if n == 1 then Some 1 else option_map suc (latest test (n - 1) h r.before))
    else option_map suc (latest test n h r.before)

-- The state before the k-th last move of a history that leads to y; y itself for k = 0, and the oldest one where there are fewer.
abbrev pub state_before : ℕ → List Record → State → State
state_before zero h y = y
state_before (suc k) [] y = y
state_before (suc k) (r ∷ h) y = state_before k h r.before

-- A move, a step or an edit, that changed the value of the byte at an address.
abbrev pub changes_byte : ℕ → Test
changes_byte a r y = not (byte r.before a == byte y a)

-- The latest such move: how far it lies back, and the byte's values before and after it.
abbrev pub byte_change : ℕ → List Record → State → ℕ → ByteChange
byte_change a h y k = record { moves = k; old = byte (state_before k h y) a; new = byte (state_before (k - 1) h y) a }

abbrev pub last_change : ℕ → List Record → State → Option ByteChange
last_change a h y = option_map (byte_change a h y) (latest (changes_byte a) 1 h y)

-- The latest change of a byte, in the words of those who ask for it: the byte differs before and after that move, and from then on it
-- kept its value.
pub record IsLatestChange (a : ℕ) (h : List Record) (y : State) (c : ByteChange) : Type 0 where
  pub some : 1 ≤ c.moves
  pub within : c.moves ≤ length h
  pub old : byte (state_before c.moves h y) a ≡ c.old
  pub new : byte y a ≡ c.new
  pub differs : c.old ≢ c.new
  pub since : (j : ℕ) → j < c.moves → byte (state_before j h y) a ≡ byte y a

abbrev pub LastChangeIsLatest : Type 0
LastChangeIsLatest = (a : ℕ) (h : List Record) (y : State) (c : ByteChange) → last_change a h y ≡ Some c → IsLatestChange a h y c

-- Where there is none the byte never changed.
abbrev pub NoChangeNoDifference : Type 0
NoChangeNoDifference = (a : ℕ) (h : List Record) (y : State) → last_change a h y ≡ None → (j : ℕ) → byte (state_before j h y) a ≡ byte y a
