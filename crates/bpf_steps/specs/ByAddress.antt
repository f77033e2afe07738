-- Memory read by address: the laws that say what its regions, runs, numbers and stores mean.
use Rattle.std.specs.Prelude.{◌≡◌, ◌≤◌, ◌<◌, ◌↔◌, ◌⊎◌, ℕ, zero, suc, ◌+◌, ◌*◌, ◌^◌, List, [], ◌∷◌, length, slice_index, slice_get, Option, Some, IsSome, option_map, unwrap_or}
use Rattle.bpf_isa.specs.Programs.{Checked}
use Rattle.bpf_isa.specs.declared.maps.MapShape.{MapShape}
use Rattle.bpf_steps.specs.Platform.{context_base, context_limit, frame_base, frame_len, frame_count, map_address, cell_address}
use Rattle.bpf_steps.specs.Regions.{Image, IsImage, Region, map_len, regions, index_of, number_at, with_bytes}
use Rattle.bpf_steps.specs.Access.{accessible}
use Rattle.bpf_steps.specs.State.{State, IsState, depth, initial, restarted}

-- The byte at an address, None where there is none.
abbrev pub byte_at : Image → ℕ → Option ℕ
byte_at m a = option_map (λ at. slice_index m.bytes at) (index_of m a 1)

-- Its value in a state; 0 where there is none.
abbrev pub byte : State → ℕ → ℕ
byte x a = unwrap_or (byte_at x.memory a) 0

-- Each region begins past this address.
abbrev pub AllPast : ℕ → List Region → Type 0
AllPast a [] = Unit {0}
AllPast a (r ∷ rs) = (a < r.base) × AllPast a rs

-- No two regions touch: at least one address lies between the end of one and each later one.
abbrev pub AreApart : List Region → Type 0
AreApart [] = Unit {0}
AreApart (r ∷ rs) = AllPast (r.base + r.len) rs × AreApart rs

abbrev pub RegionsAreApart : Type 0
RegionsAreApart = (m : Image) → IsImage m → AreApart (regions m)

-- A run is present exactly when each of its addresses has a byte.
abbrev pub RunsAreTheirAddresses : Type 0
RunsAreTheirAddresses =
    (m : Image) → IsImage m → (a n : ℕ) → 1 ≤ n →
    IsSome (index_of m a n) ↔ ((j : ℕ) → j < n → IsSome (byte_at m (a + j)))

-- The sum of the byte at a + j times 256^j, for j below n.
abbrev pub sum_at : Image → ℕ → ℕ → ℕ
sum_at m a zero = 0
sum_at m a (suc n) = sum_at m a n + unwrap_or (byte_at m (a + n)) 0 * 256 ^ n

-- A number in memory is that sum.
abbrev pub NumbersAreSums : Type 0
NumbersAreSums =
    (m : Image) → IsImage m → (a n at : ℕ) → index_of m a n ≡ Some at → number_at m at n ≡ sum_at m a n

-- After a store the new bytes stand in the run, and each other address has the byte that it had.
abbrev pub StoresAreLocal : Type 0
StoresAreLocal =
    (m : Image) → IsImage m → (a at : ℕ) (new : List ℕ) → index_of m a (length new) ≡ Some at →
    ((j : ℕ) → j < length new → byte_at (with_bytes m at new) (a + j) ≡ Some (slice_index new j))
    × ((b : ℕ) → (b < a) ⊎ (a + length new ≤ b) → byte_at (with_bytes m at new) b ≡ byte_at m b)

-- An address in a frame.
abbrev pub IsInFrame : ℕ → ℕ → Type 0
IsInFrame i a = (frame_base i ≤ a) × (a < frame_base i + frame_len)

-- A run is accessible exactly when it is present and none of its addresses lies in a frame above the depth.
abbrev pub AccessibleIsBelow : Type 0
AccessibleIsBelow =
    (x : State) → IsState x → (a n : ℕ) → 1 ≤ n →
    IsSome (accessible x a n)
    ↔ (IsSome (index_of x.memory a n) × ((i j : ℕ) → depth x < i → i < frame_count → j < n → IsInFrame i (a + j) → ⊥))

-- Each cell of each map of the program is accessible, at every depth.
abbrev pub CellsAreAccessible : Type 0
CellsAreAccessible =
    (x : State) → IsState x → (map index : ℕ) (shape : MapShape) → slice_get x.program.maps map ≡ Some shape → index < shape.entries →
    IsSome (accessible x (cell_address map index shape.value_size) shape.value_size)

-- At opening the context's bytes stand from its base on, and the bytes of frames and maps are zero.
abbrev pub OpenedByAddress : Type 0
OpenedByAddress =
    (program : Checked) (context : List ℕ) → length context ≤ context_limit →
    ((j : ℕ) → j < length context → byte_at (initial program context).memory (context_base + j) ≡ Some (slice_index context j))
    × ((i j : ℕ) → i < frame_count → j < frame_len → byte_at (initial program context).memory (frame_base i + j) ≡ Some 0)
    × ((i j : ℕ) (shape : MapShape) → slice_get program.maps i ≡ Some shape → j < map_len shape → byte_at (initial program context).memory (map_address i + j) ≡ Some 0)

-- Where a program starts once more the new context stands there, the bytes of the frames are zero, and those of the maps are what they were.
abbrev pub RestartedByAddress : Type 0
RestartedByAddress =
    (x : State) → IsState x → (context : List ℕ) → length context ≤ context_limit →
    ((j : ℕ) → j < length context → byte_at (restarted context x).memory (context_base + j) ≡ Some (slice_index context j))
    × ((i j : ℕ) → i < frame_count → j < frame_len → byte_at (restarted context x).memory (frame_base i + j) ≡ Some 0)
    × ((i j : ℕ) (shape : MapShape) → slice_get x.program.maps i ≡ Some shape → j < map_len shape →
    byte_at (restarted context x).memory (map_address i + j) ≡ byte_at x.memory (map_address i + j))

-- As long as nothing was stored, that is the state at opening.
abbrev pub RestartedAtOpening : Type 0
RestartedAtOpening =
    (program : Checked) (first context : List ℕ) → restarted context (initial program first) ≡ initial program context

-- All of these laws.
pub record MemoryIsItsAddresses : Type 0 where
  pub apart : RegionsAreApart
  pub runs : RunsAreTheirAddresses
  pub numbers : NumbersAreSums
  pub stores : StoresAreLocal
  pub accessible : AccessibleIsBelow
  pub cells : CellsAreAccessible
  pub opened : OpenedByAddress
  pub restarted : RestartedByAddress
  pub unchanged : RestartedAtOpening
