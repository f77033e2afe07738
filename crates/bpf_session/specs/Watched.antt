-- Scaffolding: the bytes at some addresses, as the code remembers them.
use Rattle.std.specs.Prelude.{◌≡◌, ◌≤◌, ◌<◌, ℕ, Bool, false, List, [], length, map, slice_index}
use Rattle.bpf_steps.specs.ByAddress.{byte}
use Rattle.bpf_steps.specs.State.{State}
use Rattle.bpf_steps.specs.declared.run.guard.Guard.{Guard}
use Rattle.bpf_ring.specs.declared.backward.Stays.{Stays}
use Rattle.bpf_ring.specs.declared.backward.Stays.TheVariants.{Nothing, Depth, Bytes}
use Rattle.bpf_session.specs.Stops.{some_differs}

-- The bytes at these addresses.
abbrev pub bytes_at : List ℕ → State → List ℕ
bytes_at addresses x = map (byte x) addresses

-- A guard has each of some addresses.
abbrev pub Guards : Guard → List ℕ → Type 0
Guards guard addresses =
    (i : ℕ) → i < length addresses → (guard.first ≤ slice_index addresses i) × (slice_index addresses i ≤ guard.last)

-- What moves have left that changed no byte at some addresses.
abbrev pub LeavesWatched : List ℕ → Stays → Type 0
LeavesWatched addresses Nothing = addresses ≡ []
LeavesWatched addresses Depth = ⊥
LeavesWatched addresses (Bytes guard) = Guards guard addresses

-- Whether a byte at one of these addresses differs from what was seen of another state, of which each byte is the same where nothing
-- was replaced.
pub record Compares (addresses seen : List ℕ) (x y : State) (result : Bool) : Type 0 where
  pub since : result ≡ some_differs addresses x y
  pub before : result ≡ some_differs addresses y x
  pub same : result ≡ false → seen ≡ bytes_at addresses y
