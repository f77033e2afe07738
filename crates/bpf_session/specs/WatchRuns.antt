-- Watches of bytes one after another, which are set together and removed together; and which of the watched bytes changed.
use Rattle.std.specs.Prelude.{◌≡◌, ℕ, zero, suc, ◌+◌, ◌^◌, ◌==◌, ◌&&◌, not, is_some, Bool, List, [], ◌∷◌, ◌++◌, length, filter, find, map, Option, Some, None, Result, Ok, Err, nat_le, nat_lt, if◌then◌else◌}
use Rattle.std.specs.List.{list_all, list_any}
use Rattle.std.specs.Option.{option_map}
use Rattle.bpf_steps.specs.ByAddress.{byte}
use Rattle.bpf_steps.specs.Regions.{index_of}
use Rattle.bpf_steps.specs.State.{State}
use Rattle.bpf_session.specs.Limits.{most_watches}
use Rattle.bpf_session.specs.Sessions.{SessionValue}
use Rattle.bpf_session.specs.Stops.{has}
use Rattle.bpfdb_script.specs.declared.refusal.Refusal.{Refusal}
use Rattle.bpfdb_script.specs.declared.refusal.Refusal.TheVariants.{AddressNotPresent, TableFull, ThereOrNot}

-- The addresses of so many bytes from one on.
abbrev pub addresses : ℕ → ℕ → List ℕ
addresses a zero = []
addresses a (suc n) = addresses a n ++ (a + n) ∷ []

-- A run is of as many bytes as can be watched, one at least, and doesn't pass the last address.
abbrev pub is_run : ℕ → ℕ → Bool
is_run a n = nat_le 1 n && nat_le n most_watches && nat_lt (a + n) (2 ^ 64)

abbrev pub run_of : ℕ → ℕ → Option (List ℕ)
run_of a n = if is_run a n then Some (addresses a n) else None

-- Whether each byte of a run is present.
abbrev pub are_present : State → List ℕ → Bool
are_present x run = list_all (λ a. is_some (index_of x.memory a 1)) run

-- The watches with a run at their end, or the first refusal in the order of their numbers, as of a single watch.
abbrev pub with_run : List ℕ → List ℕ → State → Result (List ℕ) Refusal
with_run run watches x =
    if not (are_present x run) then Err AddressNotPresent
    else if nat_lt most_watches (length watches + length run) then Err TableFull
    else if list_any (has watches) run then Err ThereOrNot
    else Ok (watches ++ run)

-- The watches without a run, each byte of which is watched.
abbrev pub without_run : List ℕ → List ℕ → Result (List ℕ) Refusal
without_run run watches =
    if list_all (has watches) run then Ok (filter (λ a. not (has run a)) watches) else Err ThereOrNot

-- A session has these watches and is else as it was; or it is refused, and nothing changed.
abbrev pub SetsWatches : {K : Type 0} → SessionValue K → SessionValue K → Result (List ℕ) Refusal → Result (Unit {0}) Refusal → Type 0
SetsWatches old new (Ok watches) said = (said ≡ Ok tt) × (new ≡ record old { watches = watches })
SetsWatches old new (Err refusal) said = (said ≡ Err refusal) × (new ≡ old)

-- What is seen of the watched bytes: the address and the value of each, in order of setting.
abbrev pub seen_at : List ℕ → State → List (ℕ × ℕ)
seen_at watches x = map (λ a. (a, byte x a)) watches

-- The first of the addresses at which the byte is now another than was seen.
abbrev pub first_changed : List (ℕ × ℕ) → State → Option ℕ
first_changed seen y = option_map (λ s. s.0) (find (λ s. not (s.1 == byte y s.0)) seen)
