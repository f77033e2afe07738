-- When a table is the least that is right, where an address of the frame counts as any other number.
use Rattle.std.specs.Prelude.{◌≡◌, ◌<◌, ℕ, ◌+◌, ◌*◌, Bool, true, List}
use Rattle.bpf_packet.specs.Holding.{covers, held_in}
use Rattle.bpf_packet.specs.Tables.{is_right}
use Rattle.bpf_packet.specs.declared.held.Held.{Held}
use Rattle.bpf_packet.specs.declared.held.Held.TheVariants.{Nothing, Other, Frame, Context, Either, Left}

-- An address of the frame as what it is besides: something else than the context's.
abbrev pub plain : Held → Held
plain (Frame at) = Other
plain Nothing = Nothing
plain Other = Other
plain (Context at) = Context at
plain Either = Either
plain Left = Left

-- So taken, one holds at least what another one does.
unfoldable pub reaches : Held → Held → Bool
reaches held given = covers (plain held) (plain given)

-- A table reaches another one at each place of each slot.
abbrev pub AllReach : List Held → List Held → Type 0
AllReach table given = (at : ℕ) → reaches (held_in table at) (held_in given at) ≡ true

-- A state of it reaches what is given for its places.
abbrev pub StateReaches : List Held → ℕ → List Held → Type 0
StateReaches table p given = (place : ℕ) → place < 75 → reaches (held_in table (75 * p + place)) (held_in given place) ≡ true

-- Each table that is right reaches this one.
abbrev pub IsLeast : List ℕ → List Held → Type 0
IsLeast words table = (other : List Held) → is_right words other ≡ true → AllReach other table
