-- Places: what holds a value in a state. r10 is none: it follows from the depth of calls.
use Rattle.std.specs.Prelude.{◌≤◌, ◌<◌, ℕ, zero, suc, ◌+◌, ◌-◌, ◌%◌, ◌^◌, Bool, false, nat_lt, nat_le, ◌==◌, ◌&&◌, if◌then◌else◌, List, [], ◌∷◌, Option, Some, None, slice_index, slice_get}
use Rattle.bpf_steps.specs.declared.frame.Frame.{Frame}
use Rattle.bpf_steps.specs.ByAddress.{byte}
use Rattle.bpf_steps.specs.State.{State, depth}
use Rattle.bpf_origin.specs.declared.place.Place.{Place}
use Rattle.bpf_origin.specs.declared.place.Place.TheVariants.{Register, Word, Byte}
use Rattle.bpf_origin.specs.declared.place.Part.{Part}
use Rattle.bpf_origin.specs.declared.place.Part.TheVariants as part

-- The depth that a register of the function at depth d counts as: each has r6 to r9 of its own; r0 to r5 are shared, and count as depth 0's.
abbrev pub depth_for : ℕ → ℕ → ℕ
depth_for d r = if nat_lt r 6 then 0 else d

-- One of r6 to r9 of a function: the frame that its call of another one pushed keeps them, until that one returns.
abbrev pub own_register : Option Frame → List ℕ → ℕ → ℕ
own_register (Some f) registers r = slice_index f.saved (r - 6)
own_register None registers r = slice_index registers r

-- The value at a place.
abbrev pub value : State → Place → ℕ
value x (Register d r) =
    if nat_lt r 6 then slice_index x.registers r else own_register (slice_get x.frames d) x.registers r
value x (Word i) = slice_index x.trace i
value x (Byte a) = byte x a

-- A register is one of r0 to r9 of a function that has not returned.
abbrev pub IsPlace : State → Place → Type 0
IsPlace x (Register d r) = (r < 10) × (d ≤ depth_for (depth x) r)
IsPlace x _ = Unit {0}

-- Whether two places are one.
abbrev pub same : Place → Place → Bool
same (Register d r) (Register e s) = d == e && (r == s)
same (Word i) (Word j) = i == j
same (Byte a) (Byte b) = a == b
same _ _ = false

-- n bytes from an address on; addresses are taken mod 2^64.
unfoldable pub bytes_from : ℕ → ℕ → List Place
bytes_from a zero = []
bytes_from a (suc n) = Byte (a % 2 ^ 64) ∷ bytes_from (suc a) n

-- The places of a part, and whether a place is one of them.
abbrev pub places_of : Part → List Place
places_of (part.Register d r) = Register d r ∷ []
places_of (part.Word i) = Word i ∷ []
places_of (part.Bytes a n) = bytes_from a n

abbrev pub has : Part → Place → Bool
has (part.Register d r) p = same (Register d r) p
has (part.Word i) p = same (Word i) p
has (part.Bytes a n) (Byte b) = nat_le a b && nat_lt b (a + n)
has (part.Bytes a n) _ = false
