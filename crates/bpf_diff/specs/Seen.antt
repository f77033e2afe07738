-- What is seen of a machine from outside: the bytes of its context and of its maps, its traced words, and r0 where it exited. And the first
-- place at which two runs leave something else.
use Rattle.std.specs.Prelude.{ℕ, zero, suc, ◌-◌, max, Bool, true, false, not, ◌==◌, ◌&&◌, if◌then◌else◌, List, [], ◌∷◌, ◌++◌, find, length, nat_lt, option_map, slice_get, Option, Some, None}
use Rattle.std.specs.Option.{option_or}
use Rattle.bpf_entries.specs.declared.status.Status.{Status}
use Rattle.bpf_entries.specs.declared.status.Status.TheVariants.{Running, Exited, Faulted}
use Rattle.bpf_isa.specs.declared.maps.MapShape.{MapShape}
use Rattle.bpf_steps.specs.ByAddress.{byte_at}
use Rattle.bpf_steps.specs.Platform.{context_base, map_address}
use Rattle.bpf_steps.specs.Regions.{map_len}
use Rattle.bpf_steps.specs.State.{State, register}
use Rattle.bpf_origin.specs.Places.{bytes_from}
use Rattle.bpf_origin.specs.declared.place.Place.{Place}
use Rattle.bpf_origin.specs.declared.place.Place.TheVariants.{Register, Word, Byte}

-- What stands at a place, None where there is no such byte or word. Of the registers r0 alone is seen.
abbrev pub seen : State → Place → Option ℕ
seen x (Byte a) = byte_at x.memory a
seen x (Word i) = slice_get x.trace i
seen x (Register d r) = Some (register x 0)

-- What stood there before the first step: the context's byte, and zero in a map; None where there is no such byte or word.
abbrev pub given : List ℕ → State → Place → Option ℕ
given context x (Byte a) = option_or (slice_get context (a - context_base)) (option_map (λ v. 0) (byte_at x.memory a))
given context x p = None

abbrev pub same_value : Option ℕ → Option ℕ → Bool
same_value None None = true
same_value (Some v) (Some w) = v == w
same_value v w = false

-- Two runs, on these contexts, end with something else there. What each left as it was given doesn't count.
unfoldable pub ends_otherwise : List ℕ → List ℕ → State → State → Place → Bool
ends_otherwise c d x y p = not (same_value (seen x p) (seen y p))
    && not (same_value (seen x p) (given c x p) && same_value (seen y p) (given d y p))

-- The places that are seen, in their order: the longer context, the maps from map i on, of two with one number the one with more bytes, the traced
-- words from word i on.
abbrev pub context_places : List ℕ → List ℕ → List Place
context_places c d = bytes_from context_base (max (length c) (length d))

unfoldable pub map_places : ℕ → List MapShape → List Place
map_places i [] = []
map_places i (shape ∷ shapes) = bytes_from (map_address i) (map_len shape) ++ map_places (suc i) shapes

abbrev pub longer : MapShape → MapShape → MapShape
longer shape other = if nat_lt (map_len shape) (map_len other) then other else shape

abbrev pub longest : List MapShape → List MapShape → List MapShape
longest [] others = others
longest (shape ∷ shapes) [] = shape ∷ shapes
longest (shape ∷ shapes) (other ∷ others) = longer shape other ∷ longest shapes others

abbrev pub longest_maps : State → State → List MapShape
longest_maps x y = longest x.program.maps y.program.maps

unfoldable pub words_from : ℕ → ℕ → List Place
words_from i zero = []
words_from i (suc n) = Word i ∷ words_from (suc i) n

abbrev pub word_places : State → State → List Place
word_places x y = words_from 0 (max (length x.trace) (length y.trace))

-- r0, where both exited with another one.
abbrev pub has_exited : Status → Bool
has_exited Running = false
has_exited Exited = true
has_exited (Faulted fault) = false

abbrev pub r0 : Place
r0 = Register 0 0

abbrev pub result_otherwise : State → State → Option Place
result_otherwise x y =
    if has_exited x.status && (has_exited y.status && not (register x 0 == register y 0)) then Some r0 else None

-- The first place at which they do, as they ended.
abbrev pub first_place : List ℕ → List ℕ → State → State → Option Place
first_place c d x y =
    option_or (find (ends_otherwise c d x y) (context_places c d))
    (option_or (find (ends_otherwise c d x y) (map_places 0 (longest_maps x y)))
    (option_or (find (ends_otherwise c d x y) (word_places x y)) (result_otherwise x y)))
