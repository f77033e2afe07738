-- Parts of the machine, as lines name them, and the places that they are. A place is a number: of a byte its address, and below 80 of a register.
use Rattle.std.specs.Prelude.{ℕ, zero, suc, ◌+◌, ◌-◌, ◌*◌, ◌%◌, ◌^◌, nat_lt, if◌then◌else◌, List, [], ◌∷◌, codes, Option, Some, None}
use Rattle.std.specs.Option.{option_and_then, option_map, option_map_or}
use Rattle.counted_io.specs.Cuts.{after, before}
use Rattle.answer_forms.specs.Cuts.{behind}
use Rattle.input_texts.specs.TraceForms.{number}
use Rattle.answer_forms.specs.declared.graph_part.Part.{Part}

-- A number below another one.
abbrev pub below : ℕ → List ℕ → Option ℕ
below limit s = option_and_then (λ n. if nat_lt n limit then Some n else None) (number s)

-- A register is of the function at the depth that follows it, or else at depth 0. A function that is called begins with its caller's: where one is
-- told, it is told at the greater depths, too.
abbrev pub depth_in : List ℕ → Option ℕ
depth_in s = option_map_or (λ t. below 8 (before 32 t)) (behind (codes "at depth ") s) (Some 0)

abbrev pub register : ℕ → ℕ → Part
register r d = record { first = 8 * r + d; read = 1; told = 8 - d }

abbrev pub register_in : List ℕ → List ℕ → Option Part
register_in name rest = option_and_then (λ r. option_map (register r) (depth_in rest)) (below 10 name)

-- Bytes are at most those of a frame.
abbrev pub bytes : ℕ → ℕ → Part
bytes a n = record { first = a; read = n; told = n }

abbrev pub bytes_in : List ℕ → Option Part
bytes_in name = option_and_then (λ a. option_map (bytes a) (below 513 (after 58 name))) (number (before 58 name))

-- The part with whose name a text begins.
abbrev pub part_in : List ℕ → Option Part
part_in s = option_map_or (λ t. register_in (before 32 t) (after 32 t)) (behind (codes "r") s) (bytes_in (before 32 s))

-- So many places from one on.
abbrev pub places : ℕ → ℕ → List ℕ
places first zero = []
places first (suc n) = first ∷ places ((first + 1) % 2 ^ 64) n
