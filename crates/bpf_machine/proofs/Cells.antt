-- Cells of maps: where one is, all of its bytes are present.
use Rattle.std.proofs.Common.{sym, ◌≡◌, ◌≤◌, ◌<◌, ◌+◌, ◌-◌, ◌*◌, ◌^◌, ℕ, zero, suc, true, List, [], ◌∷◌, Option, Some, None, refl, ap, subst, ◌∙◌, arith}
use Rattle.std.specs.Prelude.{All, IsSome, slice_get, option_map, ◌++◌, nat_lt, ◌==◌}
use Rattle.std.proofs.lemmas.Bool.{and_from, and_parts}
use Rattle.std.proofs.lemmas.Bool.Decides.{nat_tests}
use Rattle.std.proofs.Math.Nat.{mul-le-mul_left}
use Rattle.std.proofs.lemmas.Nat.{mul-le}
use Rattle.std.proofs.lemmas.Option.{slice_get_within}
use Rattle.bpf_isa.specs.declared.maps.MapShape.{MapShape}
use Rattle.bpf_isa.specs.Maps.{IsShape}
use Rattle.bpf_steps.specs.Platform.{context_base, frame_len, frame_count, map_address, cell_address}
use Rattle.bpf_steps.specs.Regions.{Image, IsImage, frames_from, maps_from, map_len, index_in, index_of, is_from_frame}
use Rattle.bpf_steps.specs.State.{State, IsState, depth}
use Rattle.bpf_machine.specs.Edits.{has_cell}
use Rattle.bpf_steps.specs.ByAddress.{CellsAreAccessible}
use Rattle.bpf_steps.proofs.ByAddress.{shown, past_frames}
use Rattle.bpf_steps.proofs.Indices.{index_here, index_above, frames_before}
use Rattle.bpf_steps.proofs.Spans.{first_shape, later_shapes}

-- A run within a map.
map_run : (i q : ℕ) (shapes : List MapShape) (shape : MapShape) (a r n : ℕ) → All IsShape shapes → slice_get shapes q ≡ Some shape → a ≡ map_address (i + q) + r → r + n ≤ map_len shape → 1 ≤ n → (at : ℕ) × (index_in (maps_from i shapes) a n ≡ Some at)
unfolding maps_from
map_run i q [] shape a r n h here e fits some = cc
map_run i zero (s ∷ shapes) shape a r n h here e fits some =
    let same : map_len s ≡ map_len shape = cc in
    (a - map_address i, index_here (record { base = map_address i; len = map_len s }) (maps_from (suc i) shapes) a n (omega arith) (omega (arith, same)))
map_run i (suc q) (s ∷ shapes) shape a r n h here e fits some =
    let short = (first_shape s shapes h).total in
    let later = map_run (suc i) q shapes shape a r n (later_shapes s shapes h) here (omega arith) fits some in
    (map_len s + later.0, index_above (record { base = map_address i; len = map_len s }) (maps_from (suc i) shapes) a n (omega (arith, short)) ∙ ap (option_map (λ at. map_len s + at)) later.1)

-- A run in the maps is a run in memory.
in_memory : (m : Image) (a n at : ℕ) → IsImage m → map_address 0 ≤ a → 1 ≤ n → index_in (maps_from 0 m.maps) a n ≡ Some at → IsSome (index_of m a n)
in_memory m a n at h low some found =
    let short = h.short in
    is_some_by _ _ (index_above (record { base = context_base; len = m.context_len }) (frames_from 0 frame_count ++ maps_from 0 m.maps) a n (omega (arith, short))
    ∙ ap (option_map (λ k. m.context_len + k)) (frames_before 0 frame_count (maps_from 0 m.maps) a n some (omega arith) ∙ ap (option_map (λ k. frame_len * frame_count + k)) found))
  where
    is_some_by : (found : Option ℕ) (k : ℕ) → found ≡ Some k → IsSome found
    is_some_by None k e = cc
    is_some_by (Some l) k e = refl

-- The shape of a map that has a cell.
has_shape : (found : Option MapShape) (index n : ℕ) → has_cell found index n ≡ true → (shape : MapShape) × (found ≡ Some shape) × (index < shape.entries) × (n ≡ shape.value_size)
has_shape None index n able = cc
has_shape (Some shape) index n able =
    let two = and_parts (nat_lt index shape.entries) (n == shape.value_size) able in
    let low : index < shape.entries = let holds = two.0 in grind (arith, nat_tests) in
    let whole : n ≡ shape.value_size = let holds = two.1 in grind (arith, nat_tests) in
    (shape, refl, low, whole)

-- Such a cell is there.
pub cell_is_there : (shape : MapShape) (index n : ℕ) → index < shape.entries → n ≡ shape.value_size → has_cell (Some shape) index n ≡ true
cell_is_there shape index n low whole = and_from (nat_lt index shape.entries) (n == shape.value_size) (grind (arith, nat_tests)) (grind (arith, nat_tests))

shape_at : (shapes : List MapShape) (i : ℕ) (shape : MapShape) → All IsShape shapes → slice_get shapes i ≡ Some shape → IsShape shape
shape_at [] i shape h e = cc
shape_at (s ∷ shapes) zero shape h e = let same : s ≡ shape = cc in subst IsShape same (first_shape s shapes h)
shape_at (s ∷ shapes) (suc i) shape h e = shape_at shapes i shape (later_shapes s shapes h) e

pub cell_present : (x : State) (map index n : ℕ) → IsState x → has_cell (slice_get x.program.maps map) index n ≡ true → IsSome (index_of x.memory (cell_address map index n) n)
cell_present x map index n is able =
    let found = has_shape (slice_get x.program.maps map) index n able in
    let shape = found.0 in
    let here : slice_get x.memory.maps map ≡ Some shape = ap (λ maps. slice_get maps map) is.mapped ∙ found.1 in
    let limits = shape_at x.memory.maps map shape is.image.tables.shapes here in
    let some : 1 ≤ n = let filled = limits.filled.0 in omega (arith, found.3) in
    let zeroth : 0 + map ≡ map = omega arith in
    let fits : n * index + n ≤ map_len shape = cell_within index n shape found.2 found.3 in
    let run = map_run 0 map x.memory.maps shape (cell_address map index n) (n * index) n is.image.tables.shapes here (omega (arith, zeroth)) fits some in
    in_memory x.memory (cell_address map index n) n run.0 is.image (omega arith) some run.1
  where
    cell_within : (index n : ℕ) (shape : MapShape) → index < shape.entries → n ≡ shape.value_size → n * index + n ≤ map_len shape
    cell_within index n shape low e =
        let whole : shape.value_size * (index + 1) ≤ map_len shape = mul-le-mul_left shape.value_size (omega arith) in
        let same = ap (λ k. k * index) e in
        omega (arith, whole, same, e)

-- The address of a cell.
pub cell_limits : (x : State) (map index n : ℕ) → IsState x → has_cell (slice_get x.program.maps map) index n ≡ true → (map < 16) × (index < 4096) × (1 ≤ n) × (n ≤ 256)
cell_limits x map index n is able =
    let found = has_shape (slice_get x.program.maps map) index n able in
    let limits = shape_at x.program.maps map found.0 is.checked.tables.shapes found.1 in
    let few = is.checked.tables.few in
    let some = limits.filled.0 in
    let value = limits.value in
    let entries = limits.entries in
    let within = slice_get_within x.program.maps map found.0 found.1 in
    (omega (arith, few, within), omega (arith, found.2, entries), omega (arith, found.3, some), omega (arith, found.3, value))

pub cell_address_fits : (x : State) (map index n : ℕ) → IsState x → has_cell (slice_get x.program.maps map) index n ≡ true → cell_address map index n < 2 ^ 64
cell_address_fits x map index n is able =
    let limits = cell_limits x map index n is able in
    address_low map index n limits.0 limits.1 limits.3
  where
    address_low : (map index n : ℕ) → map < 16 → index < 4096 → n ≤ 256 → cell_address map index n < 2 ^ 64
    address_low map index n few low short = omega (arith, mul-le n index 256 4096 short (omega arith))

pub law_cells : CellsAreAccessible
law_cells x is map index shape here low =
    let n = shape.value_size in
    let a = cell_address map index n in
    let able : has_cell (slice_get x.program.maps map) index n ≡ true = subst (λ found. has_cell found index n ≡ true) (sym here) (cell_is_there shape index shape.value_size low refl) in
    shown (is_from_frame (depth x + 1) a) (index_of x.memory a n) (past_frames (depth x + 1) a (omega arith)) (cell_present x map index n is able)
