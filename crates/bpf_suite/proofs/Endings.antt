-- What is wrong of cells depends on what the maps hold, and on nothing else.
use Rattle.std.proofs.Common.{ℕ, zero, suc, ◌≡◌, ◌≤◌, ◌<◌, ◌+◌, ◌-◌, ◌*◌, Bool, true, false, not, List, [], ◌∷◌, ◌++◌, drop, take, length, Option, Some, None, Result, Ok, Err, cond, refl, sym, ap, subst, ◌∙◌, arith}
use Rattle.std.specs.Prelude.{All, OnOk, nat_lt, slice_get, slice_range}
use Rattle.std.specs.List.{filter}
use Rattle.std.specs.Option.{option_and_then, option_map_or}
use Rattle.std.proofs.Math.Nat.{mul-le-mul_left}
use Rattle.std.proofs.Math.Seq.{take-add}
use Rattle.std.proofs.lemmas.Bool.Decides.{nat_tests}
use Rattle.std.proofs.lemmas.List.{take_all}
use Rattle.bpf_isa.specs.Maps.{IsShape}
use Rattle.bpf_isa.specs.declared.maps.MapShape.{MapShape}
use Rattle.bpf_machine.specs.Edits.{has_cell}
use Rattle.bpf_steps.specs.Platform.{cell_address, map_base, map_stride}
use Rattle.bpf_steps.specs.Regions.{index_in, map_len, maps_from, maps_len, run_at}
use Rattle.bpf_steps.specs.State.{IsState, State}
use Rattle.bpf_machine.proofs.Cells.{cell_is_there, cell_limits}
use Rattle.bpf_steps.proofs.Spans.{first_shape, later_shapes}
use Rattle.bpf_suite.specs.Bodies.{fits, solid}
use Rattle.bpf_suite.specs.Images.{map_bytes}
use Rattle.bpf_suite.specs.Reports.{AreTold}
use Rattle.bpf_suite.specs.Verdicts.{cell_value, holds, size_in, wrong_lines}
use Rattle.bpf_suite.specs.declared.cells.CellLine.{CellLine}
use Rattle.bpf_suite.specs.declared.values.WrongCells.{WrongCells}
use Rattle.bpf_suite.proofs.Images.{map_bytes-long, maps_len-next, nothing-read, run-read, shape-run}

-- the value of a cell among the bytes of all maps
abbrev part : ℕ → ℕ → ℕ → List MapShape → List ℕ → Option (List ℕ)
part map index n maps bytes = Some (slice_range bytes (maps_len (take map maps) + n * index) (maps_len (take map maps) + n * index + n))

cell-read : (x : State) (map index : ℕ) (shape : MapShape) → IsState x → slice_get x.program.maps map ≡ Some shape → index < shape.entries
    → run_at x.memory (cell_address map index shape.value_size) shape.value_size ≡ part map index shape.value_size x.program.maps (map_bytes x)
cell-read x map index shape is here low =
    let n = shape.value_size in
    let able : has_cell (slice_get x.program.maps map) index n ≡ true =
    subst (λ (cell : Option MapShape). has_cell cell index n ≡ true) (sym here) (cell_is_there shape index n low refl) in
    let some = (cell_limits x map index n is able).2 in
    let whole : n * (index + 1) ≤ map_len shape = mul-le-mul_left n (omega arith) in
    let fits : n * index + n ≤ map_len shape = omega (arith, whole) in
    let there = shape-run x map (n * index) n (cell_address map index n) (maps_len (take map x.program.maps)) shape is here refl some fits (omega arith) in
    run-read x (cell_address map index n) n (maps_len (take map x.program.maps) + n * index) is (omega arith) some there.0

-- the values of cells of two machines whose maps hold the same
abbrev value_in : State → ℕ → ℕ → Option ℕ → Option (List ℕ)
value_in x map index size = option_and_then (λ n. run_at x.memory (cell_address map index n) n) size

module _ (x y : State) (is : IsState x) (its : IsState y) (maps : x.program.maps ≡ y.program.maps) (held : map_bytes x ≡ map_bytes y) where
  same-shape : (map index : ℕ) (shape : MapShape) → slice_get x.program.maps map ≡ Some shape
      → value_in x map index (size_in index shape) ≡ value_in y map index (size_in index shape)
  same-shape map index shape here = go (nat_lt index shape.entries) refl where
    n : ℕ
    n = shape.value_size

    there : slice_get y.program.maps map ≡ Some shape
    there = ap (λ (ms : List MapShape). slice_get ms map) (sym maps) ∙ here

    go : (b : Bool) → nat_lt index shape.entries ≡ b → value_in x map index (size_in index shape) ≡ value_in y map index (size_in index shape)
    go true e =
        let low : index < shape.entries = grind (arith, nat_tests) in
        ap (λ (b : Bool). value_in x map index (cond b (Some n) None)) e
        ∙ cell-read x map index shape is here low
        ∙ ap (λ (ms : List MapShape). part map index n ms (map_bytes x)) maps ∙ ap (part map index n y.program.maps) held
        ∙ sym (cell-read y map index shape its there low)
        ∙ ap (λ (b : Bool). value_in y map index (cond b (Some n) None)) (sym e)
    go false e =
        ap (λ (b : Bool). value_in x map index (cond b (Some n) None)) e
        ∙ ap (λ (b : Bool). value_in y map index (cond b (Some n) None)) (sym e)

  same-value : (map index : ℕ) → cell_value x map index ≡ cell_value y map index
  same-value map index = go (slice_get x.program.maps map) refl where
    there : slice_get y.program.maps map ≡ slice_get x.program.maps map
    there = ap (λ (ms : List MapShape). slice_get ms map) (sym maps)

    go : (found : Option MapShape) → slice_get x.program.maps map ≡ found → cell_value x map index ≡ cell_value y map index
    go None e =
        ap (λ (o : Option MapShape). value_in x map index (option_and_then (size_in index) o)) e
        ∙ ap (λ (o : Option MapShape). value_in y map index (option_and_then (size_in index) o)) (sym (there ∙ e))
    go (Some shape) e =
        ap (λ (o : Option MapShape). value_in x map index (option_and_then (size_in index) o)) e
        ∙ same-shape map index shape e
        ∙ ap (λ (o : Option MapShape). value_in y map index (option_and_then (size_in index) o)) (sym (there ∙ e))

  same-holds : (line : CellLine) → not (holds x line) ≡ not (holds y line)
  same-holds line = ap (λ (value : Option (List ℕ)). not (option_map_or (λ v. fits (solid line.digits) v) value false)) (same-value line.map line.index)

filter-same : {X : Type 0} (p q : X → Bool) → ((x : X) → p x ≡ q x) → (xs : List X) → filter p xs ≡ filter q xs
filter-same p q same [] = refl
filter-same p q same (x ∷ xs) =
    ap (λ b. cond b (x ∷ filter p xs) (filter p xs)) (same x) ∙ ap (λ ys. cond (q x) (x ∷ ys) ys) (filter-same p q same xs)

-- the lines that don't hold on a machine don't hold wherever its maps hold the same
pub ending-at : (lines : List CellLine) (shapes : List MapShape) (bytes : List ℕ) (wrong : WrongCells) (x : State) → IsState x → shapes ≡ x.program.maps
    → bytes ≡ map_bytes x → AreTold (wrong_lines lines (Ok x)) wrong
    → (y : State) → IsState y → y.program.maps ≡ shapes → map_bytes y ≡ bytes → AreTold (wrong_lines lines (Ok y)) wrong
ending-at lines shapes bytes wrong x is maps held told = λ y its same alike.
    subst (λ ls. AreTold ls wrong)
    (filter-same (λ l. not (holds x l)) (λ l. not (holds y l)) (same-holds x y is its (sym maps ∙ sym same) (sym held ∙ sym alike)) lines) told

-- one shape more
take-next : (maps : List MapShape) (map : ℕ) (shape : MapShape) → slice_get maps map ≡ Some shape → take (map + 1) maps ≡ take map maps ++ shape ∷ []
take-next [] map shape here = cc
take-next (s ∷ maps) zero shape here = let same : s ≡ shape = cc in ap (λ (t : MapShape). t ∷ []) same
take-next (s ∷ maps) (suc map) shape here = ap (λ k. take k (s ∷ maps)) (up map) ∙ ap (λ ts. s ∷ ts) (take-next maps map shape here) where
  up : (n : ℕ) → suc n + 1 ≡ suc (n + 1)
  up n = omega arith

pub shapes-next : (maps old new : List MapShape) (map : ℕ) (shape : MapShape) → slice_get maps map ≡ Some shape → new ≡ old ++ shape ∷ [] → old ≡ take map maps
    → new ≡ take (map + 1) maps
shapes-next maps old new map shape here more first = more ∙ ap (λ ts. ts ++ shape ∷ []) first ∙ sym (take-next maps map shape here)

-- a map has bytes
filled : (a b : ℕ) → 0 < a → 0 < b → 1 ≤ a * b
filled a b some more = let least : a * 1 ≤ a * b = mul-le-mul_left a (omega (arith, more)) in omega (arith, some, least)

pub shape-some : (maps : List MapShape) (map : ℕ) (shape : MapShape) → All IsShape maps → slice_get maps map ≡ Some shape → 1 ≤ map_len shape
shape-some [] map shape h here = cc
shape-some (s ∷ maps) zero shape h here =
    let same : s ≡ shape = cc in
    let both = (first_shape s maps h).filled in
    subst (λ (t : MapShape). 1 ≤ map_len t) same (filled s.value_size s.entries both.0 both.1)
shape-some (s ∷ maps) (suc map) shape h here = shape-some maps map shape (later_shapes s maps h) here

-- all bytes of a map
module _ (x : State) (map a n before : ℕ) (shape : MapShape) (is : IsState x) (here : slice_get x.program.maps map ≡ Some shape)
    (e : before ≡ maps_len (take map x.program.maps)) (long : n ≡ map_len shape) (some : 1 ≤ n) (at : a ≡ map_base + map_stride * map) where
  place : index_in (maps_from 0 x.program.maps) a n ≡ Some (before + 0)
  place = (shape-run x map 0 n a before shape is here e some (omega (arith, long)) (omega (arith, at))).0

  pub whole-read : (run : List ℕ) → Some run ≡ run_at x.memory a n → run ≡ slice_range (map_bytes x) before (before + map_len shape)
  whole-read run read =
      let same : Some run ≡ Some (slice_range (map_bytes x) (before + 0) (before + 0 + n)) = read ∙ run-read x a n (before + 0) is (omega (arith, at)) some place in
      let mine : run ≡ slice_range (map_bytes x) (before + 0) (before + 0 + n) = cc in
      let start : before + 0 ≡ before = omega arith in
      mine ∙ ap (λ k. slice_range (map_bytes x) k (k + n)) start ∙ ap (λ k. slice_range (map_bytes x) before (before + k)) long

  pub never-absent : run_at x.memory a n ≡ None → ⊥
  never-absent none = nothing-read x a n (before + 0) is (omega (arith, at)) some none place

-- the bytes of one map more
bytes-next : (x : State) (map : ℕ) (shape : MapShape) (old new : List ℕ) → slice_get x.program.maps map ≡ Some shape
    → ((before : ℕ) → before ≡ maps_len (take map x.program.maps) → new ≡ old ++ slice_range (map_bytes x) before (before + map_len shape))
    → old ≡ take (maps_len (take map x.program.maps)) (map_bytes x) → new ≡ take (maps_len (take (map + 1) x.program.maps)) (map_bytes x)
bytes-next x map shape old new here more first =
    let B = maps_len (take map x.program.maps) in
    let wide : (B + map_len shape) - B ≡ map_len shape = omega arith in
    more B refl ∙ ap (λ s. s ++ slice_range (map_bytes x) B (B + map_len shape)) first
    ∙ ap (λ k. take B (map_bytes x) ++ take k (drop B (map_bytes x))) wide
    ∙ sym (take-add B (map_len shape) (map_bytes x))
    ∙ ap (λ k. take k (map_bytes x)) (sym (maps_len-next map x.program.maps shape here))

pub map-added : {E : Type 0} (x : State) (map : ℕ) (shape : MapShape) (old new : List ℕ) (result : Result (Unit {0}) E) → slice_get x.program.maps map ≡ Some shape
    → OnOk result ((before : ℕ) → before ≡ maps_len (take map x.program.maps) → new ≡ old ++ slice_range (map_bytes x) before (before + map_len shape))
    → OnOk result (old ≡ take (maps_len (take map x.program.maps)) (map_bytes x) → new ≡ take (maps_len (take (map + 1) x.program.maps)) (map_bytes x))
map-added x map shape old new (Ok done) here more = bytes-next x map shape old new here more
map-added x map shape old new (Err fault) here more = tt

-- all of them
pub all-bytes : (x : State) (map : ℕ) (bytes : List ℕ) → IsState x → map ≡ length x.program.maps → bytes ≡ take (maps_len (take map x.program.maps)) (map_bytes x)
    → bytes ≡ map_bytes x
all-bytes x map bytes is all first =
    let whole : take map x.program.maps ≡ x.program.maps = take_all map x.program.maps (omega (arith, all)) in
    first ∙ ap (λ (ms : List MapShape). take (maps_len ms) (map_bytes x)) whole
    ∙ take_all (maps_len x.program.maps) (map_bytes x) (omega (arith, map_bytes-long x is))
