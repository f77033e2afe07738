-- What lines ask of maps: the first whose cell isn't there is found by the shape of each map.
use Rattle.std.proofs.Common.{ℕ, zero, suc, ◌≡◌, ◌≤◌, ◌<◌, ◌+◌, ◌-◌, ◌*◌, Bool, true, false, List, [], ◌∷◌, ◌++◌, length, length-append, get_or, replicate, Option, Some, None, Result, Ok, Err, refl, sym, ap, subst, ◌∙◌, arith, cond, ◌&&◌, ◌==◌}
use Rattle.std.specs.Prelude.{IfSome, OnOk, filter_map, nat_lt, not, option_map, slice_get}
use Rattle.std.specs.Option.{option_map_or}
use Rattle.std.proofs.lemmas.Bool.Decides.{nat_tests}
use Rattle.std.proofs.lemmas.List.{get_or-append-add, get_or-replicate, get_or_append_left, length-replicate}
use Rattle.std.proofs.lemmas.Option.{get_or_from_slice_get, slice_get-get_or, slice_get_past, slice_get_within}
use Rattle.bpf_isa.specs.Maps.{AreMaps, IsShape}
use Rattle.bpf_isa.specs.declared.maps.MapShape.{MapShape}
use Rattle.bpf_machine.specs.Edits.{has_cell}
use Rattle.bpf_steps.specs.Regions.{map_len}
use Rattle.bpf_suite.specs.Asks.{AreAsked, AreAskedOf, AreFirsts, IsMissing, entries_for, first_from, lacking, lacking_below, lacking_in, map_of, most_lacking, size_with, sooner, spot_of}
use Rattle.bpf_suite.specs.Cells.{cell_of, value_of}
use Rattle.bpf_suite.specs.Outcomes.{missing}
use Rattle.bpf_suite.specs.declared.asks.Ask.{Ask}
use Rattle.bpf_suite.specs.declared.asks.Spot.{Spot}
use Rattle.bpf_suite.specs.declared.cells.Cell.{Cell}
use Rattle.bpf_suite.specs.declared.cells.CellLine.{CellLine}
use Rattle.bpf_suite.specs.declared.refusal.Refusal.{Refusal}
use Rattle.bpf_suite.specs.declared.refusal.Refusal.TheVariants.{NoCell}
use Rattle.bpf_suite.proofs.Lists.{or_else}

-- one line more
first-append : (p : CellLine → Bool) (i : ℕ) (before : List CellLine) (line : CellLine)
    → first_from p i (before ++ line ∷ []) ≡ or_else (first_from p i before) (cond (p line) (Some (spot_of (i + length before) line)) None)
first-append p i [] line = let here : i ≡ i + 0 = omega arith in ap (λ k. cond (p line) (Some (spot_of k line)) None) here
first-append p i (l ∷ before) line = go (p l) refl (first-append p (i + 1) before line) where
  go : (b : Bool) → p l ≡ b
      → first_from p (i + 1) (before ++ line ∷ []) ≡ or_else (first_from p (i + 1) before) (cond (p line) (Some (spot_of (i + 1 + length before) line)) None)
      → first_from p i (l ∷ before ++ line ∷ []) ≡ or_else (first_from p i (l ∷ before)) (cond (p line) (Some (spot_of (i + length (l ∷ before)) line)) None)
  go true here rest = rw here refl
  go false here rest = let same : i + 1 + length before ≡ i + length (l ∷ before) = omega arith in
      rw here (rest ∙ ap (λ k. or_else (first_from p (i + 1) before) (cond (p line) (Some (spot_of k line)) None)) same)

-- a list that is filled up to n elements
filled-long : {X : Type 0} (xs : List X) (n : ℕ) (x : X) → length (xs ++ replicate (n - length xs) x) ≡ length xs + (n - length xs)
filled-long xs n x = length-append xs (replicate (n - length xs) x) ∙ ap (λ k. length xs + k) (length-replicate (n - length xs) x)

none-past : {X : Type 0} (xs : List X) (q : ℕ) (x : X) → slice_get xs q ≡ None → length xs ≤ q
none-past xs q x none = go (nat_lt q (length xs)) refl where
  go : (b : Bool) → nat_lt q (length xs) ≡ b → length xs ≤ q
  go true is = let there = slice_get-get_or xs q x (grind (arith, nat_tests)) in cc
  go false is = grind (arith, nat_tests)

filled-old : {X : Type 0} (xs : List X) (n q : ℕ) (x y : X) → slice_get xs q ≡ Some y → slice_get (xs ++ replicate (n - length xs) x) q ≡ Some y
filled-old xs n q x y here =
    let low = slice_get_within xs q y here in
    slice_get-get_or (xs ++ replicate (n - length xs) x) q x (omega (arith, low, filled-long xs n x))
    ∙ ap Some (get_or_append_left xs (replicate (n - length xs) x) x q low ∙ get_or_from_slice_get xs q y x here)

filled-new : {X : Type 0} (xs : List X) (n q : ℕ) (x : X) → slice_get xs q ≡ None → q < n → slice_get (xs ++ replicate (n - length xs) x) q ≡ Some x
filled-new xs n q x none low =
    let past = none-past xs q x none in
    let more = replicate (n - length xs) x in
    let at : q ≡ length xs + (q - length xs) = omega (arith, past) in
    slice_get-get_or (xs ++ more) q x (omega (arith, low, past, filled-long xs n x))
    ∙ ap Some (ap (λ k. get_or (xs ++ more) k x) at ∙ get_or-append-add xs more (q - length xs) x ∙ get_or-replicate (n - length xs) (q - length xs) x x (omega (arith, low, past)))

filled-past : {X : Type 0} (xs : List X) (n q : ℕ) (x : X) → slice_get xs q ≡ None → n ≤ q → slice_get (xs ++ replicate (n - length xs) x) q ≡ None
filled-past xs n q x none high =
    let past = none-past xs q x none in
    slice_get_past (xs ++ replicate (n - length xs) x) q (omega (arith, high, past, filled-long xs n x))

-- by how many entries a further line is the first that a map lacks, where no earlier one is
abbrev Filled : ℕ → ℕ → ℕ → Option MapShape → Bool → Type 0
Filled size n index shape lacks = cond lacks (entries_for size shape ≤ most_lacking size n index) (most_lacking size n index < entries_for size shape)

lacks-here : (size n index : ℕ) (s : MapShape) → IsShape s → s.value_size ≡ size → (lacks : Bool) → lacks ≡ not (has_cell (Some s) index n)
    → Filled size n index (Some s) lacks
lacks-here size n index s is same lacks e = grind (arith, nat_tests, is.entries)

lacks-other : (size n index : ℕ) (s : MapShape) → (s.value_size == size) ≡ false → n ≡ size → not (has_cell (Some s) index n) ≡ true
lacks-other size n index s other same = grind (arith, nat_tests)

and-none : (b : Bool) → (b && false) ≡ false
and-none true = refl
and-none false = refl

or-none : (b : Bool) → cond b true false ≡ b
or-none true = refl
or-none false = refl

-- a line that is about another map, or gives no value
or_else-none : {X : Type 0} (o : Option X) → or_else o None ≡ o
or_else-none None = refl
or_else-none (Some x) = refl

pub firsts-skipped : (before : List CellLine) (line : CellLine) (map size : ℕ) (firsts : List Spot) → ((shape : Option MapShape) → lacking_in map shape line ≡ false)
    → AreFirsts before map size firsts → AreFirsts (before ++ line ∷ []) map size firsts
firsts-skipped before line map size firsts none h = λ shape is.
    let p = lacking_in map shape in
    h shape is ∙ sym (first-append p 0 before line
    ∙ ap (λ (b : Bool). or_else (first_from p 0 before) (cond b (Some (spot_of (0 + length before) line)) None)) (none shape)
    ∙ or_else-none (first_from p 0 before))

pub other-map : (line : CellLine) (map : ℕ) (shape : Option MapShape) → (map_of line == map) ≡ false → lacking_in map shape line ≡ false
other-map line map shape e = ap (λ (b : Bool). b && lacking shape line) e

pub no-value : (line : CellLine) (map : ℕ) (shape : Option MapShape) → value_of line ≡ None → lacking_in map shape line ≡ false
no-value line map shape e =
    ap (λ (o : Option (List ℕ)). (map_of line == map) && option_map_or (λ value. not (has_cell shape line.index (length value))) o false) e
    ∙ and-none (map_of line == map)

-- a line that gives a value to a cell of the map
pub with-value : (line : CellLine) (map : ℕ) (value : List ℕ) (shape : Option MapShape) → (map_of line == map) ≡ true → value_of line ≡ Some value
    → lacking_in map shape line ≡ not (has_cell shape line.index (length value))
with-value line map value shape here e =
    ap (λ (b : Bool). b && lacking shape line) here ∙ ap (λ (o : Option (List ℕ)). option_map_or (λ v. not (has_cell shape line.index (length v))) o false) e

same-place : (firsts : List Spot) (size n : ℕ) (shape : Option MapShape) → slice_get firsts (entries_for (size_with firsts size n) shape) ≡ slice_get firsts (entries_for size shape)
same-place [] size n shape = refl
same-place (spot ∷ spots) size n shape = refl

first-size : (firsts : List Spot) (size n : ℕ) → slice_get firsts 0 ≡ None → size_with firsts size n ≡ n
first-size [] size n none = refl
first-size (spot ∷ spots) size n none = cc

filled : (firsts : List Spot) (size n index : ℕ) (shape : Option MapShape) → IfSome shape IsShape
    → slice_get firsts (entries_for (size_with firsts size n) shape) ≡ None
    → Filled (size_with firsts size n) n index shape (not (has_cell shape index n))
filled firsts size n index None is none = omega arith
filled firsts size n index (Some s) is none = go (s.value_size == size_with firsts size n) refl where
  new : ℕ
  new = size_with firsts size n

  go : (b : Bool) → (s.value_size == size_with firsts size n) ≡ b → Filled (size_with firsts size n) n index (Some s) (not (has_cell (Some s) index n))
  go true e = lacks-here (size_with firsts size n) n index s is (grind (arith, nat_tests)) (not (has_cell (Some s) index n)) refl
  go false e =
      let q : entries_for (size_with firsts size n) (Some s) ≡ 0 = ap (λ (b : Bool). cond b s.entries 0) e in
      let is-new = first-size firsts size n (ap (slice_get firsts) (sym q) ∙ none) in
      let lacks = lacks-other (size_with firsts size n) n index s e (sym is-new) in
      rw (lacks, q) (omega arith)

pub firsts-noted : (before : List CellLine) (line : CellLine) (map size : ℕ) (firsts : List Spot) (value : List ℕ) → (map_of line == map) ≡ true → value_of line ≡ Some value
    → AreFirsts before map size firsts
    → AreFirsts (before ++ line ∷ []) map (size_with firsts size (length value))
    (firsts ++ replicate (most_lacking (size_with firsts size (length value)) (length value) line.index + 1 - length firsts) (spot_of (length before) line))
firsts-noted before line map size firsts value here e h = λ shape is.
    go shape is (first_from (lacking_in map shape) 0 before) refl where
      n : ℕ
      n = length value

      new : ℕ
      new = size_with firsts size (length value)

      spot : Spot
      spot = spot_of (length before) line

      more : ℕ
      more = most_lacking (size_with firsts size (length value)) (length value) line.index + 1

      none-yet : (shape : Option MapShape) → (b : Bool) → not (has_cell shape line.index n) ≡ b → Filled new n line.index shape b
          → slice_get firsts (entries_for new shape) ≡ None
          → slice_get (firsts ++ replicate (more - length firsts) spot) (entries_for new shape) ≡ cond b (Some spot) None
      none-yet shape true is f none = filled-new firsts more (entries_for new shape) spot none (omega (arith, f))
      none-yet shape false is f none = filled-past firsts more (entries_for new shape) spot none (omega (arith, f))

      go : (shape : Option MapShape) → IfSome shape IsShape → (found : Option Spot) → first_from (lacking_in map shape) 0 before ≡ found
          → slice_get (firsts ++ replicate (more - length firsts) spot) (entries_for new shape) ≡ first_from (lacking_in map shape) 0 (before ++ line ∷ [])
      go shape is (Some y) was =
          let p = lacking_in map shape in
          filled-old firsts more (entries_for new shape) spot y (same-place firsts size n shape ∙ h shape is ∙ was)
          ∙ sym (first-append p 0 before line ∙ ap (λ o. or_else o (cond (p line) (Some (spot_of (0 + length before) line)) None)) was)
      go shape is None was =
          let p = lacking_in map shape in
          let none = same-place firsts size n shape ∙ h shape is ∙ was in
          let lacks = with-value line map value shape here e in
          let at : 0 + length before ≡ length before = omega arith in
          none-yet shape (not (has_cell shape line.index n)) refl (filled firsts size n line.index shape is none) none
          ∙ ap (λ (b : Bool). cond b (Some spot) None) (sym lacks)
          ∙ ap (λ k. cond (p line) (Some (spot_of k line)) None) (sym at)
          ∙ sym (first-append p 0 before line ∙ ap (λ o. or_else o (cond (p line) (Some (spot_of (0 + length before) line)) None)) was)

-- of no lines nothing is asked
pub firsts-none : (map size : ℕ) → AreFirsts [] map size []
firsts-none map size = λ shape is. refl

-- the first of two kinds
first-place : (p : CellLine → Bool) (i : ℕ) (lines : List CellLine) (s : Spot) → first_from p i lines ≡ Some s → i ≤ s.place
first-place p i [] s e = cc
first-place p i (line ∷ lines) s e = go (p line) e (first-place p (i + 1) lines s) where
  go : (b : Bool) → cond b (Some (spot_of i line)) (first_from p (i + 1) lines) ≡ Some s → (first_from p (i + 1) lines ≡ Some s → i + 1 ≤ s.place) → i ≤ s.place
  go true same rest = let is : spot_of i line ≡ s = cc in let at : i ≡ s.place = ap (λ (t : Spot). t.place) is in omega (arith, at)
  go false later rest = let after = rest later in omega (arith, after)

sooner-here : (s : Spot) (i : ℕ) (other : Option Spot) → s.place ≡ i → ((t : Spot) → other ≡ Some t → i + 1 ≤ t.place) → sooner (Some s) other ≡ Some s
sooner-here s i None at later = refl
sooner-here s i (Some t) at later = let after = later t refl in ap (λ (b : Bool). cond b (Some t) (Some s)) (before after) where
  before : i + 1 ≤ t.place → nat_lt t.place s.place ≡ false
  before after = grind (arith, nat_tests, at, after)

sooner-there : (t : Spot) (i : ℕ) (one : Option Spot) → t.place ≡ i → ((s : Spot) → one ≡ Some s → i + 1 ≤ s.place) → sooner one (Some t) ≡ Some t
sooner-there t i None at later = refl
sooner-there t i (Some s) at later = let after = later s refl in ap (λ (b : Bool). cond b (Some t) (Some s)) (before after) where
  before : i + 1 ≤ s.place → nat_lt t.place s.place ≡ true
  before after = grind (arith, nat_tests, at, after)

-- a line is about map k, or a map below it
record Parts (more one other : Bool) : Type 0 where
  both : (one && other) ≡ false
  any : more ≡ cond one true other

parts : (maps : List MapShape) (k : ℕ) (line : CellLine) → Parts (lacking_below maps (k + 1) line) (lacking_below maps k line) (lacking_in k (slice_get maps k) line)
parts maps k line = go (map_of line == k) refl where
  go : (b : Bool) → (map_of line == k) ≡ b → Parts (lacking_below maps (k + 1) line) (lacking_below maps k line) (lacking_in k (slice_get maps k) line)
  go true e =
      let same : map_of line ≡ k = grind (arith, nat_tests) in
      let low : nat_lt (map_of line) (k + 1) ≡ true = grind (arith, nat_tests) in
      let high : nat_lt (map_of line) k ≡ false = grind (arith, nat_tests) in
      record {
        both = ap (λ (b : Bool). (b && lacking (slice_get maps (map_of line)) line) && lacking_in k (slice_get maps k) line) high;
        any = ap (λ (b : Bool). b && lacking (slice_get maps (map_of line)) line) low ∙ ap (λ m. lacking (slice_get maps m) line) same
            ∙ sym (ap (λ (b : Bool). cond (b && lacking (slice_get maps (map_of line)) line) true (lacking_in k (slice_get maps k) line)) high
            ∙ ap (λ (b : Bool). b && lacking (slice_get maps k) line) e);
      }
  go false e =
      let same : nat_lt (map_of line) (k + 1) ≡ nat_lt (map_of line) k = grind (arith, nat_tests) in
      record {
        both = ap (λ (b : Bool). lacking_below maps k line && (b && lacking (slice_get maps k) line)) e ∙ and-none (lacking_below maps k line);
        any = ap (λ (b : Bool). b && lacking (slice_get maps (map_of line)) line) same
            ∙ sym (ap (λ (b : Bool). cond (lacking_below maps k line) true (b && lacking (slice_get maps k) line)) e ∙ or-none (lacking_below maps k line));
      }

pub first-next : (maps : List MapShape) (k i : ℕ) (lines : List CellLine)
    → sooner (first_from (lacking_below maps k) i lines) (first_from (lacking_in k (slice_get maps k)) i lines) ≡ first_from (lacking_below maps (k + 1)) i lines
first-next maps k i [] = refl
first-next maps k i (line ∷ lines) =
    go (lacking_below maps k line) (lacking_in k (slice_get maps k) line) (lacking_below maps (k + 1) line) (parts maps k line) (first-next maps k (i + 1) lines) where
      one : Option Spot
      one = first_from (lacking_below maps k) (i + 1) lines

      other : Option Spot
      other = first_from (lacking_in k (slice_get maps k)) (i + 1) lines

      go : (a b c : Bool) → Parts c a b → sooner one other ≡ first_from (lacking_below maps (k + 1)) (i + 1) lines
          → sooner (cond a (Some (spot_of i line)) one) (cond b (Some (spot_of i line)) other)
          ≡ cond c (Some (spot_of i line)) (first_from (lacking_below maps (k + 1)) (i + 1) lines)
      go true true c is rest = let no = is.both in cc
      go true false c is rest =
          sooner-here (spot_of i line) i other refl (λ t e. first-place (lacking_in k (slice_get maps k)) (i + 1) lines t e)
          ∙ sym (ap (λ (b : Bool). cond b (Some (spot_of i line)) (first_from (lacking_below maps (k + 1)) (i + 1) lines)) is.any)
      go false true c is rest =
          sooner-there (spot_of i line) i one refl (λ s e. first-place (lacking_below maps k) (i + 1) lines s e)
          ∙ sym (ap (λ (b : Bool). cond b (Some (spot_of i line)) (first_from (lacking_below maps (k + 1)) (i + 1) lines)) is.any)
      go false false c is rest =
          rest ∙ sym (ap (λ (b : Bool). cond b (Some (spot_of i line)) (first_from (lacking_below maps (k + 1)) (i + 1) lines)) is.any)

pub first-begin : (maps : List MapShape) (lines : List CellLine) (i : ℕ) → first_from (lacking_below maps 0) i lines ≡ None
first-begin maps [] i = refl
first-begin maps (line ∷ lines) i =
    let none : nat_lt (map_of line) 0 ≡ false = grind (arith, nat_tests) in
    ap (λ (b : Bool). cond (b && lacking (slice_get maps (map_of line)) line) (Some (spot_of i line)) (first_from (lacking_below maps 0) (i + 1) lines)) none
    ∙ first-begin maps lines (i + 1)

-- no table has more maps
same-map : (maps : List MapShape) (line : CellLine) → length maps ≤ 16 → slice_get maps (map_of line) ≡ slice_get maps line.map
same-map maps line few = go (nat_lt line.map 16) refl where
  go : (b : Bool) → nat_lt line.map 16 ≡ b → slice_get maps (map_of line) ≡ slice_get maps line.map
  go true is = let low : line.map < 16 = grind (arith, nat_tests) in ap (slice_get maps) (omega (arith, low))
  go false is =
      let high : 16 ≤ line.map = grind (arith, nat_tests) in
      slice_get_past maps (map_of line) (omega (arith, high, few)) ∙ sym (slice_get_past maps line.map (omega (arith, high, few)))

lacking-all : (maps : List MapShape) (line : CellLine) → length maps ≤ 16 → lacking_below maps 17 line ≡ lacking (slice_get maps line.map) line
lacking-all maps line few =
    let low : nat_lt (map_of line) 17 ≡ true = grind (arith, nat_tests) in
    ap (λ (b : Bool). b && lacking (slice_get maps (map_of line)) line) low ∙ ap (λ s. lacking s line) (same-map maps line few)

-- the first line that maps lack gives its value to the first cell that isn't there
abbrev Missing : List MapShape → List CellLine → Option Spot → Type 0
Missing maps lines None = missing maps (filter_map cell_of lines) ≡ None
Missing maps lines (Some spot) = (cell : Cell) × (missing maps (filter_map cell_of lines) ≡ Some cell) × (spot.map ≡ cell.map) × (spot.index ≡ cell.index)

missing-later : (maps : List MapShape) (line : CellLine) (lines : List CellLine) (found : Option Spot)
    → missing maps (filter_map cell_of (line ∷ lines)) ≡ missing maps (filter_map cell_of lines) → Missing maps lines found → Missing maps (line ∷ lines) found
missing-later maps line lines None same m = same ∙ m
missing-later maps line lines (Some spot) same m = (m.0, same ∙ m.1, m.2, m.3)

pub first-missing : (maps : List MapShape) (lines : List CellLine) (i : ℕ) → length maps ≤ 16 → Missing maps lines (first_from (lacking_below maps 17) i lines)
first-missing maps [] i few = refl
first-missing maps (line ∷ lines) i few = from (value_of line) refl (first-missing maps lines (i + 1) few) where
  rest : Option Spot
  rest = first_from (lacking_below maps 17) (i + 1) lines

  from : (value : Option (List ℕ)) → value_of line ≡ value → Missing maps lines rest → Missing maps (line ∷ lines) (first_from (lacking_below maps 17) i (line ∷ lines))
  from None e m =
      let none : lacking_below maps 17 line ≡ false = lacking-all maps line few ∙ ap (λ (o : Option (List ℕ)). option_map_or (λ v. not (has_cell (slice_get maps line.map) line.index (length v))) o false) e in
      let same : missing maps (filter_map cell_of (line ∷ lines)) ≡ missing maps (filter_map cell_of lines) = rw e refl in
      subst (Missing maps (line ∷ lines)) (sym (ap (λ (b : Bool). cond b (Some (spot_of i line)) rest) none)) (missing-later maps line lines rest same m)
  from (Some value) e m = go (has_cell (slice_get maps line.map) line.index (length value)) refl where
    cell : Cell
    cell = record { map = line.map; index = line.index; value = value }

    lacks : lacking_below maps 17 line ≡ not (has_cell (slice_get maps line.map) line.index (length value))
    lacks = lacking-all maps line few ∙ ap (λ (o : Option (List ℕ)). option_map_or (λ v. not (has_cell (slice_get maps line.map) line.index (length v))) o false) e

    list : filter_map cell_of (line ∷ lines) ≡ cell ∷ filter_map cell_of lines
    list = rw e refl

    go : (b : Bool) → has_cell (slice_get maps line.map) line.index (length value) ≡ b → Missing maps (line ∷ lines) (first_from (lacking_below maps 17) i (line ∷ lines))
    go true is =
        let none : lacking_below maps 17 line ≡ false = lacks ∙ ap not is in
        let same : missing maps (filter_map cell_of (line ∷ lines)) ≡ missing maps (filter_map cell_of lines) =
        ap (missing maps) list ∙ ap (λ (b : Bool). cond (not b) (Some cell) (missing maps (filter_map cell_of lines))) is in
        subst (Missing maps (line ∷ lines)) (sym (ap (λ (b : Bool). cond b (Some (spot_of i line)) rest) none)) (missing-later maps line lines rest same m)
    go false is =
        let here : lacking_below maps 17 line ≡ true = lacks ∙ ap not is in
        let found : missing maps (filter_map cell_of (line ∷ lines)) ≡ Some cell =
        ap (missing maps) list ∙ ap (λ (b : Bool). cond (not b) (Some cell) (missing maps (filter_map cell_of lines))) is in
        subst (Missing maps (line ∷ lines)) (sym (ap (λ (b : Bool). cond b (Some (spot_of i line)) rest) here)) (cell, found, refl, refl)

-- no line passes
abbrev pub Each : {X : Type 0} → (X → Type 0) → List X → Type 0
Each P [] = Unit {0}
Each P (x ∷ xs) = P x × Each P xs

abbrev pub NonePass : (CellLine → Bool) → List CellLine → Type 0
NonePass p lines = Each (λ line. p line ≡ false) lines

none-passes : (p : CellLine → Bool) (i : ℕ) (lines : List CellLine) → first_from p i lines ≡ None → NonePass p lines
none-passes p i [] e = tt
none-passes p i (line ∷ lines) e = go (p line) refl e (none-passes p (i + 1) lines) where
  go : (b : Bool) → p line ≡ b → cond b (Some (spot_of i line)) (first_from p (i + 1) lines) ≡ None
      → (first_from p (i + 1) lines ≡ None → NonePass p lines) → NonePass p (line ∷ lines)
  go true is e rest = cc
  go false is e rest = (is, rest e)

passes-none : (p : CellLine → Bool) (i : ℕ) (lines : List CellLine) → NonePass p lines → first_from p i lines ≡ None
passes-none p i [] h = refl
passes-none p i (line ∷ lines) h =
    ap (λ (b : Bool). cond b (Some (spot_of i line)) (first_from p (i + 1) lines)) h.0 ∙ passes-none p (i + 1) lines h.1

each-map : {X : Type 0} {P Q : X → Type 0} (xs : List X) → ((x : X) → P x → Q x) → Each P xs → Each Q xs
each-map [] f h = tt
each-map (x ∷ xs) f h = (f x h.0, each-map xs f h.1)

-- a line whose cell isn't missing
pub has-all : (maps : List MapShape) (lines : List CellLine) → missing maps (filter_map cell_of lines) ≡ None → NonePass (λ line. lacking (slice_get maps line.map) line) lines
has-all maps [] none = tt
has-all maps (line ∷ lines) none = from (value_of line) refl (has-all maps lines) where
  from : (value : Option (List ℕ)) → value_of line ≡ value → (missing maps (filter_map cell_of lines) ≡ None → NonePass (λ l. lacking (slice_get maps l.map) l) lines)
      → NonePass (λ l. lacking (slice_get maps l.map) l) (line ∷ lines)
  from None e rest =
      let same : filter_map cell_of (line ∷ lines) ≡ filter_map cell_of lines = rw e refl in (
        ap (λ (o : Option (List ℕ)). option_map_or (λ v. not (has_cell (slice_get maps line.map) line.index (length v))) o false) e,
        rest (ap (missing maps) (sym same) ∙ none),
      )
  from (Some value) e rest = go (has_cell (slice_get maps line.map) line.index (length value)) refl where
    cell : Cell
    cell = record { map = line.map; index = line.index; value = value }

    list : filter_map cell_of (line ∷ lines) ≡ cell ∷ filter_map cell_of lines
    list = rw e refl

    found : (b : Bool) → has_cell (slice_get maps line.map) line.index (length value) ≡ b → cond (not b) (Some cell) (missing maps (filter_map cell_of lines)) ≡ None
    found b is = sym (ap (missing maps) list ∙ ap (λ (c : Bool). cond (not c) (Some cell) (missing maps (filter_map cell_of lines))) is) ∙ none

    go : (b : Bool) → has_cell (slice_get maps line.map) line.index (length value) ≡ b → NonePass (λ l. lacking (slice_get maps l.map) l) (line ∷ lines)
    go true is = (
      ap (λ (o : Option (List ℕ)). option_map_or (λ v. not (has_cell (slice_get maps line.map) line.index (length v))) o false) e ∙ ap not is,
      rest (found true is),
    )
    go false is = let no = found false is in cc

has-in : (maps : List MapShape) (map : ℕ) → length maps ≤ 16 → (line : CellLine) → lacking (slice_get maps line.map) line ≡ false → lacking_in map (slice_get maps map) line ≡ false
has-in maps map few line none = go (map_of line == map) refl where
  go : (b : Bool) → (map_of line == map) ≡ b → lacking_in map (slice_get maps map) line ≡ false
  go true e =
      let same : map_of line ≡ map = grind (arith, nat_tests) in
      ap (λ (b : Bool). b && lacking (slice_get maps map) line) e ∙ ap (λ m. lacking (slice_get maps m) line) (sym same)
      ∙ ap (λ s. lacking s line) (same-map maps line few) ∙ none
  go false e = ap (λ (b : Bool). b && lacking (slice_get maps map) line) e

-- what is asked of a map of these that has all cells
pub asked-none : (maps : List MapShape) (map : ℕ) (lines : List CellLine) (size : ℕ) (firsts : List Spot) → length maps ≤ 16 → IfSome (slice_get maps map) IsShape
    → missing maps (filter_map cell_of lines) ≡ None → AreFirsts lines map size firsts → slice_get firsts (entries_for size (slice_get maps map)) ≡ None
asked-none maps map lines size firsts few is none h =
    h (slice_get maps map) is
    ∙ passes-none (lacking_in map (slice_get maps map)) 0 lines (each-map lines (has-in maps map few) (has-all maps lines none))

lacking-any : (map : ℕ) (shape : Option MapShape) (line : CellLine) → lacking_in map None line ≡ false → lacking_in map shape line ≡ false
lacking-any map shape line none = from (value_of line) refl where
  from : (value : Option (List ℕ)) → value_of line ≡ value → lacking_in map shape line ≡ false
  from None e = no-value line map shape e
  from (Some value) e = go (map_of line == map) refl where
    go : (b : Bool) → (map_of line == map) ≡ b → lacking_in map shape line ≡ false
    go true here = let no = sym (with-value line map value None here e) ∙ none in cc
    go false here = other-map line map shape here

pub times-more : (size a b : ℕ) → a ≤ b → size * a ≤ size * b
times-more size a b le = grind (arith, le)

no-spot : Spot
no-spot = record { place = 0; map = 0; index = 0 }

-- the least map that has all cells of lines: it is no larger than one that has them, and has them
pub record Least (lines : List CellLine) (map : ℕ) (shape : Option MapShape) (least : MapShape) : Type 0 where
  pub within : map_len least ≤ option_map_or map_len shape 0
  pub has : NonePass (lacking_in map (Some least)) lines

pub least-is : (lines : List CellLine) (map : ℕ) (shape : Option MapShape) (size : ℕ) (firsts : List Spot) → IfSome shape IsShape
    → AreFirsts lines map size firsts → slice_get firsts (entries_for size shape) ≡ None
    → Least lines map shape (record { value_size = size; entries = length firsts })
least-is lines map shape size [] is h none = record {
  within = let zero-len : size * 0 ≡ 0 = omega arith in omega (arith, zero-len);
  has = each-map lines (λ line e. lacking-any map (Some (record { value_size = size; entries = 0 })) line e)
      (none-passes (lacking_in map None) 0 lines (sym (h None tt)));
}
least-is lines map None size (spot ∷ spots) is h none = cc
least-is lines map (Some t) size (spot ∷ spots) is h none = go (t.value_size == size) refl where
  E : ℕ
  E = length (spot ∷ spots)

  least : MapShape
  least = record { value_size = size; entries = length (spot ∷ spots) }

  go : (b : Bool) → (t.value_size == size) ≡ b → Least lines map (Some t) (record { value_size = size; entries = length (spot ∷ spots) })
  go true e =
      let same : t.value_size ≡ size = grind (arith, nat_tests) in
      let at : entries_for size (Some t) ≡ t.entries = ap (λ (b : Bool). cond b t.entries 0) e in
      let few : E ≤ t.entries = none-past (spot ∷ spots) t.entries no-spot (ap (slice_get (spot ∷ spots)) (sym at) ∙ none) in
      let fits : map_len least ≤ map_len t = subst (λ k. size * E ≤ k * t.entries) (sym same) (times-more size E t.entries few) in
      let shaped : IsShape least = record {
        filled = (omega (arith, is.filled.0, same), omega arith);
        value = omega (arith, is.value, same);
        entries = omega (arith, few, is.entries);
        total = omega (arith, fits, is.total);
      } in
      let mine : (size == size) ≡ true = grind (arith, nat_tests) in
      let last : entries_for size (Some least) ≡ E = ap (λ (b : Bool). cond b E 0) mine in
      record {
        within = fits;
        has = none-passes (lacking_in map (Some least)) 0 lines
            (sym (h (Some least) shaped) ∙ ap (slice_get (spot ∷ spots)) last ∙ slice_get_past (spot ∷ spots) E (omega arith));
      }
  go false e = let at : entries_for size (Some t) ≡ 0 = ap (λ (b : Bool). cond b t.entries 0) e in let no = ap (slice_get (spot ∷ spots)) (sym at) ∙ none in cc

-- what is asked of a further map
abbrev pub EachAsked : List CellLine → List Ask → Type 0
EachAsked lines asks = (map : ℕ) (ask : Ask) → slice_get asks map ≡ Some ask → AreFirsts lines map ask.size ask.firsts.items

get-front : {X : Type 0} (xs ys : List X) (k : ℕ) → k < length xs → slice_get (xs ++ ys) k ≡ slice_get xs k
get-front [] ys k low = absurd (omega (arith, low))
get-front (x ∷ xs) ys zero low = refl
get-front (x ∷ xs) ys (suc k) low = get-front xs ys k (omega (arith, low))

get-last : {X : Type 0} (xs : List X) (y : X) → slice_get (xs ++ y ∷ []) (length xs) ≡ Some y
get-last [] y = refl
get-last (x ∷ xs) y = get-last xs y

pub asked-more : (lines : List CellLine) (asks : List Ask) (ask : Ask) → EachAsked lines asks → AreFirsts lines (length asks) ask.size ask.firsts.items
    → EachAsked lines (asks ++ ask ∷ [])
asked-more lines asks ask h last = λ map other here. go map other here (nat_lt map (length asks)) refl where
  go : (map : ℕ) (other : Ask) → slice_get (asks ++ ask ∷ []) map ≡ Some other → (b : Bool) → nat_lt map (length asks) ≡ b → AreFirsts lines map other.size other.firsts.items
  go map other here true low = h map other (sym (get-front asks (ask ∷ []) map (grind (arith, nat_tests))) ∙ here)
  go map other here false high =
      let within = slice_get_within (asks ++ ask ∷ []) map other here in
      let long : length (asks ++ ask ∷ []) ≡ length asks + 1 = length-append asks (ask ∷ []) in
      let past : length asks ≤ map = grind (arith, nat_tests) in
      let is : length asks ≡ map = omega (arith, within, long, past) in
      let same : Some ask ≡ Some other = sym (get-last asks ask) ∙ ap (slice_get (asks ++ ask ∷ [])) is ∙ here in
      let mine : ask ≡ other = cc in
      subst (λ (a : Ask). AreFirsts lines map a.size a.firsts.items) mine (subst (λ k. AreFirsts lines k ask.size ask.firsts.items) is last)

-- a line that is noted
pub noted : {E : Type 0} (result : Result (Unit {0}) E) (line : CellLine) (map place n size more : ℕ) (firsts filled : List Spot) (value : List ℕ) → (map_of line == map) ≡ true
    → value_of line ≡ Some value → n ≡ length value → OnOk result (more ≡ size_with firsts size n)
    → OnOk result (filled ≡ firsts ++ replicate (most_lacking more n line.index + 1 - length firsts) (record { place = place; map = line.map; index = line.index }))
    → OnOk result ((before : List CellLine) → length before ≡ place → AreFirsts before map size firsts → AreFirsts (before ++ line ∷ []) map more filled)
noted (Ok done) line map place n size more firsts filled value here e is long all = λ before at h.
    let noted = firsts-noted before line map size firsts value here e h in
    let wide : more ≡ size_with firsts size (length value) = long ∙ ap (size_with firsts size) is in
    let whole : filled ≡ firsts ++ replicate (most_lacking (size_with firsts size (length value)) (length value) line.index + 1 - length firsts) (spot_of (length before) line) =
    all ∙ ap (λ k. firsts ++ replicate (most_lacking more k line.index + 1 - length firsts) (record { place = place; map = line.map; index = line.index })) is
    ∙ ap (λ k. firsts ++ replicate (most_lacking k (length value) line.index + 1 - length firsts) (record { place = place; map = line.map; index = line.index })) wide
    ∙ ap (λ k. firsts ++ replicate (most_lacking (size_with firsts size (length value)) (length value) line.index + 1 - length firsts) (spot_of k line)) (sym at) in
    rw (wide, whole) noted
noted (Err fault) line map place n size more firsts filled value here e is long all = tt

pub is-other : (line : CellLine) (found map : ℕ) → found ≡ map_of line → (found ≡ map → ⊥) → (map_of line == map) ≡ false
is-other line found map e other = go (map_of line == map) refl where
  go : (b : Bool) → (map_of line == map) ≡ b → (map_of line == map) ≡ false
  go true is = absurd (other (e ∙ same-number is)) where
    same-number : (map_of line == map) ≡ true → map_of line ≡ map
    same-number is = grind (arith, nat_tests)
  go false is = is

pub is-same : (line : CellLine) (found map : ℕ) → found ≡ map_of line → found ≡ map → (map_of line == map) ≡ true
is-same line found map e same = let is : map_of line ≡ map = sym e ∙ same in grind (arith, nat_tests, is)

-- why cells don't get their values
pub is-missing : (maps : List MapShape) (asks : List Ask) (cells : List Cell) (found : Option Spot) → length maps ≤ 16
    → ((lines : List CellLine) → AreAsked lines asks → found ≡ first_from (lacking_below maps 17) 0 lines) → AreAskedOf cells asks
    → IsMissing maps cells (option_map (λ spot. NoCell spot.map spot.index) found)
is-missing maps asks cells found few first of =
    from found (subst (Missing maps of.lines) (sym (first of.lines of.asked)) (first-missing maps of.lines 0 few)) where
      from : (found : Option Spot) → Missing maps of.lines found → IsMissing maps cells (option_map (λ spot. NoCell spot.map spot.index) found)
      from None m = ap (missing maps) (sym of.given) ∙ m
      from (Some spot) m = (m.0, ap (missing maps) (sym of.given) ∙ m.1, ap (λ k. NoCell k spot.index) m.2 ∙ ap (NoCell m.0.map) m.3)

-- a map of a table has a shape
pub shape-at : (maps : List MapShape) (k : ℕ) → AreMaps maps → (found : Option MapShape) → slice_get maps k ≡ found → IfSome found IsShape
shape-at maps k are None e = tt
shape-at maps k are (Some s) e =
    let low = slice_get_within maps k s e in
    subst IsShape (get_or_from_slice_get maps k s s e) (are.shapes k s low)

-- the first that one map more lacks
pub first-more : (maps : List MapShape) (lines : List CellLine) (asks : List Ask) (ask : Ask) (k : ℕ) (first spot : Option Spot) (shape : Option MapShape) → AreMaps maps
    → AreAsked lines asks → slice_get asks k ≡ Some ask → first ≡ first_from (lacking_below maps k) 0 lines
    → spot ≡ slice_get ask.firsts.items (entries_for ask.size shape) → shape ≡ slice_get maps k
    → sooner first spot ≡ first_from (lacking_below maps (k + 1)) 0 lines
first-more maps lines asks ask k first spot shape are asked here before found is =
    ap (λ f. sooner f spot) before
    ∙ ap (sooner (first_from (lacking_below maps k) 0 lines)) (found ∙ ap (λ s. slice_get ask.firsts.items (entries_for ask.size s)) is
    ∙ asked.each k ask here (slice_get maps k) (shape-at maps k are (slice_get maps k) refl))
    ∙ first-next maps k 0 lines

pub none-missing : (maps mine : List MapShape) (cells : List Cell) (found : Option Refusal) (refusal : Refusal) → IsMissing mine cells found → found ≡ Some refusal
    → mine ≡ maps → missing maps cells ≡ None → ⊥
none-missing maps mine cells None refusal m e same none = cc
none-missing maps mine cells (Some why) refusal m e same none = let no = sym m.1 ∙ ap (λ ms. missing ms cells) same ∙ none in cc
