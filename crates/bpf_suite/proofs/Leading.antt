-- An image of cells leads where they lead, on each machine whose maps have them all.
use Rattle.std.proofs.Common.{ℕ, suc, ◌≡◌, ◌≤◌, ◌<◌, ◌+◌, ◌*◌, Bool, true, false, List, [], ◌∷◌, ◌++◌, take, length, map, replicate, Option, Some, None, Result, Ok, Err, refl, sym, ap, subst, ◌∙◌, arith, ◌==◌, ◌⊎◌, inl, inr}
use Rattle.std.specs.Prelude.{IfOk, IfSome, filter_map, nat_lt, not, option_map, slice_get, slice_range}
use Rattle.std.specs.Option.{option_map_or}
use Rattle.std.proofs.lemmas.Bool.Decides.{nat_tests}
use Rattle.std.proofs.lemmas.List.{length-replicate}
use Rattle.std.proofs.lemmas.Option.{slice_get-map, slice_get_cases, slice_get_within}
use Rattle.bpf_isa.specs.Maps.{AreMaps}
use Rattle.bpf_isa.specs.Programs.{Checked}
use Rattle.bpf_isa.specs.declared.maps.MapShape.{MapShape}
use Rattle.bpf_machine.specs.Edits.{has_cell}
use Rattle.bpf_steps.specs.Platform.{cell_address, frame_count, frame_len}
use Rattle.bpf_steps.specs.Regions.{index_in, map_len, maps_from, maps_len}
use Rattle.bpf_steps.specs.State.{IsState, State, initial}
use Rattle.bpf_suite.specs.Asks.{AreAsked, AreAskedOf, lacking, lacking_in, least_maps, least_of}
use Rattle.bpf_suite.specs.Cells.{cell_of, value_of}
use Rattle.bpf_suite.specs.Images.{AreAll, ArePresent, AreShort, Lead, Shows, map_bytes, pasted}
use Rattle.bpf_suite.specs.Outcomes.{missing, with_cells}
use Rattle.bpf_suite.specs.declared.asks.Ask.{Ask}
use Rattle.bpf_suite.specs.declared.cells.Cell.{Cell}
use Rattle.bpf_suite.specs.declared.cells.CellLine.{CellLine}
use Rattle.bpf_suite.specs.declared.image.Run.{Run}
use Rattle.bpf_suite.proofs.Asking.{Least, NonePass, asked-none, has-all, least-is, shape-at, times-more, with-value}
use Rattle.bpf_suite.proofs.Grown.{Fits, grown, grown-read, grown-zeros, pasted-grown, pasted-long}
use Rattle.bpf_suite.proofs.Images.{as_run, cells-in, cells-runs, map_bytes-cells, opened-runs, run-read, shape-total, short-run, value-some, with_maps_of}

-- what is asked of a map of a table that has all cells
least-at : (maps : List MapShape) (lines : List CellLine) (asks : List Ask) → AreMaps maps → AreAsked lines asks → missing maps (filter_map cell_of lines) ≡ None
    → (k : ℕ) (ask : Ask) → slice_get asks k ≡ Some ask → Least lines k (slice_get maps k) (least_of ask)
least-at maps lines asks are asked none k ask here =
    let is = shape-at maps k are (slice_get maps k) refl in
    let firsts = asked.each k ask here in
    least-is lines k (slice_get maps k) ask.size ask.firsts.items is firsts (asked-none maps k lines ask.size ask.firsts.items are.few is none firsts)

fits-from : (asks : List Ask) (maps : List MapShape) → ((k : ℕ) (ask : Ask) → slice_get asks k ≡ Some ask → map_len (least_of ask) ≤ option_map_or map_len (slice_get maps k) 0)
    → ((k : ℕ) (s : MapShape) → slice_get maps k ≡ Some s → map_len s ≤ 65536) → Fits (least_maps asks) maps
fits-from [] maps h short = tt
fits-from (ask ∷ asks) [] h short = (let most = h 0 ask refl in omega (arith, most), fits-from asks [] (λ k a here. h (suc k) a here) short)
fits-from (ask ∷ asks) (t ∷ maps) h short =
    (h 0 ask refl, short 0 t refl, fits-from asks maps (λ k a here. h (suc k) a here) (λ k s here. short (suc k) s here))

fits-all : (maps : List MapShape) (lines : List CellLine) (asks : List Ask) → AreMaps maps → AreAsked lines asks → missing maps (filter_map cell_of lines) ≡ None
    → Fits (least_maps asks) maps
fits-all maps lines asks are asked none =
    fits-from asks maps (λ k ask here. (least-at maps lines asks are asked none k ask here).within) (λ k s here. shape-total maps k s are.shapes here)

shape-len : (maps : List MapShape) (k : ℕ) → AreMaps maps → (found : Option MapShape) → slice_get maps k ≡ found → option_map_or map_len found 0 ≤ 65536
shape-len maps k are None e = omega arith
shape-len maps k are (Some s) e = shape-total maps k s are.shapes e

short-all : (maps : List MapShape) (lines : List CellLine) (asks : List Ask) → AreMaps maps → AreAsked lines asks → missing maps (filter_map cell_of lines) ≡ None
    → AreShort asks
short-all maps lines asks are asked none = record {
  few = omega (arith, asked.all);
  short = λ k ask here.
      let most = (least-at maps lines asks are asked none k ask here).within in
      let whole = shape-len maps k are (slice_get maps k) refl in
      omega (arith, most, whole);
}

pub short-maps : (asks : List Ask) → AreShort asks → (k : ℕ) (s : MapShape) → slice_get (least_maps asks) k ≡ Some s → map_len s ≤ 65536
short-maps asks are k s here = go (slice_get asks k) refl (sym (slice_get-map least_of asks k) ∙ here) where
  go : (found : Option Ask) → slice_get asks k ≡ found → option_map least_of found ≡ Some s → map_len s ≤ 65536
  go None e same = cc
  go (Some ask) e same = let is : least_of ask ≡ s = cc in subst (λ (t : MapShape). map_len t ≤ 65536) is (are.short k ask e)

-- the least maps have all cells
within-map : (maps : List MapShape) (k index n : ℕ) → has_cell (slice_get maps k) index n ≡ true → k < length maps
within-map maps k index n e = go (slice_get maps k) refl e where
  go : (found : Option MapShape) → slice_get maps k ≡ found → has_cell found index n ≡ true → k < length maps
  go None here has = cc
  go (Some s) here has = slice_get_within maps k s here

not-false : (b : Bool) → not b ≡ false → b ≡ true
not-false true e = refl
not-false false e = cc

cell-fits : (s : MapShape) (index n : ℕ) → has_cell (Some s) index n ≡ true → n * index + n ≤ map_len s
cell-fits s index n has =
    let low : index + 1 ≤ s.entries = grind (arith, nat_tests) in
    let size : n ≡ s.value_size = grind (arith, nat_tests) in
    let most = times-more n (index + 1) s.entries low in
    let whole : n * (index + 1) ≡ n * index + n = omega arith in
    let same : n * s.entries ≡ map_len s = ap (λ k. k * s.entries) size in
    omega (arith, most, whole, same)

cell-at : (asks : List Ask) (k index n : ℕ) (ask : Ask) → AreShort asks → slice_get asks k ≡ Some ask → 1 ≤ n → has_cell (Some (least_of ask)) index n ≡ true
    → (j : ℕ) × (index_in (maps_from 0 (least_maps asks)) (cell_address k index n) n ≡ Some j)
cell-at asks k index n ask short here some has =
    let least = least_maps asks in
    let there : slice_get least k ≡ Some (least_of ask) = slice_get-map least_of asks k ∙ ap (option_map least_of) here in (
      maps_len (take k least) + n * index,
      (short-run least k (n * index) n (cell_address k index n) (maps_len (take k least)) (least_of ask) (short-maps asks short) there refl some
          (cell-fits (least_of ask) index n has) (omega arith)).0,
    )

line-at : (maps : List MapShape) (asks : List Ask) (line : CellLine) (value : List ℕ) → length maps ≤ 16 → length asks ≡ 17 → AreShort asks
    → lacking (slice_get maps line.map) line ≡ false → ((k : ℕ) (ask : Ask) → slice_get asks k ≡ Some ask → lacking_in k (Some (least_of ask)) line ≡ false)
    → value_of line ≡ Some value
    → (j : ℕ) × (index_in (maps_from 0 (least_maps asks)) (cell_address line.map line.index (length value)) (length value) ≡ Some j)
line-at maps asks line value few all short has least e = go (slice_get_cases asks line.map).1 where
  n : ℕ
  n = length value

  has-here : has_cell (slice_get maps line.map) line.index (length value) ≡ true
  has-here = not-false (has_cell (slice_get maps line.map) line.index (length value))
      (sym (ap (λ (o : Option (List ℕ)). option_map_or (λ v. not (has_cell (slice_get maps line.map) line.index (length v))) o false) e) ∙ has)

  low : line.map < length maps
  low = within-map maps line.map line.index (length value) has-here

  mine : (Rattle.std.specs.Prelude.min line.map 16 == line.map) ≡ true
  mine = let below = low in grind (arith, nat_tests, below, few)

  go : ((ask : Ask) × (line.map < length asks) × (slice_get asks line.map ≡ Some ask) × (Rattle.std.specs.Prelude.get_or asks line.map ask ≡ ask)) ⊎ ((length asks ≤ line.map) × (slice_get asks line.map ≡ None))
      → (j : ℕ) × (index_in (maps_from 0 (least_maps asks)) (cell_address line.map line.index (length value)) (length value) ≡ Some j)
  go (inl here) =
      let ask = here.0 in
      cell-at asks line.map line.index (length value) ask short here.2 (value-some line value e)
      (not-false (has_cell (Some (least_of ask)) line.index (length value))
      (sym (with-value line line.map value (Some (least_of ask)) mine e) ∙ least line.map ask here.2))
  go (inr past) = let below = low in absurd (omega (arith, below, few, all, past.0))

present-from : (maps : List MapShape) (asks : List Ask) (lines : List CellLine) → length maps ≤ 16 → length asks ≡ 17 → AreShort asks
    → NonePass (λ line. lacking (slice_get maps line.map) line) lines → ((k : ℕ) (ask : Ask) → slice_get asks k ≡ Some ask → NonePass (lacking_in k (Some (least_of ask))) lines)
    → ArePresent (least_maps asks) (map as_run (filter_map cell_of lines))
present-from maps asks [] few all short has least = tt
present-from maps asks (line ∷ lines) few all short has least =
    from (value_of line) refl (present-from maps asks lines few all short has.1 (λ k ask here. (least k ask here).1)) where
      from : (value : Option (List ℕ)) → value_of line ≡ value → ArePresent (least_maps asks) (map as_run (filter_map cell_of lines))
          → ArePresent (least_maps asks) (map as_run (filter_map cell_of (line ∷ lines)))
      from None e rest = rw e rest
      from (Some value) e rest = let at = line-at maps asks line value few all short has.0 (λ k ask here. (least k ask here).0) e in rw e (at, rest)

present-all : (maps : List MapShape) (lines : List CellLine) (asks : List Ask) → AreMaps maps → AreAsked lines asks → missing maps (filter_map cell_of lines) ≡ None
    → ArePresent (least_maps asks) (map as_run (filter_map cell_of lines))
present-all maps lines asks are asked none =
    present-from maps asks lines are.few asked.all (short-all maps lines asks are asked none) (has-all maps lines none)
    (λ k ask here. (least-at maps lines asks are asked none k ask here).has)

-- the bytes that cells make of the least maps
abbrev pub least_bytes : List CellLine → List Ask → List ℕ
least_bytes lines asks = pasted (least_maps asks) (map as_run (filter_map cell_of lines)) (replicate (maps_len (least_maps asks)) 0)

-- as they stand in maps that have all cells
in-larger : (maps : List MapShape) (lines : List CellLine) (asks : List Ask) (runs : List Run) → AreMaps maps → AreAsked lines asks
    → missing maps (filter_map cell_of lines) ≡ None → Rattle.bpf_suite.specs.Images.AreIn runs → ArePresent (least_maps asks) runs
    → pasted maps runs (replicate (maps_len maps) 0) ≡ grown (least_maps asks) maps (pasted (least_maps asks) runs (replicate (maps_len (least_maps asks)) 0))
in-larger maps lines asks runs are asked none in' there =
    let least = least_maps asks in
    let fits = fits-all maps lines asks are asked none in
    ap (pasted maps runs) (sym (grown-zeros least maps fits))
    ∙ pasted-grown least maps runs (replicate (maps_len least) 0) fits (length-replicate (maps_len least) 0) in' there

lead : (lines : List CellLine) (asks : List Ask) (maps : List MapShape) (runs : List Run) → AreMaps maps → AreAsked lines asks → missing maps (filter_map cell_of lines) ≡ None
    → AreAll (least_maps asks) (least_bytes lines asks) runs → Lead (filter_map cell_of lines) runs
lead lines asks maps runs are asked none all = λ code context those has short.
    let mine = map as_run (filter_map cell_of lines) in
    let same : pasted code.maps runs (replicate (maps_len code.maps) 0) ≡ pasted code.maps mine (replicate (maps_len code.maps) 0) =
    in-larger code.maps lines asks runs those asked has all.placed all.present ∙ ap (grown (least_maps asks) code.maps) all.held
    ∙ sym (in-larger code.maps lines asks mine those asked has (cells-in lines) (present-all code.maps lines asks those asked has)) in
    opened-runs code.maps code context runs refl short all.placed
    ∙ ap (λ (bs : List ℕ). with_maps_of (initial code context) (context ++ replicate (frame_len * frame_count) 0) bs) same
    ∙ sym (opened-runs code.maps code context mine refl short (cells-in lines))
    ∙ sym (cells-runs (filter_map cell_of lines) (initial code context))

-- a machine with the cells shows them
shows-cells : (lines those : List CellLine) (asks : List Ask) (code : Checked) (x : State) → filter_map cell_of those ≡ filter_map cell_of lines → AreAsked those asks
    → AreMaps code.maps → missing code.maps (filter_map cell_of lines) ≡ None → IsState x → x ≡ with_cells (filter_map cell_of lines) (initial code []) → x.program ≡ code
    → Shows x (least_maps asks) (least_bytes those asks)
shows-cells lines those asks code x given asked are none is e program =
    let least = least_maps asks in
    let M = least_bytes those asks in
    let mine = map as_run (filter_map cell_of those) in
    let all : missing code.maps (filter_map cell_of those) ≡ None = ap (missing code.maps) given ∙ none in
    let fits = fits-all code.maps those asks are asked all in
    let there = present-all code.maps those asks are asked all in
    let long : length M ≡ maps_len least = pasted-long least mine (replicate (maps_len least) 0) (length-replicate (maps_len least) 0) there in
    let bytes : map_bytes x ≡ grown least code.maps M =
    ap map_bytes (e ∙ ap (λ cs. with_cells cs (initial code [])) (sym given) ∙ cells-runs (filter_map cell_of those) (initial code []))
    ∙ map_bytes-cells code mine (cells-in those) ∙ in-larger code.maps those asks mine are asked all (cells-in those) there in
    record {
      long = long;
      short = short-maps asks (short-all code.maps those asks are asked all);
      read = λ a n j low some found.
          let at = grown-read least code.maps M a n j fits some long found in
          let here : index_in (maps_from 0 x.program.maps) a n ≡ Some at.0 = ap (λ (c : Checked). index_in (maps_from 0 c.maps) a n) program ∙ at.1 in
          run-read x a n at.0 is low some here ∙ ap (λ bs. Some (slice_range bs at.0 (at.0 + n))) bytes ∙ ap Some at.2;
    }

-- what a machine with the cells shows leads where they lead
pub made-short : (cells : List Cell) (asks : List Ask) (maps : List MapShape) → AreMaps maps → AreAskedOf cells asks → missing maps cells ≡ None → AreShort asks
made-short cells asks maps are of none = short-all maps of.lines asks are of.asked (ap (missing maps) of.given ∙ none)

pub made-lead : {E : Type 0} (lines : List CellLine) (asks : List Ask) (code : Checked) (x : State) (result : Result (List Run) E) → AreAskedOf (filter_map cell_of lines) asks
    → AreMaps code.maps → missing code.maps (filter_map cell_of lines) ≡ None → IsState x → x ≡ with_cells (filter_map cell_of lines) (initial code []) → x.program ≡ code
    → IfOk result (λ runs. (bytes : List ℕ) → Shows x (least_maps asks) bytes → AreAll (least_maps asks) bytes runs) → IfOk result (Lead (filter_map cell_of lines))
made-lead lines asks code x (Ok runs) of are none is e program all =
    let shows = shows-cells lines of.lines asks code x of.given of.asked are none is e program in
    subst (λ cs. Lead cs runs) of.given
    (lead of.lines asks code.maps runs are of.asked (ap (missing code.maps) of.given ∙ none) (all (least_bytes of.lines asks) shows))
made-lead lines asks code x (Err fault) of are none is e program all = tt
