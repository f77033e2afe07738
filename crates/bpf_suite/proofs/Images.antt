-- Runs of bytes lead where cells lead: what is put into maps doesn't depend on the context in front of them.
use Rattle.std.proofs.Common.{ℕ, zero, suc, ◌≡◌, ◌≤◌, ◌<◌, ◌+◌, ◌-◌, ◌*◌, Bool, true, false, List, [], ◌∷◌, ◌++◌, append_assoc, take, drop, length, length-append, length-drop, replicate, map, Option, Some, None, Result, Ok, Err, cond, refl, sym, ap, subst, ◌∙◌, arith, ◌&&◌, ◌==◌}
use Rattle.std.specs.Prelude.{All, IfErr, OnOk, is_some, option_map, slice_get, slice_range, filter_map}
use Rattle.std.specs.List.{list_all}
use Rattle.std.specs.Option.{option_and_then, option_map_or}
use Rattle.std.proofs.Math.Seq.{drop-append-add, drop-append_seam, take-add, take-append-add}
use Rattle.std.proofs.lemmas.Bool.Decides.{nat_tests}
use Rattle.std.proofs.lemmas.List.{append-nil, drop-drop, drop-replicate, length-replicate, length-take-le, replicate-append-replicate, take_all}
use Rattle.std.proofs.lemmas.List.Sums.{sum_by-cons}
use Rattle.bpf_isa.specs.Maps.{IsShape}
use Rattle.bpf_isa.specs.Programs.{Checked}
use Rattle.bpf_isa.specs.declared.maps.MapShape.{MapShape}
use Rattle.bpf_entries.specs.declared.entry.Entry.{Entry}
use Rattle.bpf_machine.specs.Edits.{RefusesEdit, edit_fault, edited, unless}
use Rattle.bpf_steps.specs.Platform.{cell_address, context_limit, frame_count, frame_len, map_address, map_base, map_stride}
use Rattle.bpf_steps.specs.Regions.{Image, index_in, index_of, is_from_frame, map_len, maps_from, maps_len, paste, put, run_at}
use Rattle.bpf_steps.specs.State.{IsState, State, initial}
use Rattle.bpf_machine.specs.declared.edit.Edit.TheVariants as edit
use Rattle.bpf_machine.specs.declared.edit.EditFault.{EditFault}
use Rattle.bpf_machine.specs.declared.edit.EditFault.TheVariants.{AddressNotPresent}
use Rattle.bpf_steps.proofs.Indices.{in_maps_below, index_above, index_here}
use Rattle.bpf_steps.proofs.Spans.{first_shape, later_shapes}
use Rattle.bpf_suite.specs.Cells.{cell_of, is_value_len, sized, value_of}
use Rattle.bpf_suite.specs.Bodies.{bytes_of}
use Rattle.bpf_suite.specs.Images.{AreAll, AreIn, ArePresent, Holds, Shows, map_bytes, pasted, run_of, with_runs}
use Rattle.bpf_suite.specs.Outcomes.{edit_of, with_cells}
use Rattle.bpf_suite.specs.declared.cells.Cell.{Cell}
use Rattle.bpf_suite.specs.declared.cells.CellLine.{CellLine}
use Rattle.bpf_suite.specs.declared.image.Run.{Run}

-- where a run of a map stands among the bytes of all maps
pub map_place : (i q r n : ℕ) (shapes : List MapShape) (shape : MapShape) → ((k : ℕ) (s : MapShape) → slice_get shapes k ≡ Some s → map_len s ≤ 65536)
    → slice_get shapes q ≡ Some shape → 1 ≤ n → r + n ≤ map_len shape
    → index_in (maps_from i shapes) (map_address (i + q) + r) n ≡ Some (maps_len (take q shapes) + r)
unfolding maps_from
map_place i q r n [] shape h here some fits = cc
map_place i zero r n (s ∷ shapes) shape h here some fits =
    let same : s ≡ shape = cc in
    let long : map_len s ≡ map_len shape = ap map_len same in
    index_here (record { base = map_address i; len = map_len s }) (maps_from (suc i) shapes) (map_address (i + 0) + r) n (omega arith) (omega (arith, long, fits))
    ∙ ap Some (omega arith)
map_place i (suc q) r n (s ∷ shapes) shape h here some fits =
    let short = h 0 s refl in
    let up : suc i + q ≡ i + suc q = omega arith in
    let rest = map_place (suc i) q r n shapes shape (λ k t there. h (suc k) t there) here some fits in
    let whole = sum_by-cons map_len s (take q shapes) in
    index_above (record { base = map_address i; len = map_len s }) (maps_from (suc i) shapes) (map_address (i + suc q) + r) n (omega (arith, short))
    ∙ ap (λ k. option_map (λ at. map_len s + at) (index_in (maps_from (suc i) shapes) (map_address k + r) n)) (sym up)
    ∙ ap (option_map (λ at. map_len s + at)) rest
    ∙ ap Some (omega (arith, whole))

pub maps_len-next : (q : ℕ) (shapes : List MapShape) (shape : MapShape) → slice_get shapes q ≡ Some shape
    → maps_len (take (q + 1) shapes) ≡ maps_len (take q shapes) + map_len shape
maps_len-next q [] shape here = cc
maps_len-next zero (s ∷ shapes) shape here =
    let same : s ≡ shape = cc in
    let whole = sum_by-cons map_len s [] in
    let long : map_len s ≡ map_len shape = ap map_len same in
    omega (arith, whole, long)
maps_len-next (suc q) (s ∷ shapes) shape here =
    let rest = maps_len-next q shapes shape here in
    let one : maps_len (take (suc q) (s ∷ shapes)) ≡ map_len s + maps_len (take q shapes) = sum_by-cons map_len s (take q shapes) in
    let more : maps_len (take (suc q + 1) (s ∷ shapes)) ≡ map_len s + maps_len (take (q + 1) shapes) =
    ap (λ k. maps_len (take k (s ∷ shapes))) (up q) ∙ sum_by-cons map_len s (take (q + 1) shapes) in
    omega (arith, rest, one, more)
  where
    up : (n : ℕ) → suc n + 1 ≡ suc (n + 1)
    up n = omega arith

pub maps_len-within : (q : ℕ) (shapes : List MapShape) (shape : MapShape) → slice_get shapes q ≡ Some shape
    → maps_len (take q shapes) + map_len shape ≤ maps_len shapes
maps_len-within q [] shape here = cc
maps_len-within zero (s ∷ shapes) shape here =
    let same : s ≡ shape = cc in
    let whole = sum_by-cons map_len s shapes in
    let long : map_len s ≡ map_len shape = ap map_len same in
    omega (arith, whole, long)
maps_len-within (suc q) (s ∷ shapes) shape here =
    let rest = maps_len-within q shapes shape here in
    let whole = sum_by-cons map_len s shapes in
    let one = sum_by-cons map_len s (take q shapes) in
    omega (arith, rest, whole, one)

-- bytes behind others
paste-behind : (front bytes new : List ℕ) (at : ℕ) → paste (front ++ bytes) (length front + at) new ≡ front ++ paste bytes at new
paste-behind front bytes new at =
    let F = length front in
    let high : F + at + length new ≡ F + (at + length new) = omega arith in
    ap (λ s. take (length (front ++ bytes)) (s ++ (new ++ drop (F + at + length new) (front ++ bytes)))) (take-append-add front bytes at)
    ∙ ap (λ n. take (length (front ++ bytes)) ((front ++ take at bytes) ++ (new ++ drop n (front ++ bytes)))) high
    ∙ ap (λ s. take (length (front ++ bytes)) ((front ++ take at bytes) ++ (new ++ s))) (drop-append-add front bytes (at + length new))
    ∙ ap (λ n. take n ((front ++ take at bytes) ++ (new ++ drop (at + length new) bytes))) (length-append front bytes)
    ∙ ap (take (F + length bytes)) (append_assoc front (take at bytes) (new ++ drop (at + length new) bytes))
    ∙ take-append-add front (take at bytes ++ (new ++ drop (at + length new) bytes)) (length bytes)

abbrev behind : ℕ → ℕ
behind len = len + frame_len * frame_count

-- a run in maps stands behind the bytes of the context and the frames
past-frames : (a : ℕ) → map_base ≤ a → is_from_frame frame_count a ≡ false
past-frames a low = grind (arith, nat_tests)

in-maps : (m : Image) (a n : ℕ) → m.context_len ≤ context_limit → map_base ≤ a → 1 ≤ n
    → option_map (λ at. behind m.context_len + at) (index_in (maps_from 0 m.maps) a n) ≡ index_of m a n
in-maps m a n short low some =
    in_maps_below m frame_count a n (index_in (maps_from 0 m.maps) a n) short low some refl
    ∙ ap (λ (b : Bool). cond b None (index_of m a n)) (past-frames a low)

-- a store in maps, whatever stands in front of them
put-behind : (m : Image) (front bytes new : List ℕ) (a : ℕ) → m.bytes ≡ front ++ bytes → length front ≡ behind m.context_len → m.context_len ≤ context_limit
    → map_base ≤ a → 1 ≤ length new
    → put m a (length new) new ≡ record m { bytes = front ++ option_map_or (λ at. paste bytes at new) (index_in (maps_from 0 m.maps) a (length new)) bytes }
put-behind m front bytes new a here long short low some =
    go (index_in (maps_from 0 m.maps) a (length new)) (in-maps m a (length new) short low some)
  where
    go : (found : Option ℕ) → option_map (λ at. behind m.context_len + at) found ≡ index_of m a (length new)
        → put m a (length new) new ≡ record m { bytes = front ++ option_map_or (λ at. paste bytes at new) found bytes }
    go None e =
        ap (λ (o : Option ℕ). option_map_or (λ at. record m { bytes = paste m.bytes at new }) o m) (sym e)
        ∙ ap (λ (bs : List ℕ). record m { bytes = bs }) here
    go (Some at) e =
        ap (λ (o : Option ℕ). option_map_or (λ at. record m { bytes = paste m.bytes at new }) o m) (sym e)
        ∙ ap (λ (bs : List ℕ). record m { bytes = paste bs (behind m.context_len + at) new }) here
        ∙ ap (λ (n : ℕ). record m { bytes = paste (front ++ bytes) (n + at) new }) (sym long)
        ∙ ap (λ (bs : List ℕ). record m { bytes = bs }) (paste-behind front bytes new at)

-- a machine with other bytes in its maps, behind the same ones
abbrev pub with_maps_of : State → List ℕ → List ℕ → State
with_maps_of x front bytes = record x { memory = record x.memory { bytes = front ++ bytes } }

runs-behind : (maps : List MapShape) (runs : List Run) (x : State) (front bytes : List ℕ) → AreIn runs → x.memory.maps ≡ maps → x.memory.bytes ≡ front ++ bytes
    → length front ≡ behind x.memory.context_len → x.memory.context_len ≤ context_limit
    → with_runs runs x ≡ with_maps_of x front (pasted maps runs bytes)
unfolding edited
runs-behind maps [] x front bytes in' same here long short = ap (λ (bs : List ℕ). record x { memory = record x.memory { bytes = bs } }) here
runs-behind maps (run ∷ runs) x front bytes in' same here long short =
    let next : List ℕ = option_map_or (λ at. paste bytes at run.bytes) (index_in (maps_from 0 maps) run.address (length run.bytes)) bytes in
    let y : State = with_maps_of x front next in
    let first : edited x (edit.Bytes run.address run.bytes) ≡ y =
    ap (λ (m : Image). record x { memory = m }) (put-behind x.memory front bytes run.bytes run.address here long short in'.0 in'.1)
    ∙ ap (λ (ms : List MapShape). with_maps_of x front (option_map_or (λ at. paste bytes at run.bytes) (index_in (maps_from 0 ms) run.address (length run.bytes)) bytes)) same in
    ap (with_runs runs) first ∙ runs-behind maps runs y front next in'.2 same refl long short

-- cells are runs
abbrev pub as_run : Cell → Run
as_run cell = record { address = cell_address cell.map cell.index (length cell.value); bytes = cell.value }

pub cells-runs : (cells : List Cell) (x : State) → with_cells cells x ≡ with_runs (map as_run cells) x
unfolding edited
cells-runs [] x = refl
cells-runs (cell ∷ cells) x = cells-runs cells (edited x (edit_of cell))

-- a value isn't empty
sized-some : (bytes value : List ℕ) → sized bytes ≡ Some value → 1 ≤ length value
sized-some bytes value e = go (is_value_len (length bytes)) refl e where
  go : (b : Bool) → is_value_len (length bytes) ≡ b → cond b (Some bytes) None ≡ Some value → 1 ≤ length value
  go true long same = let is : bytes ≡ value = cc in subst (λ (v : List ℕ). 1 ≤ length v) is (grind (arith, nat_tests))
  go false long same = cc

pub value-some : (line : CellLine) (value : List ℕ) → value_of line ≡ Some value → 1 ≤ length value
value-some line value e = from (bytes_of line.digits) e where
  from : (bytes : Option (List ℕ)) → option_and_then sized bytes ≡ Some value → 1 ≤ length value
  from None e = cc
  from (Some bytes) e = sized-some bytes value e

pub cells-in : (lines : List CellLine) → AreIn (map as_run (filter_map cell_of lines))
cells-in [] = tt
cells-in (line ∷ lines) = go (value_of line) refl (cells-in lines) where
  go : (value : Option (List ℕ)) → value_of line ≡ value → AreIn (map as_run (filter_map cell_of lines)) → AreIn (map as_run (filter_map cell_of (line ∷ lines)))
  go None e rest = rw e rest
  go (Some value) e rest = rw e (omega arith, value-some line value e, rest)

-- memory at opening
opening-bytes : (code : Checked) (context : List ℕ)
    → (initial code context).memory.bytes ≡ (context ++ replicate (frame_len * frame_count) 0) ++ replicate (maps_len code.maps) 0
opening-bytes code context =
    ap (λ s. context ++ s) (sym (replicate-append-replicate (frame_len * frame_count) (maps_len code.maps) 0))
    ∙ sym (append_assoc context (replicate (frame_len * frame_count) 0) (replicate (maps_len code.maps) 0))

opening-front : (context : List ℕ) → length (context ++ replicate (frame_len * frame_count) 0) ≡ behind (length context)
opening-front context = length-append context (replicate (frame_len * frame_count) 0) ∙ ap (λ n. length context + n) (length-replicate {A = ℕ} (frame_len * frame_count) 0)

pub opened-runs : (maps : List MapShape) (code : Checked) (context : List ℕ) (runs : List Run) → code.maps ≡ maps → length context ≤ context_limit → AreIn runs
    → with_runs runs (initial code context)
    ≡ with_maps_of (initial code context) (context ++ replicate (frame_len * frame_count) 0) (pasted maps runs (replicate (maps_len maps) 0))
opened-runs maps code context runs same short in' =
    runs-behind maps runs (initial code context) (context ++ replicate (frame_len * frame_count) 0) (replicate (maps_len maps) 0) in' same
    (opening-bytes code context ∙ ap (λ (ms : List MapShape). (context ++ replicate (frame_len * frame_count) 0) ++ replicate (maps_len ms) 0) same)
    (opening-front context) short

-- what stands in the maps of a machine that was opened on no context and got cells
pub map_bytes-cells : (code : Checked) (runs : List Run) → AreIn runs
    → map_bytes (with_runs runs (initial code [])) ≡ pasted code.maps runs (replicate (maps_len code.maps) 0)
map_bytes-cells code runs in' =
    let front : List ℕ = replicate (frame_len * frame_count) 0 in
    let P = pasted code.maps runs (replicate (maps_len code.maps) 0) in
    ap map_bytes (opened-runs code.maps code [] runs refl (omega arith) in')
    ∙ ap (λ n. drop n (front ++ P)) (sym (length-replicate {A = ℕ} (frame_len * frame_count) 0))
    ∙ drop-append_seam front P

-- one run more
pasted-append : (maps : List MapShape) (runs more : List Run) (bytes : List ℕ) → pasted maps (runs ++ more) bytes ≡ pasted maps more (pasted maps runs bytes)
pasted-append maps [] more bytes = refl
pasted-append maps (run ∷ runs) more bytes =
    pasted-append maps runs more (option_map_or (λ at. paste bytes at run.bytes) (index_in (maps_from 0 maps) run.address (length run.bytes)) bytes)

in-more : (runs : List Run) (a : ℕ) (bytes : List ℕ) → AreIn runs → map_base ≤ a → 1 ≤ length bytes → AreIn (runs ++ run_of a bytes)
in-more [] a bytes h low some = go (list_all (λ b. b == 0) bytes) refl where
  go : (b : Bool) → list_all (λ b. b == 0) bytes ≡ b → AreIn (run_of a bytes)
  go true e = rw e tt
  go false e = rw e (low, some, tt)
in-more (run ∷ runs) a bytes h low some = (h.0, h.1, in-more runs a bytes h.2 low some)

both-true : (p q : Bool) → (p && q) ≡ true → (p ≡ true) × (q ≡ true)
both-true true q e = (refl, e)
both-true false q e = cc

is-zero : (b : ℕ) → (b == 0) ≡ true → b ≡ 0
is-zero b e = grind (arith, nat_tests)

all-zeros : (bytes : List ℕ) → list_all (λ b. b == 0) bytes ≡ true → bytes ≡ replicate (length bytes) 0
all-zeros [] e = refl
all-zeros (b ∷ bytes) e =
    let parts = both-true (b == 0) (list_all (λ b. b == 0) bytes) e in
    ap (λ c. c ∷ bytes) (is-zero b parts.0) ∙ ap (λ s. 0 ∷ s) (all-zeros bytes parts.1)

-- the first bytes, and as many as a run more
paste-first : (n more : ℕ) (new : List ℕ) → length new ≡ n → paste (replicate (n + more) 0) 0 new ≡ new ++ replicate more 0
paste-first n more new e =
    let rest : (n + more) - n ≡ more = omega arith in
    let there : drop (length new) (replicate (n + more) 0) ≡ replicate more 0 =
    ap (λ k. drop k (replicate (n + more) 0)) e ∙ drop-replicate n (n + more) 0 ∙ ap (λ k. replicate k 0) rest in
    let long : length (new ++ replicate more 0) ≡ n + more = length-append new (replicate more 0) ∙ ap (λ k. length new + k) (length-replicate more 0) ∙ ap (λ k. k + more) e in
    let zeros : List ℕ = replicate (n + more) 0 in
    let wide : length zeros ≡ n + more = length-replicate (n + more) 0 in
    let from : 0 + length new ≡ length new = omega arith in
    ap (λ k. take (length zeros) (take 0 zeros ++ (new ++ drop k zeros))) from ∙ ap (λ s. take (length zeros) (new ++ s)) there ∙ take_all (length zeros) (new ++ replicate more 0) (omega (arith, long, wide))

held-more : (maps : List MapShape) (runs : List Run) (zeros front bytes : List ℕ) (a j n left : ℕ) → pasted maps runs zeros ≡ front ++ replicate (n + left) 0
    → length front ≡ j → length bytes ≡ n → index_in (maps_from 0 maps) a n ≡ Some j → (b : Bool) → list_all (λ b. b == 0) bytes ≡ b
    → pasted maps (runs ++ run_of a bytes) zeros ≡ front ++ (bytes ++ replicate left 0)
held-more maps runs zeros front bytes a j n left before long size found true e =
    let none : run_of a bytes ≡ [] = rw e refl in
    let nothing : bytes ≡ replicate n 0 = all-zeros bytes e ∙ ap (λ k. replicate k 0) size in
    ap (λ more. pasted maps (runs ++ more) zeros) none ∙ ap (λ rs. pasted maps rs zeros) (append-nil runs) ∙ before
    ∙ ap (λ s. front ++ s) (sym (replicate-append-replicate n left 0) ∙ ap (λ s. s ++ replicate left 0) (sym nothing))
held-more maps runs zeros front bytes a j n left before long size found false e =
    let run : Run = record { address = a; bytes = bytes } in
    let one : run_of a bytes ≡ run ∷ [] = rw e refl in
    let there : index_in (maps_from 0 maps) a (length bytes) ≡ Some j = ap (index_in (maps_from 0 maps) a) size ∙ found in
    let start : j ≡ length front + 0 = omega (arith, long) in
    ap (λ more. pasted maps (runs ++ more) zeros) one ∙ pasted-append maps runs (run ∷ []) zeros
    ∙ ap (λ s. option_map_or (λ at. paste s at bytes) (index_in (maps_from 0 maps) a (length bytes)) s) before
    ∙ ap (λ (o : Option ℕ). option_map_or (λ at. paste (front ++ replicate (n + left) 0) at bytes) o (front ++ replicate (n + left) 0)) there
    ∙ ap (λ k. paste (front ++ replicate (n + left) 0) k bytes) start
    ∙ paste-behind front (replicate (n + left) 0) bytes 0
    ∙ ap (λ s. front ++ s) (paste-first n left bytes size)

present-more : (maps : List MapShape) (runs : List Run) (a j : ℕ) (bytes : List ℕ) → ArePresent maps runs → index_in (maps_from 0 maps) a (length bytes) ≡ Some j
    → ArePresent maps (runs ++ run_of a bytes)
present-more maps [] a j bytes h found = go (list_all (λ b. b == 0) bytes) refl where
  go : (b : Bool) → list_all (λ b. b == 0) bytes ≡ b → ArePresent maps (run_of a bytes)
  go true e = rw e tt
  go false e = rw e ((j, found), tt)
present-more maps (run ∷ runs) a j bytes h found = (h.0, present-more maps runs a j bytes h.1 found)

holds-more : (maps : List MapShape) (M : List ℕ) (runs : List Run) (a j n : ℕ) (bytes : List ℕ) → length M ≡ maps_len maps → Holds maps M runs j → map_base ≤ a → 1 ≤ n
    → length bytes ≡ n → index_in (maps_from 0 maps) a n ≡ Some j → j + n ≤ maps_len maps → bytes ≡ slice_range M j (j + n)
    → Holds maps M (runs ++ run_of a bytes) (j + n)
holds-more maps M runs a j n bytes long h low some size found fits same =
    let L = maps_len maps in
    let left = L - (j + n) in
    let wide : (j + n) - j ≡ n = omega arith in
    let apart : L - j ≡ n + left = omega (arith, fits) in
    let mine : bytes ≡ take n (drop j M) = same ∙ ap (λ k. take k (drop j M)) wide in
    let whole : take (j + n) M ++ replicate left 0 ≡ take j M ++ (bytes ++ replicate left 0) =
    ap (λ s. s ++ replicate left 0) (take-add j n M ∙ ap (λ s. take j M ++ s) (sym mine)) ∙ append_assoc (take j M) bytes (replicate left 0) in
    let before : pasted maps runs (replicate L 0) ≡ take j M ++ replicate (n + left) 0 = h.held ∙ ap (λ k. take j M ++ replicate k 0) apart in
    let front : length (take j M) ≡ j = length-take-le j M (omega (arith, long, fits)) in
    record {
      placed = in-more runs a bytes h.placed low (omega (arith, some, size));
      present = present-more maps runs a j bytes h.present (ap (index_in (maps_from 0 maps) a) size ∙ found);
      held = held-more maps runs (replicate L 0) (take j M) bytes a j n left before front size found (list_all (λ b. b == 0) bytes) refl ∙ sym whole;
    }

-- what is read of a machine's maps
pub map_bytes-long : (x : State) → IsState x → length (map_bytes x) ≡ maps_len x.program.maps
map_bytes-long x is =
    length-drop (behind x.memory.context_len) x.memory.bytes ∙ ap (λ n. n - behind x.memory.context_len) is.image.whole
    ∙ omega arith ∙ ap maps_len is.mapped

pub run-read : (x : State) (a n j : ℕ) → IsState x → map_base ≤ a → 1 ≤ n → index_in (maps_from 0 x.program.maps) a n ≡ Some j
    → run_at x.memory a n ≡ Some (slice_range (map_bytes x) j (j + n))
run-read x a n j is low some found =
    let B = behind x.memory.context_len in
    let there : index_in (maps_from 0 x.memory.maps) a n ≡ Some j = ap (λ (ms : List MapShape). index_in (maps_from 0 ms) a n) is.mapped ∙ found in
    let place : index_of x.memory a n ≡ Some (B + j) = sym (in-maps x.memory a n is.image.short low some) ∙ ap (option_map (λ at. B + at)) there in
    let wide : (B + j + n) - (B + j) ≡ (j + n) - j = omega arith in
    ap (option_map (λ at. slice_range x.memory.bytes at (at + n))) place
    ∙ ap (λ k. Some (take k (drop (B + j) x.memory.bytes))) wide
    ∙ ap (λ s. Some (take ((j + n) - j) s)) (sym (drop-drop j B x.memory.bytes))

-- no run holds the first 0 bytes
pub holds-none : (maps : List MapShape) (bytes : List ℕ) → Holds maps bytes [] 0
holds-none maps bytes = record {
  placed = tt;
  present = tt;
  held = ap (λ k. replicate k 0) (same (maps_len maps));
} where
  same : (n : ℕ) → n ≡ n - 0
  same n = omega arith

pub holds-all : (maps : List MapShape) (bytes : List ℕ) (runs : List Run) (n : ℕ) → length bytes ≡ maps_len maps → Holds maps bytes runs n → n ≡ maps_len maps
    → AreAll maps bytes runs
holds-all maps bytes runs n long h all =
    let none : maps_len maps - n ≡ 0 = omega (arith, all) in
    let enough : length bytes ≤ n = omega (arith, all, long) in
    record {
      placed = h.placed;
      present = h.present;
      held = h.held ∙ ap (λ k. take n bytes ++ replicate k 0) none ∙ append-nil (take n bytes) ∙ take_all n bytes enough;
    }

-- bytes that are read of a machine's maps, behind those that its runs hold
holds-read : (x : State) (maps : List MapShape) (M : List ℕ) (old new : List Run) (a n j : ℕ) (bytes : List ℕ) → Shows x maps M → map_base ≤ a → 1 ≤ n → length bytes ≡ n
    → Some bytes ≡ run_at x.memory a n → new ≡ old ++ run_of a bytes → Holds maps M old j → index_in (maps_from 0 maps) a n ≡ Some j
    → j + n ≤ maps_len maps → Holds maps M new (j + n)
holds-read x maps M old new a n j bytes shows low some size read more h found fits =
    let same : Some bytes ≡ Some (slice_range M j (j + n)) = read ∙ shows.read a n j low some found in
    let mine : bytes ≡ slice_range M j (j + n) = cc in
    subst (λ (rs : List Run). Holds maps M rs (j + n)) (sym more) (holds-more maps M old a j n bytes shows.long h low some size found fits mine)

pub nothing-read : (x : State) (a n j : ℕ) → IsState x → map_base ≤ a → 1 ≤ n → run_at x.memory a n ≡ None → index_in (maps_from 0 x.program.maps) a n ≡ Some j → ⊥
nothing-read x a n j is low some none found = let there = sym none ∙ run-read x a n j is low some found in cc

pub holds-pushed : {E : Type 0} (x : State) (old new : List Run) (a n : ℕ) (bytes : List ℕ) (result : Result (Unit {0}) E) → map_base ≤ a → 1 ≤ n
    → length bytes ≡ n → Some bytes ≡ run_at x.memory a n → OnOk result (new ≡ old ++ run_of a bytes)
    → OnOk result ((maps : List MapShape) (M : List ℕ) (j : ℕ) → Shows x maps M → index_in (maps_from 0 maps) a n ≡ Some j → j + n ≤ maps_len maps
    → Holds maps M old j → Holds maps M new (j + n))
holds-pushed x old new a n bytes (Ok done) low some size read more =
    λ maps M j shows found fits h. holds-read x maps M old new a n j bytes shows low some size read more h found fits
holds-pushed x old new a n bytes (Err fault) low some size read more = tt

pub not-shown : (x : State) (maps : List MapShape) (M : List ℕ) (a n j : ℕ) → Shows x maps M → map_base ≤ a → 1 ≤ n → run_at x.memory a n ≡ None
    → index_in (maps_from 0 maps) a n ≡ Some j → ⊥
not-shown x maps M a n j shows low some none found = let there = sym none ∙ shows.read a n j low some found in cc

-- zeros are no run
pub run_of-none : (runs : List Run) (a : ℕ) (bytes : List ℕ) → list_all (λ b. b == 0) bytes ≡ true → runs ≡ runs ++ run_of a bytes
run_of-none runs a bytes e = let none : run_of a bytes ≡ [] = rw e refl in sym (ap (λ more. runs ++ more) none ∙ append-nil runs)

-- a run that is put in, or isn't there
unmoved : (x : State) (a : ℕ) (bytes : List ℕ) (fault : EditFault) → edit_fault x (edit.Bytes a bytes) ≡ Some fault → x ≡ edited x (edit.Bytes a bytes)
unfolding edited
unmoved x a bytes fault e = go (index_of x.memory a (length bytes)) refl e where
  go : (found : Option ℕ) → index_of x.memory a (length bytes) ≡ found → unless (is_some (index_of x.memory a (length bytes))) AddressNotPresent ≡ Some fault
      → x ≡ record x { memory = put x.memory a (length bytes) bytes }
  go None here e = rw here refl
  go (Some at) here e = absurd (there (is_some (index_of x.memory a (length bytes))) (ap is_some here) e) where
    there : (b : Bool) → b ≡ true → unless b AddressNotPresent ≡ Some fault → ⊥
    there true is e = cc
    there false is e = cc

pub edit-run : (x y : State) (a : ℕ) (bytes same : List ℕ) (result : Result Entry EditFault) → bytes ≡ same → OnOk result (y ≡ edited x (edit.Bytes a bytes))
    → IfErr result (RefusesEdit x (edit.Bytes a bytes) y) → y ≡ edited x (edit.Bytes a same)
edit-run x y a bytes same (Ok entry) is next why = next ∙ ap (λ (bs : List ℕ). edited x (edit.Bytes a bs)) is
edit-run x y a bytes same (Err fault) is next why = why.same ∙ unmoved x a bytes fault why.why ∙ ap (λ (bs : List ℕ). edited x (edit.Bytes a bs)) is

-- a run of a map
pub shape-total : (maps : List MapShape) (map : ℕ) (shape : MapShape) → All IsShape maps → slice_get maps map ≡ Some shape → map_len shape ≤ 65536
shape-total [] map shape h here = cc
shape-total (s ∷ maps) zero shape h here =
    let same : s ≡ shape = cc in
    let short = (first_shape s maps h).total in
    let long : map_len s ≡ map_len shape = ap map_len same in
    omega (arith, short, long)
shape-total (s ∷ maps) (suc map) shape h here = shape-total maps map shape (later_shapes s maps h) here

pub short-run : (maps : List MapShape) (map r n a before : ℕ) (shape : MapShape) → ((k : ℕ) (s : MapShape) → slice_get maps k ≡ Some s → map_len s ≤ 65536)
    → slice_get maps map ≡ Some shape → before ≡ maps_len (take map maps) → 1 ≤ n → r + n ≤ map_len shape → a ≡ map_base + map_stride * map + r
    → (index_in (maps_from 0 maps) a n ≡ Some (before + r)) × (before + r + n ≤ maps_len maps)
short-run maps map r n a before shape short here e some fits at =
    let place = map_place 0 map r n maps shape short here some fits in
    let same : a ≡ map_address (0 + map) + r = omega (arith, at) in
    let within = maps_len-within map maps shape here in
    (ap (λ k. index_in (maps_from 0 maps) k n) same ∙ place ∙ ap (λ k. Some (k + r)) (sym e), omega (arith, within, e, fits))

pub shape-run : (x : State) (map r n a before : ℕ) (shape : MapShape) → IsState x → slice_get x.program.maps map ≡ Some shape
    → before ≡ maps_len (take map x.program.maps) → 1 ≤ n → r + n ≤ map_len shape → a ≡ map_base + map_stride * map + r
    → (index_in (maps_from 0 x.program.maps) a n ≡ Some (before + r)) × (before + r + n ≤ maps_len x.program.maps)
shape-run x map r n a before shape is here e some fits at =
    short-run x.program.maps map r n a before shape (λ k s there. shape-total x.program.maps k s is.checked.tables.shapes there) here e some fits at

pub no-map : (maps : List MapShape) (map : ℕ) → map < length maps → slice_get maps map ≡ None → ⊥
no-map [] map low none = omega (arith, low)
no-map (s ∷ maps) zero low none = cc
no-map (s ∷ maps) (suc map) low none = no-map maps map (omega (arith, low)) none
