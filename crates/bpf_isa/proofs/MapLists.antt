-- Lists of maps: what one more item does to the table so far.
use Rattle.std.proofs.Common.{◌≡◌, ◌<◌, ◌≤◌, inl, inr, ℕ, ◌+◌, min, List, [], ◌∷◌, ◌++◌, Some, length, get_or, take, sym, ap, ◌∙◌, subst, arith, lit<, lit≤, length-append}
use Rattle.std.specs.Prelude.{map}
use Rattle.std.proofs.lemmas.Bool.{cases_lt}
use Rattle.std.proofs.lemmas.List.{take_more, take_all, get_or-map}
use Rattle.std.proofs.Math.Seq.{get_or-append_seam}
use Rattle.std.proofs.lemmas.List.{length-map}
use Rattle.std.proofs.lemmas.List.Elements.{All-get_or}
use Rattle.std.proofs.lemmas.Option.{slice_get-get_or}
use borrow.Author.Count.{below_more}
use Rattle.bpf_isa.specs.declared.maps.MapShape.{MapShape}
use Rattle.bpf_isa.specs.declared.fault.MapFault.{MapFault}
use Rattle.bpf_isa.specs.declared.fault.MapFault.TheVariants.{ValueSize, Entries, Total, Full, Malformed}
use Rattle.bpf_isa.specs.Faults.{IsLeast, map_fault}
use Rattle.bpf_isa.specs.Maps.{IsShape, AreMaps, HasMapFault, IsItem, shape_of, items_of, IsMapList, IsFirstBadMap, IsListFault}

abbrev IsLeastMapFault : List MapShape → ℕ → ℕ → MapFault → Type 0
IsLeastMapFault maps value entries = IsLeast map_fault (HasMapFault maps value entries)

-- a number that is cut to 32 bits has the same faults
same_number : (v w m : ℕ) → w ≡ min v m → 256 < m → w ≤ 256 → v ≡ w
same_number v w m e large small = omega arith

same_count : (v w m : ℕ) → w ≡ min v m → 4096 < m → w ≤ 4096 → v ≡ w
same_count v w m e large small = omega arith

module _ (table : List MapShape) (v e w x m : ℕ) (cut_v : w ≡ min v m) (cut_e : x ≡ min e m) (large : 4096 < m) where
  value_same : (n : ℕ) → 1 < n → ((other : MapFault) → HasMapFault table w x other → n ≤ (map_fault other).0) → v ≡ w
  value_same n above least = elim (cases_lt 256 w) [ inl over ↦ absurd (omega (arith, least ValueSize (inr over))) | inr within ↦ same_number v w m cut_v (omega arith) within ]

  entries_same : (n : ℕ) → 2 < n → ((other : MapFault) → HasMapFault table w x other → n ≤ (map_fault other).0) → e ≡ x
  entries_same n above least = elim (cases_lt 4096 x) [ inl over ↦ absurd (omega (arith, least Entries (inr over))) | inr within ↦ same_count e x m cut_e large within ]

  value_fault : HasMapFault table v e ValueSize → HasMapFault table w x ValueSize
  value_fault has = grind arith

  value_fault_back : HasMapFault table w x ValueSize → HasMapFault table v e ValueSize
  value_fault_back has = grind arith

  entries_fault_back : HasMapFault table w x Entries → HasMapFault table v e Entries
  entries_fault_back has = grind arith

  from_one : (other : MapFault) → HasMapFault table v e other → 1 ≤ (map_fault other).0
  from_one ValueSize has = lit≤ tt
  from_one Entries has = lit≤ tt
  from_one Total has = lit≤ tt
  from_one Full has = lit≤ tt
  from_one Malformed has = lit≤ tt

  from_two : ((other : MapFault) → HasMapFault table w x other → 2 ≤ (map_fault other).0) → (other : MapFault) → HasMapFault table v e other → 2 ≤ (map_fault other).0
  from_two least ValueSize has = least ValueSize (value_fault has)
  from_two least Entries has = lit≤ tt
  from_two least Total has = lit≤ tt
  from_two least Full has = lit≤ tt
  from_two least Malformed has = lit≤ tt

  same_least : (fault : MapFault) → v ≡ w → e ≡ x → IsLeastMapFault table w x fault → IsLeastMapFault table v e fault
  same_least fault p q h = subst (λ a. IsLeastMapFault table a e fault) (sym p) (subst (λ b. IsLeastMapFault table w b fault) (sym q) h)

  pub uncut : (fault : MapFault) → IsLeastMapFault table w x fault → IsLeastMapFault table v e fault
  uncut ValueSize h = record { applies = value_fault_back h.applies; least = from_one }
  uncut Entries h = record { applies = entries_fault_back h.applies; least = from_two h.least }
  uncut Total h = same_least Total (value_same 3 (omega arith) h.least) (entries_same 3 (omega arith) h.least) h
  uncut Full h = same_least Full (value_same 4 (omega arith) h.least) (entries_same 4 (omega arith) h.least) h
  uncut Malformed h = absurd h.applies

-- the first k items are well formed
abbrev pub AreItems : List (List ℕ) → ℕ → Type 0
AreItems items k = (j : ℕ) → j < k → IsItem (get_or items j [])

pub one_more_item : (items : List (List ℕ)) (k : ℕ) → AreItems items k → IsItem (get_or items k []) → AreItems items (k + 1)
one_more_item items k before here = below_more (λ j. IsItem (get_or items j [])) k before here

map_at : (items : List (List ℕ)) (k : ℕ) (d : MapShape) → k < length items → get_or (map shape_of items) k d ≡ shape_of (get_or items k [])
map_at items k d inside = get_or-map shape_of items k [] d inside

last_shape : (maps : List MapShape) (shape : MapShape) → AreMaps (maps ++ shape ∷ []) → IsShape shape
last_shape maps shape are =
    let inside : length maps < length (maps ++ shape ∷ []) = omega (arith, length-append maps (shape ∷ [])) in
    subst IsShape (get_or-append_seam maps shape [] shape) (All-get_or IsShape (maps ++ shape ∷ []) (length maps) shape inside are.shapes)

same_shape : (v e w x m : ℕ) → w ≡ min v m → x ≡ min e m → 4096 < m → w ≤ 256 → x ≤ 4096 → ◌≡◌ {A = MapShape} (record { value_size = w; entries = x }) (record { value_size = v; entries = e })
same_shape v e w x m p q large small few =
    let f = same_number v w m p (omega arith) small in
    let g = same_count e x m q large few in
    cc

-- an item was added
pub added : (items : List (List ℕ)) (k w x : ℕ) (old new : List MapShape) → k < length items → w ≡ min (shape_of (get_or items k [])).value_size 4294967295 → x ≡ min (shape_of (get_or items k [])).entries 4294967295 → (old ≡ take k (map shape_of items)) × AreMaps old → new ≡ old ++ record { value_size = w; entries = x } ∷ [] → AreMaps new → (new ≡ take (k + 1) (map shape_of items)) × AreMaps new
added items k w x old new inside value entries before grown are =
    let item = get_or items k [] in
    let fits : IsShape (record { value_size = w; entries = x }) = last_shape old (record { value_size = w; entries = x }) (subst AreMaps grown are) in
    let shape = same_shape (shape_of item).value_size (shape_of item).entries w x 4294967295 value entries (lit< tt) fits.value fits.entries in
    let maps = map shape_of items in
    let within : k < length maps = omega (arith, length-map items shape_of) in
    let at : get_or maps k (shape_of item) ≡ shape_of item = map_at items k (shape_of item) inside in
    let more : take (k + 1) maps ≡ take k maps ++ get_or maps k (shape_of item) ∷ [] = take_more maps k (shape_of item) within in
    (grown ∙ ap (λ l. l ++ record { value_size = w; entries = x } ∷ []) before.0 ∙ ap (λ s. take k maps ++ s ∷ []) (shape ∙ sym at) ∙ sym more, are)

-- an item couldn't be added
pub refused : (items : List (List ℕ)) (k w x : ℕ) (old : List MapShape) (fault : MapFault) → k < length items → w ≡ min (shape_of (get_or items k [])).value_size 4294967295 → x ≡ min (shape_of (get_or items k [])).entries 4294967295 → (old ≡ take k (map shape_of items)) × AreMaps old → IsLeastMapFault old w x fault → IsFirstBadMap (map shape_of items) fault
refused items k w x old fault inside value entries before least =
    let item = get_or items k [] in
    let maps = map shape_of items in
    let within : k < length maps = omega (arith, length-map items shape_of) in
    let uncut_here = uncut old (shape_of item).value_size (shape_of item).entries w x 4294967295 value entries (lit< tt) fault least in
    record {
      at = k;
      shape = shape_of item;
      found = slice_get-get_or maps k (shape_of item) within ∙ ap Some (map_at items k (shape_of item) inside);
      before = subst AreMaps before.0 before.1;
      least = subst (λ l. IsLeastMapFault l (shape_of item).value_size (shape_of item).entries fault) before.0 uncut_here;
    }

-- after the last item
pub whole_list : (text : List ℕ) (k : ℕ) (table : List MapShape) → k ≡ length (items_of text) → (table ≡ take k (map shape_of (items_of text))) × AreMaps table → table ≡ map shape_of (items_of text)
whole_list text k table e outcome = outcome.0 ∙ take_all k (map shape_of (items_of text)) (omega (arith, length-map (items_of text) shape_of))

pub all_items : (text : List ℕ) (k : ℕ) → k ≡ length (items_of text) → AreItems (items_of text) k → IsMapList text
all_items text k e items = λ j inside. items j (omega arith)

pub list_fault : (text : List ℕ) (fault : MapFault) → IsMapList text → IsFirstBadMap (map shape_of (items_of text)) fault → IsListFault text fault
list_fault text ValueSize form bad = (form, bad)
list_fault text Entries form bad = (form, bad)
list_fault text Total form bad = (form, bad)
list_fault text Full form bad = (form, bad)
list_fault text Malformed form bad = absurd bad.least.applies
