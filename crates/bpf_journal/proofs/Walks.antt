-- A walk back over what a keeper holds stays at places of fronts.
use Rattle.std.specs.Prelude.{if◌then◌else◌, count_by}
use Rattle.std.proofs.Common.{◌≡◌, ◌+◌, ◌<◌, ◌≤◌, ℕ, zero, suc, Bool, true, false, List, [], ◌∷◌, ◌++◌, Option, Some, None, length, take, drop, refl, sym, ap, subst, ◌∙◌, arith, add-one, append_assoc}
use Rattle.std.proofs.lemmas.List.Sums.{sum_by-cons}
use Rattle.bpf_entries.specs.declared.entry.Entry.{Entry}
use Rattle.bpf_journal.specs.EditEntries.{is_of_step}
use Rattle.bpf_entries.specs.Keeping.{Kept}
use Rattle.bpf_journal.specs.Keepers.{IsPlace, WalksBack, told_before, walked}
use Rattle.bpf_journal.specs.Replaced.{byte_before, depth_before}

module _ {K : Type 0} (holds : K → List Kept → Type 0) (place : K → List Kept → ℕ) where
  -- the end is the place of the whole list
  pub place_of_all : (keeper : K) (es : List Kept) (at : ℕ) → holds keeper es → at ≡ place keeper es → IsPlace holds place keeper at
  place_of_all keeper es at held here = record { newer = []; front = es; held = held; here = sym here }

  -- what a walk answers is the place of the front without its newest
  pub place_before : (keeper : K) (newer front : List Kept) (entry : Entry) (mark : Bool) (before : ℕ) → holds keeper (newer ++ front) → Some (entry, mark, before) ≡ walked (place keeper) front → IsPlace holds place keeper before
  place_before keeper newer [] entry mark before held is = absurd cc
  place_before keeper newer (e ∷ rest) entry mark before held is =
      let answer : Entry × Bool × ℕ = (entry, mark, before) in
      let newest : Entry × Bool × ℕ = (e.0, e.1, place keeper rest) in
      let found : answer ≡ newest = cc in
      record {
        newer = newer ++ e ∷ [];
        front = rest;
        held = subst (holds keeper) (sym (append_assoc newer (e ∷ []) rest)) held;
        here = sym (ap (λ t. t.2) found);
      }

-- how many entries are of steps
abbrev steps_in : List Kept → ℕ
steps_in es = count_by (λ k. is_of_step k.0) es

-- the entries from the k-th on, one by one
pub record At (es : List Kept) (k : ℕ) : Type 0 where
  pub found : Kept
  pub front : drop k es ≡ found ∷ drop (suc k) es

pub entry_at : (es : List Kept) (k : ℕ) → k < length es → At es k
entry_at [] k lt = absurd (omega arith)
entry_at (e ∷ es) zero lt = record { found = e; front = refl }
entry_at (e ∷ es) (suc k) lt = let a = entry_at es k (omega arith) in record { found = a.found; front = a.front }

pub drop_all : (es : List Kept) → drop (length es) es ≡ []
drop_all [] = refl
drop_all (e ∷ es) = drop_all es

-- the newer ones and the front
pub split_at : (es : List Kept) (k : ℕ) → take k es ++ drop k es ≡ es
split_at [] zero = refl
split_at [] (suc k) = refl
split_at (e ∷ es) zero = refl
split_at (e ∷ es) (suc k) = ap (λ xs. e ∷ xs) (split_at es k)

-- no more are counted than were walked
pub counted_on : (steps k : ℕ) (b : Bool) → steps ≤ k → steps + (if b then 1 else 0) ≤ k + 1
counted_on steps k true le = omega (arith, le)
counted_on steps k false le = omega (arith, le)

module _ {K : Type 0} (holds : K → List Kept → Type 0) (place : K → List Kept → ℕ) (keeper : K) where
  -- after k turns a walk is at the place of the front without its k newest, and has counted the steps among these
  pub record Walking (es : List Kept) (at steps k : ℕ) : Type 0 where
    pub here : place keeper (drop k es) ≡ at
    pub counted : steps + steps_in (drop k es) ≡ steps_in es

  -- the place is one
  pub walking_place : (es : List Kept) (at steps k : ℕ) → holds keeper es → Walking es at steps k → IsPlace holds place keeper at
  walking_place es at steps k held w = record {
    newer = take k es;
    front = drop k es;
    held = subst (holds keeper) (sym (split_at es k)) held;
    here = w.here;
  }

  -- what a walk from there answers
  walked_on : (es : List Kept) (at steps k : ℕ) (result : Option (Entry × Bool × ℕ)) → holds keeper es → k < length es → Walking es at steps k → WalksBack holds place keeper at result → (a : At es k) → result ≡ Some (a.found.0, a.found.1, place keeper (drop (suc k) es))
  walked_on es at steps k result held lt w walk a =
      walk (take k es) (drop k es) (subst (holds keeper) (sym (split_at es k)) held) w.here ∙ ap (walked (place keeper)) a.front

  -- a turn
  pub walking_step : (es : List Kept) (at steps before k : ℕ) (entry : Entry) (mark : Bool) → holds keeper es → k < length es → Walking es at steps k → WalksBack holds place keeper at (Some (entry, mark, before)) → Walking es before (steps + (if is_of_step entry then 1 else 0)) (k + 1)
  walking_step es at steps before k entry mark held lt w walk =
      let a = entry_at es k lt in
      let same = walked_on es at steps k _ held lt w walk a in
      let answer : Entry × Bool × ℕ = (entry, mark, before) in
      let newest : Entry × Bool × ℕ = (a.found.0, a.found.1, place keeper (drop (suc k) es)) in
      let found : answer ≡ newest = cc in
      let kind : is_of_step a.found.0 ≡ is_of_step entry = sym (ap (λ (t : Entry × Bool × ℕ). is_of_step t.0) found) in
      let sum : steps_in (drop k es) ≡ (if is_of_step entry then 1 else 0) + steps_in (drop (suc k) es) = ap steps_in a.front ∙ sum_by-cons _ a.found (drop (suc k) es) ∙ ap (λ (b : Bool). (if b then 1 else 0) + steps_in (drop (suc k) es)) kind in
      let counted = w.counted in
      rw add-one (record {
        here = sym (ap (λ (t : Entry × Bool × ℕ). t.2) found);
        counted = omega (arith, sum, counted);
      })

  -- there is an entry where not all is walked
  pub walking_on : (es : List Kept) (at steps k : ℕ) → holds keeper es → k < length es → Walking es at steps k → WalksBack holds place keeper at None → ⊥
  walking_on es at steps k held lt w walk =
      let same = walked_on es at steps k _ held lt w walk (entry_at es k lt) in
      cc

  -- all is walked
  pub walking_end : (es : List Kept) (at steps k : ℕ) → k ≡ length es → Walking es at steps k → steps ≡ steps_in es
  walking_end es at steps k all w =
      let none : steps_in (drop k es) ≡ 0 = ap (λ (n : ℕ). steps_in (drop n es)) all ∙ ap steps_in (drop_all es) in
      let counted = w.counted in
      omega (arith, none, counted)

-- what a walk answers tells a byte and the depth
pub told_by_walk : {K : Type 0} (place : K → List Kept → ℕ) (keeper : K) (front : List Kept) (entry : Entry) (mark : Bool) (before old deep a after depth : ℕ)
    → Some (entry, mark, before) ≡ walked (place keeper) front → old ≡ byte_before depth entry a after → deep ≡ depth_before depth entry
    → Some (old, deep, before) ≡ told_before (place keeper) depth a after front
told_by_walk place keeper [] entry mark before old deep a after depth is told shallower = absurd cc
told_by_walk place keeper (e ∷ rest) entry mark before old deep a after depth is told shallower =
    let answer : Entry × Bool × ℕ = (entry, mark, before) in
    let newest : Entry × Bool × ℕ = (e.0, e.1, place keeper rest) in
    let found : answer ≡ newest = cc in
    let byte : old ≡ byte_before depth e.0 a after = told ∙ ap (λ (t : Entry × Bool × ℕ). byte_before depth t.0 a after) found in
    let deeper : deep ≡ depth_before depth e.0 = shallower ∙ ap (λ (t : Entry × Bool × ℕ). depth_before depth t.0) found in
    let there : before ≡ place keeper rest = ap (λ (t : Entry × Bool × ℕ). t.2) found in
    cc
