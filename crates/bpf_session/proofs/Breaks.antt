-- A table beside a list of slots tells which places the slots have.
use Rattle.std.specs.Prelude.{if◌then◌else◌, All, filter, not, replicate, slice_index_or}
use Rattle.std.proofs.Common.{◌≡◌, ◌≢◌, ◌<◌, ◌≤◌, ℕ, zero, suc, Bool, true, false, ◌||◌, ◌==◌, ◌%◌, List, [], ◌∷◌, ◌++◌, Some, length, slice_get, set, refl, sym, ap, ◌∙◌, arith}
use Rattle.std.proofs.lemmas.Bool.Decides.{nat_tests}
use Rattle.std.proofs.lemmas.List.{length-set}
use Rattle.std.proofs.lemmas.Option.{get_or_from_slice_get}
use Rattle.std.proofs.lemmas.List.Folds.{list_any-append}
use Rattle.bpf_session.specs.SlotTables.{IsTableOf, has_at}
use Rattle.bpf_session.specs.Stops.{has}

-- a mark that was set, and one beside it
set_there : (table : List Bool) (i : ℕ) (v : Bool) → i < length table → slice_get (set table i v) i ≡ Some v
set_there [] i v lt = absurd (omega arith)
set_there (b ∷ table) zero v lt = refl
set_there (b ∷ table) (suc i) v lt = set_there table i v (omega arith)

set_elsewhere : (table : List Bool) (i j : ℕ) (v : Bool) → i ≢ j → slice_get (set table i v) j ≡ slice_get table j
set_elsewhere [] i j v other = refl
set_elsewhere (b ∷ table) zero zero v other = absurd (other refl)
set_elsewhere (b ∷ table) zero (suc j) v other = refl
set_elsewhere (b ∷ table) (suc i) zero v other = refl
set_elsewhere (b ∷ table) (suc i) (suc j) v other = set_elsewhere table i j v (λ e. other (ap suc e))

-- the slots with one more
has_more : (slots : List ℕ) (slot place : ℕ) → has_at (slots ++ slot ∷ []) place ≡ (has_at slots place || ((slot % 8192 == place) || false))
has_more slots slot place = list_any-append (λ s. s % 8192 == place) slots (slot ∷ [])

-- the slots without one, at another place
has_without : (slots : List ℕ) (slot place : ℕ) → (slot % 8192 == place) ≡ false → has_at (filter (λ s. not (s == slot)) slots) place ≡ has_at slots place
has_without [] slot place other = refl
has_without (s ∷ slots) slot place other = at (s == slot) refl (has_without slots slot place other)
  where
    at : (gone : Bool) → (s == slot) ≡ gone → has_at (filter (λ t. not (t == slot)) slots) place ≡ has_at slots place
        → has_at (if not gone then s ∷ filter (λ t. not (t == slot)) slots else filter (λ t. not (t == slot)) slots) place ≡ ((s % 8192 == place) || has_at slots place)
    at true e rest =
        let same : s ≡ slot = grind (arith, nat_tests) in
        let differ : (s % 8192 == place) ≡ false = ap (λ k. k % 8192 == place) same ∙ other in
        rw differ rest
    at false e rest = ap (λ (b : Bool). (s % 8192 == place) || b) rest

-- no slot at a place, no slot
pub none_there : (slots : List ℕ) (slot : ℕ) → has_at slots (slot % 8192) ≡ false → has slots slot ≡ false
none_there [] slot none = refl
none_there (s ∷ slots) slot none = at (s % 8192 == slot % 8192) refl none (none_there slots slot)
  where
    at : (b : Bool) → (s % 8192 == slot % 8192) ≡ b → (b || has_at slots (slot % 8192)) ≡ false → (has_at slots (slot % 8192) ≡ false → has slots slot ≡ false) → ((s == slot) || has slots slot) ≡ false
    at true e none rest = absurd cc
    at false e none rest =
        let differ : (s == slot) ≡ false = grind (arith, nat_tests) in
        rw differ (rest none)

pub not_there : (slots : List ℕ) (table : List Bool) (slot place : ℕ) → IsTableOf slots table → place ≡ slot % 8192 → place < 8192 → slice_index_or table place false ≡ false → false ≡ has slots slot
not_there slots table slot place m is within free =
    let told : slice_get table place ≡ Some (has_at slots place) = m.each place within in
    let at : slice_index_or table place false ≡ has_at slots place = get_or_from_slice_get table place (has_at slots place) false told in
    sym (none_there slots slot (ap (has_at slots) (sym is) ∙ sym at ∙ free))

pub table_more : (slots : List ℕ) (table : List Bool) (slot : ℕ) → IsTableOf slots table → IsTableOf (slots ++ slot ∷ []) (set table (slot % 8192) true)
table_more slots table slot m = record {
  whole = length-set table (slot % 8192) true ∙ m.whole;
  each = λ place within. at place within (slot % 8192 == place) refl ∙ ap Some (sym (has_more slots slot place));
}
  where
    at : (place : ℕ) → place < 8192 → (b : Bool) → (slot % 8192 == place) ≡ b → slice_get (set table (slot % 8192) true) place ≡ Some (has_at slots place || (b || false))
    at place within true e =
        let same : slot % 8192 ≡ place = grind (arith, nat_tests) in
        let room : slot % 8192 < length table = let w = m.whole in omega arith in
        ap (slice_get (set table (slot % 8192) true)) (sym same) ∙ set_there table (slot % 8192) true room ∙ ap Some (either (has_at slots place))
      where
        either : (b : Bool) → true ≡ (b || (true || false))
        either true = refl
        either false = refl
    at place within false e =
        let differ : slot % 8192 ≢ place = λ same. grind (arith, nat_tests) in
        set_elsewhere table (slot % 8192) place true differ ∙ m.each place within ∙ ap Some (plain (has_at slots place))
      where
        plain : (b : Bool) → b ≡ (b || (false || false))
        plain true = refl
        plain false = refl

pub table_fewer : (slots : List ℕ) (table : List Bool) (slot : ℕ) (left : Bool) → left ≡ has_at (filter (λ s. not (s == slot)) slots) (slot % 8192) → IsTableOf slots table
    → IsTableOf (filter (λ s. not (s == slot)) slots) (set table (slot % 8192) left)
table_fewer slots table slot left is m = record {
  whole = length-set table (slot % 8192) left ∙ m.whole;
  each = λ place within. at place within (slot % 8192 == place) refl;
}
  where
    at : (place : ℕ) → place < 8192 → (b : Bool) → (slot % 8192 == place) ≡ b → slice_get (set table (slot % 8192) left) place ≡ Some (has_at (filter (λ s. not (s == slot)) slots) place)
    at place within true e =
        let same : slot % 8192 ≡ place = grind (arith, nat_tests) in
        let room : slot % 8192 < length table = let w = m.whole in omega arith in
        ap (slice_get (set table (slot % 8192) left)) (sym same) ∙ set_there table (slot % 8192) left room
        ∙ ap Some is ∙ ap (λ k. Some (has_at (filter (λ s. not (s == slot)) slots) k)) same
    at place within false e =
        let differ : slot % 8192 ≢ place = λ same. grind (arith, nat_tests) in
        set_elsewhere table (slot % 8192) place left differ ∙ m.each place within ∙ ap Some (sym (has_without slots slot place e))

-- no slots, no table
replicated : (n i : ℕ) (b : Bool) → i < n → slice_get (replicate n b) i ≡ Some b
replicated zero i b lt = absurd (omega arith)
replicated (suc n) zero b lt = refl
replicated (suc n) (suc i) b lt = replicated n i b (omega arith)

pub no_table : (slots : List ℕ) → slots ≡ [] → IsTableOf slots (replicate 8192 false)
no_table slots none = record { whole = refl; each = λ slot lt. replicated 8192 slot false lt ∙ ap (λ (ns : List ℕ). Some (has_at ns slot)) (sym none) }

-- no slot is past the last one
pub has_none : (slots : List ℕ) (slot : ℕ) → All (λ s. s < 65536) slots → 65536 ≤ slot → has slots slot ≡ false
has_none [] slot all past = refl
has_none (s ∷ slots) slot all past =
    let here : s < 65536 = all 0 0 (omega arith) in
    let differ : (s == slot) ≡ false = grind (arith, nat_tests) in
    rw differ (has_none slots slot (λ k d lt. all (suc k) d (omega arith)) past)
