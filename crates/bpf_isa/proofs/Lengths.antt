-- Lengths that are wanted of maps, of which one is raised.
use Rattle.std.proofs.Common.{◌≡◌, ◌≢◌, ◌<◌, ◌≤◌, ◌⊎◌, inl, inr, ℕ, List, length, get_or, set, sym, subst, arith}
use Rattle.std.specs.Prelude.{◌↔◌, replicate}
use Rattle.std.proofs.lemmas.Bool.{cases_lt}
use Rattle.std.proofs.lemmas.List.{get_or-replicate, get_or_past, get_or-set_same, get_or-set_other, length-replicate}
use Rattle.bpf_isa.specs.declared.maps.MapShape.{MapShape}
use Rattle.bpf_isa.specs.Scaffolding.Demands.{bytes_in, Meet}

pub no_lengths : (maps : List MapShape) (n : ℕ) → Meet maps (replicate n 0)
no_lengths maps n m = elim (cases_lt m n) [
  | inl below ↦ omega (arith, get_or-replicate {A = ℕ} n m 0 0 below)
  | inr outside ↦ omega (arith, get_or_past {X = ℕ} (replicate n 0) m 0 (omega (arith, outside, length-replicate {A = ℕ} n 0)))
]

same_or_other : (m n : ℕ) → (m ≡ n) ⊎ (m ≢ n)
same_or_other m n = elim (cases_lt m n) [
  | inl below ↦ inr (λ e. omega (arith, below, e))
  | inr from ↦ elim (cases_lt n m) [ inl above ↦ inr (λ e. omega (arith, above, e)) | inr to ↦ inl (omega (arith, from, to)) ]
]

module _ (maps : List MapShape) (lengths : List ℕ) (map n : ℕ) where
  met_before : map < length lengths → get_or lengths map 0 < n → Meet maps (set lengths map n) → Meet maps lengths
  met_before inside more met m = elim (same_or_other m map) [
    | inl e ↦ (let at = met map in let same = get_or-set_same lengths map n 0 inside in subst (λ k. get_or lengths k 0 ≤ bytes_in maps k) (sym e) (omega (arith, at, same, more)))
    | inr other ↦ (let at = met m in let same = get_or-set_other lengths map m n 0 other in omega (arith, at, same))
  ]

  met_there : map < length lengths → Meet maps (set lengths map n) → n ≤ bytes_in maps map
  met_there inside met = (let at = met map in let same = get_or-set_same lengths map n 0 inside in omega (arith, at, same))

  met_after : map < length lengths → Meet maps lengths → n ≤ bytes_in maps map → Meet maps (set lengths map n)
  met_after inside met there m = elim (same_or_other m map) [
    | inl e ↦ (let same = get_or-set_same lengths map n 0 inside in subst (λ k. get_or (set lengths map n) k 0 ≤ bytes_in maps k) (sym e) (omega (arith, same, there)))
    | inr other ↦ (let at = met m in let same = get_or-set_other lengths map m n 0 other in omega (arith, at, same))
  ]

  pub raised : map < length lengths → get_or lengths map 0 < n → Meet maps (set lengths map n) ↔ (Meet maps lengths × (n ≤ bytes_in maps map))
  raised inside more = (λ met. (met_before inside more met, met_there inside met), λ h. met_after inside h.0 h.1)

  pub enough : n ≤ get_or lengths map 0 → Meet maps lengths ↔ (Meet maps lengths × (n ≤ bytes_in maps map))
  enough less = (λ met. (met, (let at = met map in omega (arith, at, less))), λ h. h.0)

-- lengths of sixteen maps
pub all_met : (maps : List MapShape) (lengths : List ℕ) → length lengths ≡ 16 → ((m : ℕ) → m < 16 → get_or lengths m 0 ≤ bytes_in maps m) → Meet maps lengths
all_met maps lengths size met m = elim (cases_lt m 16) [
  | inl below ↦ met m below
  | inr outside ↦ omega (arith, get_or_past lengths m 0 (omega (arith, outside, size)))
]
