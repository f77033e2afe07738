-- The items of a list, one after the other: one more, and a fault, which stays.
use Rattle.std.proofs.Common.{◌≡◌, ◌<◌, ℕ, zero, suc, ◌+◌, ◌-◌, List, [], Result, Ok, Err, ap, subst, sym, ◌∙◌, arith, add-one, add-zero, add-suc, length, get_or}
use Rattle.std.proofs.lemmas.List.{get_or_default}
use Rattle.std.specs.Prelude.{slice_index_or}
use Rattle.bpf_opening.specs.Lists.{onward, opening_below, setting_in, with_item, with_setting}
use Rattle.bpf_opening.specs.declared.fault.OpeningFault.{OpeningFault}
use Rattle.bpf_opening.specs.declared.opening.Opening.{Opening}
use Rattle.bpf_opening.specs.declared.registers.Setting.{Setting}

module _ (items : List (List ℕ)) where
  pub one-more : (n : ℕ) (opening : Opening) (next : Result Opening OpeningFault) → opening_below items n ≡ Ok opening
      → with_item (slice_index_or items n []) opening ≡ next → opening_below items (n + 1) ≡ next
  one-more n opening next e h =
      ap (opening_below items) (add-one n) ∙ ap (λ r. onward r (with_item (slice_index_or items n []))) e ∙ h

  stays : (n k : ℕ) (fault : OpeningFault) → opening_below items n ≡ Err fault → opening_below items (n + k) ≡ Err fault
  stays n zero fault e = ap (opening_below items) (add-zero n) ∙ e
  stays n (suc k) fault e =
      ap (opening_below items) (add-suc n k) ∙ ap (λ r. onward r (with_item (slice_index_or items (n + k) []))) (stays n k fault e)

  pub fails : (n : ℕ) (opening : Opening) (fault : OpeningFault) → n < length items → opening_below items n ≡ Ok opening
      → with_item (slice_index_or items n []) opening ≡ Err fault → opening_below items (length items) ≡ Err fault
  fails n opening fault inside e h =
      let rest : (n + 1) + (length items - (n + 1)) ≡ length items = omega arith in
      subst (λ k. opening_below items k ≡ Err fault) rest (stays (n + 1) (length items - (n + 1)) fault (one-more n opening (Err fault) e h))

  -- the item at a place, as it was read
  pub at-place : (k : ℕ) (item : List ℕ) (opening : Opening) (r : Result Setting OpeningFault) → k < length items → item ≡ get_or items k item
      → r ≡ setting_in item → with_item (slice_index_or items k []) opening ≡ onward r (λ setting. with_setting setting opening)
  at-place k item opening r inside same is =
      let found : item ≡ get_or items k [] = same ∙ get_or_default items k item [] inside in
      ap (λ t. with_item t opening) (sym found) ∙ ap (λ x. onward x (λ setting. with_setting setting opening)) (sym is)
