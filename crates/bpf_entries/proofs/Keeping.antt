-- What fits: the longest beginning.
use Rattle.std.proofs.Common.{◌≡◌, ◌≤◌, ◌<◌, ◌-◌, ℕ, List, [], ◌∷◌, ◌++◌, refl, sym, ap, ◌∙◌, inl, inr, arith}
use Rattle.std.specs.Prelude.{sum_by}
use Rattle.std.proofs.lemmas.Bool.{cases_lt}
use Rattle.std.proofs.lemmas.Bool.Decides.{nat_tests}
use Rattle.std.proofs.lemmas.List.Sums.{sum_by-cons}
use Rattle.bpf_entries.specs.Keeping.{fit}

module _ {A : Type 0} (weigh : A → ℕ) where
  pub fit_in : (room : ℕ) (e : A) (es : List A) → weigh e ≤ room → fit weigh room (e ∷ es) ≡ e ∷ fit weigh (room - weigh e) es
  unfolding fit
  fit_in room e es h = grind (arith, nat_tests)

  pub fit_out : (room : ℕ) (e : A) (es : List A) → room < weigh e → fit weigh room (e ∷ es) ≡ []
  unfolding fit
  fit_out room e es h = grind (arith, nat_tests)

  pub fit_none : (room : ℕ) → fit weigh room [] ≡ []
  unfolding fit
  fit_none room = refl

  -- What weighs at most the room fits whole.
  pub fit_all : (room : ℕ) (es : List A) → sum_by weigh es ≤ room → fit weigh room es ≡ es
  fit_all room [] h = fit_none room
  fit_all room (e ∷ es) h =
      let sum = sum_by-cons weigh e es in
      let here : weigh e ≤ room = omega arith in
      fit_in room e es here ∙ ap (λ t. e ∷ t) (fit_all (room - weigh e) es (omega arith))

  -- The oldest of what weighs more than the room doesn't fit.
  pub fit_without_oldest : (room : ℕ) (es : List A) (z : A) → room < sum_by weigh (es ++ z ∷ []) → fit weigh room (es ++ z ∷ []) ≡ fit weigh room es
  fit_without_oldest room [] z h = fit_out room z [] (omega arith) ∙ sym (fit_none room)
  fit_without_oldest room (e ∷ es) z h = elim (cases_lt room (weigh e)) [
    | inl out ↦ fit_out room e (es ++ z ∷ []) out ∙ sym (fit_out room e es out)
    | inr here ↦
        let sum = sum_by-cons weigh e (es ++ z ∷ []) in
        let rest : room - weigh e < sum_by weigh (es ++ z ∷ []) = omega arith in
        fit_in room e (es ++ z ∷ []) here ∙ ap (λ t. e ∷ t) (fit_without_oldest (room - weigh e) es z rest) ∙ sym (fit_in room e es here)
  ]
