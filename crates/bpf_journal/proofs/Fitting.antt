-- What fits: the longest beginning, and what new ones and dropped ones make of it.
use Rattle.std.proofs.Common.{◌≡◌, ◌≤◌, ◌<◌, ◌-◌, ℕ, List, [], ◌∷◌, ◌++◌, map, refl, sym, ap, ◌∙◌, subst, inl, inr, arith}
use Rattle.std.specs.Prelude.{sum_by}
use Rattle.std.proofs.lemmas.Bool.{cases_lt}
use Rattle.std.proofs.lemmas.List.Sums.{sum_by-cons}
use Rattle.bpf_steps.specs.State.{State}
use Rattle.bpf_entries.specs.Keeping.{fit, keep}
use Rattle.bpf_entries.proofs.Keeping.{fit_in, fit_out, fit_none}
use Rattle.bpf_journal.specs.Histories.{Record, IsRun, record_weight}
use Rattle.bpf_journal.specs.Laws.{IsLongest}

module _ {A : Type 0} (weigh : A → ℕ) where
  -- It is the longest beginning within the room.
  none_longer : (room : ℕ) (e : A) (es : List A) → room < weigh e → (f : A) (more : List A) → (e ∷ es) ≡ f ∷ more → room < sum_by weigh ([] ++ f ∷ [])
  none_longer room e es h f more q =
      let same : e ≡ f = cc in
      let weight : weigh e ≡ weigh f = ap weigh same in
      omega arith

  one_longer : (room : ℕ) (e f : A) (es : List A) → weigh e ≤ room → room - weigh e < sum_by weigh (es ++ f ∷ []) → room < sum_by weigh ((e ∷ es) ++ f ∷ [])
  one_longer room e f es h l = omega (arith, sum_by-cons weigh e (es ++ f ∷ []))

  pub longest : (room : ℕ) (es : List A) → IsLongest weigh room es (fit weigh room es)
  longest room [] = subst (IsLongest weigh room []) (sym (fit_none weigh room)) (record { rest = []; whole = refl; within = omega arith; longest = λ e more q. absurd cc })
  longest room (e ∷ es) = elim (cases_lt room (weigh e)) [
    | inl h ↦ subst (IsLongest weigh room (e ∷ es)) (sym (fit_out weigh room e es h)) (record { rest = e ∷ es; whole = refl; within = omega arith; longest = none_longer room e es h })
    | inr h ↦
        let i = longest (room - weigh e) es in
        let front = fit weigh (room - weigh e) es in
        subst (IsLongest weigh room (e ∷ es)) (sym (fit_in weigh room e es h)) (record {
          rest = i.rest;
          whole = ap (λ t. e ∷ t) i.whole;
          within = omega (arith, sum_by-cons weigh e front, i.within);
          longest = λ f more q. one_longer room e f front h (i.longest f more q);
        })
  ]

  pub fit_within : (room : ℕ) (es : List A) → sum_by weigh (fit weigh room es) ≤ room
  fit_within room es = (longest room es).within

  -- What fits in less room, of what fits in more.
  pub fit_fit : (less room : ℕ) (es : List A) → less ≤ room → fit weigh less (fit weigh room es) ≡ fit weigh less es
  fit_fit less room [] h = ap (fit weigh less) (fit_none weigh room)
  fit_fit less room (e ∷ es) h = elim (cases_lt less (weigh e)) [
    | inl small ↦ elim (cases_lt room (weigh e)) [
      | inl out ↦ ap (fit weigh less) (fit_out weigh room e es out) ∙ fit_none weigh less ∙ sym (fit_out weigh less e es small)
      | inr within ↦ ap (fit weigh less) (fit_in weigh room e es within) ∙ fit_out weigh less e (fit weigh (room - weigh e) es) small ∙ sym (fit_out weigh less e es small)
    ]
    | inr here ↦
        let within : weigh e ≤ room = omega arith in
        let rest : less - weigh e ≤ room - weigh e = omega arith in
        ap (fit weigh less) (fit_in weigh room e es within)
        ∙ fit_in weigh less e (fit weigh (room - weigh e) es) here
        ∙ ap (λ t. e ∷ t) (fit_fit (less - weigh e) (room - weigh e) es rest)
        ∙ sym (fit_in weigh less e es here)
  ]

  -- What was dropped before makes no difference.
  pub keep_fit : (room : ℕ) (es : List A) (e : A) → keep weigh room (fit weigh room es) e ≡ keep weigh room es e
  keep_fit room es e = elim (cases_lt room (weigh e)) [
    | inl out ↦ fit_out weigh room e (fit weigh room es) out ∙ sym (fit_out weigh room e es out)
    | inr here ↦
        let rest : room - weigh e ≤ room = omega arith in
        fit_in weigh room e (fit weigh room es) here ∙ ap (λ t. e ∷ t) (fit_fit (room - weigh e) room es rest) ∙ sym (fit_in weigh room e es here)
  ]

-- What fits of the images is the image of what fits.
pub map-fit : {A B : Type 0} (f : A → B) (weigh : B → ℕ) (room : ℕ) (es : List A) → map f (fit (λ a. weigh (f a)) room es) ≡ fit weigh room (map f es)
map-fit f weigh room [] = ap (map f) (fit_none (λ a. weigh (f a)) room) ∙ sym (fit_none weigh room)
map-fit f weigh room (e ∷ es) = elim (cases_lt room (weigh (f e))) [
  | inl out ↦ ap (map f) (fit_out (λ a. weigh (f a)) room e es out) ∙ sym (fit_out weigh room (f e) (map f es) out)
  | inr here ↦
      ap (map f) (fit_in (λ a. weigh (f a)) room e es here)
      ∙ ap (λ t. f e ∷ t) (map-fit f weigh (room - weigh (f e)) es)
      ∙ sym (fit_in weigh room (f e) (map f es) here)
]

-- A beginning of a run is a run.
pub run-fit : (room : ℕ) (h : List Record) (y : State) → IsRun h y → IsRun (fit record_weight room h) y
run-fit room [] y run = subst (λ (t : List Record). IsRun t y) (sym (fit_none record_weight room)) tt
run-fit room (r ∷ h) y run = elim (cases_lt room (record_weight r)) [
  | inl out ↦ subst (λ (t : List Record). IsRun t y) (sym (fit_out record_weight room r h out)) tt
  | inr here ↦ subst (λ (t : List Record). IsRun t y) (sym (fit_in record_weight room r h here)) (run.0, run-fit (room - record_weight r) h r.before run.1)
]
