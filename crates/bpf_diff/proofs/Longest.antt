-- As many first steps agree as can.
use Rattle.std.proofs.Common.{◌≡◌, ◌<◌, ℕ, zero, suc, Bool, true, false, List, [], ◌∷◌, get_or, refl, ap, ◌∙◌, arith, inl, inr}
use Rattle.bpf_steps.specs.State.{State}
use Rattle.bpf_diff.specs.Differences.{agreeing}
use Rattle.bpf_diff.specs.Laws.{AgreementsAreLongest, IsLongest}

module _ (test : State → State → Bool) (x y : State) (xs ys : List State) (rest : IsLongest test xs ys) where
  longer-each : test x y ≡ true → (k : ℕ) (d : State) → k < suc (agreeing test xs ys) → test (get_or (x ∷ xs) k d) (get_or (y ∷ ys) k d) ≡ true
  longer-each e zero d low = e
  longer-each e (suc k) d low = rest.each k d (omega (arith, low))

  longer : (b : Bool) → test x y ≡ b → IsLongest test (x ∷ xs) (y ∷ ys)
  longer false e =
      let none : agreeing test (x ∷ xs) (y ∷ ys) ≡ 0 = rw e refl in
      record {
        each = λ k d low. absurd (omega (arith, low, none));
        last = inr (inr (λ d. ap (λ (n : ℕ). test (get_or (x ∷ xs) n d) (get_or (y ∷ ys) n d)) none ∙ e));
      }
  longer true e =
      let more : agreeing test (x ∷ xs) (y ∷ ys) ≡ suc (agreeing test xs ys) = rw e refl in
      record {
        each = λ k d low. longer-each e k d (omega (arith, low, more));
        last = elim rest.last [
          | inl first ↦ inl (more ∙ ap suc first)
          | inr other ↦ elim other [
            | inl second ↦ inr (inl (more ∙ ap suc second))
            | inr differ ↦ inr (inr (λ d. ap (λ (n : ℕ). test (get_or (x ∷ xs) n d) (get_or (y ∷ ys) n d)) more ∙ differ d))
          ]
        ];
      }

pub law_longest : AgreementsAreLongest
law_longest test [] ys = record { each = λ k d low. absurd (omega (arith, low)); last = inl refl }
law_longest test (x ∷ xs) [] = record { each = λ k d low. absurd (omega (arith, low)); last = inr (inl refl) }
law_longest test (x ∷ xs) (y ∷ ys) = longer test x y xs ys (law_longest test xs ys) (test x y) refl
