use Rattle.std.proofs.Math.ListN.{get_or}
use Rattle.std.proofs.Common.{◌≡◌, ◌≤◌, ◌+◌, ◌∙◌, ℕ, suc, List, [], ◌∷◌, map, Bool, true, false, not, inr, refl, sym, ap, subst, length, codes, take, arith}
use Rattle.std.specs.Borrow.{Bor}
use Rattle.std.proofs.lemmas.Slice.Eq.{bytes_eq-Decides}
use Rattle.bpfdb_cli.specs.Scaffolding.{AskAlike, IsHelp}
use Rattle.bpfdb_cli.proofs.planner.asked_of.Goals as goal

isnt_not : (b : Bool) → false ≡ not b → b ≡ true
isnt_not true e = refl
isnt_not false e = e

two_more : (at : ℕ) → suc (suc at) ≡ 2 + at
two_more at = omega arith

-- words of which the second is `help`, and the first ones of them
help_first : (words : List (Bor (List ℕ))) (at : ℕ) → 2 ≤ length words → (word : List ℕ) → word ≡ codes "help"
    → ((first second : Bor (List ℕ)) (rest : List (Bor (List ℕ))) → words ≡ first ∷ second ∷ rest → word ≡ second.now)
    → AskAlike (map (λ w. w.now) words) (map (λ w. w.now) (take (2 + at) words))
help_first [] at long word help second = absurd (omega arith)
help_first (first ∷ []) at long word help second = absurd (omega arith)
help_first (first ∷ next ∷ rest) at long word help second =
    let is = sym (second first next rest refl) ∙ help in
    inr (is, subst (λ (n : ℕ). IsHelp (map (λ (w : Bor (List ℕ)). w.now) (take n (first ∷ next ∷ rest)))) (two_more at) is)

pub returns-in-Some : goal.returns-in-Some
returns-in-Some c =
    let words = c.args.words.now in
    let word = (get_or words 1 record { ref_ptr = (0, 0); now = [] }).now in
    help_first words c.in-Some.at c.if-words-lt2.false word ((bytes_eq-Decides word (codes "help")).0 (isnt_not _ c.if-ne.ensures))
    (λ first second rest is. ap (λ (ws : List (Bor (List ℕ))). (get_or ws 1 record { ref_ptr = (0, 0); now = [] }).now) is)
