-- Two runs that were compared.
use Rattle.std.proofs.Common.{◌≡◌, ◌+◌, ◌-◌, ◌≤◌, ℕ, Bool, true, false, length, sym, ap, ap₂, ◌∙◌, arith, inl, inr}
use Rattle.std.specs.Prelude.{◌⊎◌, ◌&&◌, ◌==◌}
use Rattle.bpf_steps.specs.Runs.{Advances, Steps}
use Rattle.bpf_steps.specs.State.{State}
use Rattle.bpf_session.specs.Plain.{plain_end}
use Rattle.bpf_trace.specs.Runs.{steps_of}
use Rattle.bpf_trace.specs.Traces.{end_line}
use Rattle.bpf_trace.proofs.Stepping.{Steps-none, Steps-Steps, whole_end, whole_run}
use Rattle.bpf_diff.specs.Alike.{same_slot}
use Rattle.bpf_diff.specs.Differences.{alike_for, are_same, ends_of, ends_text, first_parting, parting, together_for}
use Rattle.bpf_diff.specs.declared.texts.BothTexts.{BothTexts}
use Rattle.bpf_diff.specs.Ends.{same_end}
use Rattle.bpf_diff.specs.Following.{Along, Goes, GoesAlike, Parting, are_together}
use Rattle.bpf_diff.specs.declared.follow.Parted.{Parted}
use Rattle.bpf_diff.proofs.Following.{Along-all, Along-step, all-if-none, count_left, other-number, same-number, slots-apart, together-parts}
use Rattle.bpf_diff.proofs.Telling.{parting-behind}

-- none of the steps so far did otherwise
together-is : (limit n : ℕ) (x y a b : State) → Along same_slot limit x y a b n → (n ≡ limit) ⊎ (are_together a b ≡ false)
    → together_for (steps_of limit x) (steps_of limit y) ≡ n
together-is limit n x y a b g (inl all) = (Along-all same_slot limit x y a b n g (omega (arith, all))).agreed
together-is limit n x y a b g (inr isnt) = (slots-apart limit x y a b n g isnt).agreed

pub alike-none : (limit n : ℕ) (x y a b : State) → GoesAlike limit x y a b n → (n ≡ limit) ⊎ (are_together a b ≡ false)
    → true ≡ (alike_for (steps_of limit x) (steps_of limit y) == together_for (steps_of limit x) (steps_of limit y))
alike-none limit n x y a b g over = sym (same-number _ _ n g.alike.agreed (together-is limit n x y a b g.together over))

-- one did
module _ (limit n : ℕ) (x y a b : State) (parted : Parted) (g : Parting limit x y a b n parted) where
  pub along-some : Along same_slot limit x y a b (n + 1)
  along-some =
      rw (g.first.next, g.second.next)
      (Along-step same_slot limit x y g.p g.q n g.goes.together g.less g.both (together-parts g.p g.q g.both).2)

  pub alike-some : false ≡ (alike_for (steps_of limit x) (steps_of limit y) == together_for (steps_of limit x) (steps_of limit y))
  alike-some =
      let all = along-some.rest in
      sym (other-number _ _ n g.goes.alike.agreed (omega (arith, all)))

-- where both stand where they part, and what follows
module _ (limit n m c d : ℕ) (x y a b p q v w : State) (begun : Along same_slot limit x y a b n) (more : Goes same_slot (limit - n) a b p q m)
    (first : Advances (limit - (n + m)) p v c) (second : Advances (limit - (n + m)) q w d) where
  low : n + m ≤ limit
  low = let one = begun.within in let two = more.along.within in omega (arith, one, two)

  ones : Steps x p (n + m)
  ones = Steps-Steps x a p n m begun.first more.along.first

  twos : Steps y q (n + m)
  twos = Steps-Steps y b q n m begun.second more.along.second

  pub together-whole : together_for (steps_of limit x) (steps_of limit y) ≡ n + m
  together-whole = let one = begun.rest in let two = more.agreed in omega (arith, one, two)

  pub parting-whole : (texts : BothTexts) → first_parting texts (steps_of limit x) (steps_of limit y)
      ≡ parting texts (n + m + 1) (steps_of (limit - (n + m)) p) (steps_of (limit - (n + m)) q)
  parting-whole texts = parting-behind texts limit (n + m) x y p q ones twos low together-whole

  pub end-first : v ≡ plain_end limit x
  end-first =
      whole_end limit (n + m + 0 + c) x v
      (whole_run limit (n + m) 0 c (limit - (n + m)) x p p v ones (Steps-none p) (let l = low in omega (arith, l)) (omega arith) first)

  pub end-second : w ≡ plain_end limit y
  end-second =
      whole_end limit (n + m + 0 + d) y w
      (whole_run limit (n + m) 0 d (limit - (n + m)) y q q w twos (Steps-none q) (let l = low in omega (arith, l)) (omega arith) second)

  -- whether they are the same
  none-left : ((together_for (steps_of limit x) (steps_of limit y) == length (steps_of limit x))
      && (together_for (steps_of limit x) (steps_of limit y) == length (steps_of limit y)))
      ≡ ((length (steps_of (limit - (n + m)) p) == 0) && (length (steps_of (limit - (n + m)) q) == 0))
  none-left =
      let k = together_for (steps_of limit x) (steps_of limit y) in
      let e = together-whole in
      let one = count_left (n + m) limit x p ones low in
      let two = count_left (n + m) limit y q twos low in
      ap₂ (λ (s t : Bool). s && t) (all-if-none k _ _ (one ∙ ap (λ (i : ℕ). i + length (steps_of (limit - (n + m)) p)) (sym e)))
      (all-if-none k _ _ (two ∙ ap (λ (i : ℕ). i + length (steps_of (limit - (n + m)) q)) (sym e)))

  pub same-whole : (is_alike is_none ends : Bool)
      → is_alike ≡ (alike_for (steps_of limit x) (steps_of limit y) == together_for (steps_of limit x) (steps_of limit y))
      → is_none ≡ (length (steps_of (limit - (n + m)) p) == 0) && (length (steps_of (limit - (n + m)) q) == 0)
      → ends ≡ same_end v w → ((is_alike && is_none) && ends) ≡ are_same limit x y
  same-whole is_alike is_none ends e f g =
      ap₂ (λ (s t : Bool). s && t) (ap₂ (λ (s t : Bool). s && t) e (f ∙ sym none-left)) (g ∙ ap₂ same_end end-first end-second)

  -- how they end
  pub ends-whole : (same : Bool) → same ≡ are_same limit x y
      → ends_text same (n + m) (end_line limit v) (end_line limit w) ≡ ends_of limit x y
  ends-whole same e =
      ap (λ (s : Bool). ends_text s (n + m) (end_line limit v) (end_line limit w)) e
      ∙ ap (λ (k : ℕ). ends_text (are_same limit x y) k (end_line limit v) (end_line limit w)) (sym together-whole)
      ∙ ap₂ (λ (s t : State). ends_text (are_same limit x y) (together_for (steps_of limit x) (steps_of limit y)) (end_line limit s) (end_line limit t))
      end-first end-second
