-- The texts of the steps at which two runs differ.
use Rattle.std.proofs.Common.{◌≡◌, ◌+◌, ◌-◌, ◌<◌, ◌≤◌, ℕ, zero, suc, Bool, true, false, not, List, [], ◌∷◌, ◌++◌, codes, append_assoc, length, refl, subst, Option, Result, sym, ap, ap₂, ◌∙◌, arith, inl, inr}
use Rattle.std.specs.Prelude.{◌⊎◌, ◌&&◌, ◌==◌, if◌then◌else◌, drop}
use Rattle.std.proofs.lemmas.List.{append-nil}
use Rattle.counted_io.specs.Counted.{Tally}
use Rattle.counted_io.specs.Writing.{Writes, WritesAfter}
use Rattle.bpf_entries.specs.Status.{has_ended}
use Rattle.bpf_steps.specs.Next.{next}
use Rattle.bpf_steps.specs.Runs.{Steps}
use Rattle.bpf_steps.specs.State.{State}
use Rattle.bpf_trace.specs.Runs.{steps_of}
use Rattle.bpf_trace.specs.Traces.{step_line}
use Rattle.bpf_trace.proofs.Stepping.{drop_steps, none_left, one_more_step}
use Rattle.bpf_diff.specs.Alike.{same_slot}
use Rattle.bpf_diff.specs.Differences.{alike_for, ends_text, first_otherwise, first_parting, heading, otherwise, parting, side, together_for}
use Rattle.bpf_diff.specs.Following.{GoesAlike, Parting, are_together}
use Rattle.bpf_diff.specs.declared.follow.Parted.{Parted}
use Rattle.bpf_diff.specs.declared.texts.BothTexts.{BothTexts}
use Rattle.bpfdb_script.specs.SlotTexts.{SlotTexts, text_of_slot}
use Rattle.bpf_diff.proofs.Following.{together-parts}

-- nothing where no step of both stands at one slot
otherwise-if : (texts : BothTexts) (k : ℕ) (p q : Bool) (a b : State) (us vs : List State) → (not p && (not q && same_slot a b)) ≡ false
    → otherwise texts k (if p then [] else a ∷ us) (if q then [] else b ∷ vs) ≡ []
otherwise-if texts k true q a b us vs isnt = refl
otherwise-if texts k false true a b us vs isnt = refl
otherwise-if texts k false false a b us vs isnt = rw isnt refl

otherwise-apart : (texts : BothTexts) (k m : ℕ) (a b : State) → are_together a b ≡ false → otherwise texts k (steps_of m a) (steps_of m b) ≡ []
otherwise-apart texts k zero a b isnt = refl
otherwise-apart texts k (suc m) a b isnt =
    otherwise-if texts k (has_ended a.status) (has_ended b.status) a b (steps_of m (next a)) (steps_of m (next b)) isnt

otherwise-none : (texts : BothTexts) (k limit n : ℕ) (a b : State) → (n ≡ limit) ⊎ (are_together a b ≡ false)
    → otherwise texts k (steps_of (limit - n) a) (steps_of (limit - n) b) ≡ []
otherwise-none texts k limit n a b (inl all) =
    let e : limit - n ≡ 0 = omega (arith, all) in
    ap (λ (xs : List State). otherwise texts k xs (steps_of (limit - n) b)) (none_left (limit - n) a e)
otherwise-none texts k limit n a b (inr isnt) = otherwise-apart texts k (limit - n) a b isnt

-- what is left behind so many steps
module _ (texts : BothTexts) (limit n : ℕ) (x y a b : State) (s : Steps x a n) (t : Steps y b n) (within : n ≤ limit) where
  pub otherwise-behind : alike_for (steps_of limit x) (steps_of limit y) ≡ n
      → first_otherwise texts (steps_of limit x) (steps_of limit y) ≡ otherwise texts (n + 1) (steps_of (limit - n) a) (steps_of (limit - n) b)
  otherwise-behind e =
      ap (λ (m : ℕ). otherwise texts (m + 1) (drop m (steps_of limit x)) (drop m (steps_of limit y))) e
      ∙ ap₂ (otherwise texts (n + 1)) (drop_steps n limit x a s within) (drop_steps n limit y b t within)

  pub parting-behind : together_for (steps_of limit x) (steps_of limit y) ≡ n
      → first_parting texts (steps_of limit x) (steps_of limit y) ≡ parting texts (n + 1) (steps_of (limit - n) a) (steps_of (limit - n) b)
  parting-behind e =
      ap (λ (m : ℕ). parting texts (m + 1) (drop m (steps_of limit x)) (drop m (steps_of limit y))) e
      ∙ ap₂ (parting texts (n + 1)) (drop_steps n limit x a s within) (drop_steps n limit y b t within)

pub begun-none : (texts : BothTexts) (limit n : ℕ) (x y a b : State) → GoesAlike limit x y a b n → (n ≡ limit) ⊎ (are_together a b ≡ false)
    → [] ≡ first_otherwise texts (steps_of limit x) (steps_of limit y)
begun-none texts limit n x y a b g over =
    let along = g.alike.along in
    sym (otherwise-behind texts limit n x y a b along.first along.second along.within g.alike.agreed ∙ otherwise-none texts (n + 1) limit n a b over)

-- the step of both
both-lines : (texts : BothTexts) (k : ℕ) (p q : State) (ps qs : List State) → same_slot p q ≡ true
    → otherwise texts k (p ∷ ps) (q ∷ qs)
    ≡ heading k (codes " wrote otherwise\n")
    ++ ((codes "< " ++ step_line (text_of_slot texts.first p.pc) k p) ++ (codes "> " ++ step_line (text_of_slot texts.second q.pc) k q))
both-lines texts k p q ps qs is = rw is refl

pub begun-some : (texts : BothTexts) (limit n : ℕ) (x y a b : State) (parted : Parted) (g : Parting limit x y a b n parted)
    → heading (n + 1) (codes " wrote otherwise\n")
    ++ ((codes "< " ++ step_line (text_of_slot texts.first g.p.pc) (n + 1) g.p) ++ (codes "> " ++ step_line (text_of_slot texts.second g.q.pc) (n + 1) g.q))
    ≡ first_otherwise texts (steps_of limit x) (steps_of limit y)
begun-some texts limit n x y a b parted g =
    let along = g.goes.alike.along in
    let parts = together-parts g.p g.q g.both in
    let less = g.less in
    let e : limit - n ≡ suc (limit - (n + 1)) = omega (arith, less) in
    sym (
    otherwise-behind texts limit n x y g.p g.q along.first along.second along.within g.goes.alike.agreed
    ∙ ap₂ (otherwise texts (n + 1)) (one_more_step (limit - n) (limit - (n + 1)) g.p e parts.0) (one_more_step (limit - n) (limit - (n + 1)) g.q e parts.1)
    ∙ both-lines texts (n + 1) g.p g.q (steps_of (limit - (n + 1)) (next g.p)) (steps_of (limit - (n + 1)) (next g.q)) parts.2
    )

-- the next step of a run, if it takes one
side-if : (mark : List ℕ) (texts : SlotTexts) (k : ℕ) (p : Bool) (x : State) (us : List State) → not (length (if p then [] else x ∷ us) == 0) ≡ true
    → mark ++ step_line (text_of_slot texts x.pc) k x ≡ side mark texts k (if p then [] else x ∷ us)
side-if mark texts k true x us e = absurd cc
side-if mark texts k false x us e = refl

pub side-there : (mark : List ℕ) (texts : SlotTexts) (k left : ℕ) (x : State) → not (length (steps_of left x) == 0) ≡ true
    → mark ++ step_line (text_of_slot texts x.pc) k x ≡ side mark texts k (steps_of left x)
side-there mark texts k zero x e = absurd cc
side-there mark texts k (suc left) x e = side-if mark texts k (has_ended x.status) x (steps_of left (next x)) e

goes-if : (p : Bool) (x : State) (us : List State) → not (length (if p then [] else x ∷ us) == 0) ≡ true → p ≡ false
goes-if true x us e = absurd cc
goes-if false x us e = refl

pub goes-on : (left : ℕ) (x : State) → not (length (steps_of left x) == 0) ≡ true → (has_ended x.status ≡ false) × (0 < left)
goes-on zero x e = absurd cc
goes-on (suc left) x e = (goes-if (has_ended x.status) x (steps_of left (next x)) e, omega arith)

-- how two runs end that part
pub apart-text : (n : ℕ) (end other : List ℕ) → ((codes "< " ++ end) ++ codes "> ") ++ other ≡ ends_text false n end other
apart-text n end other = append_assoc (codes "< " ++ end) (codes "> ") other

-- no text
pub nothing-more : {W A E : Type 0} (contents : W → Option (List ℕ)) (old : Tally W) (before : Result A E) (text : List ℕ) → [] ≡ text
    → WritesAfter contents old before old before text
nothing-more contents old before text e = λ first front known.
    subst (Writes contents first old before) (sym (append-nil front) ∙ ap (λ (t : List ℕ). front ++ t) e) known
