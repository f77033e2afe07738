-- The values in which two runs differ.
use Rattle.std.proofs.Common.{◌≡◌, ◌+◌, ◌-◌, ◌≤◌, ℕ, zero, suc, Bool, true, false, not, List, [], ◌∷◌, Option, Some, None, refl, sym, ap, ap₂, ◌∙◌, arith, inl, inr}
use Rattle.std.specs.Prelude.{◌⊎◌, ◌&&◌, drop, if◌then◌else◌, option_map}
use Rattle.bpf_entries.specs.Status.{has_ended}
use Rattle.bpf_origin.specs.declared.place.Place.{Place}
use Rattle.bpf_steps.specs.Next.{next}
use Rattle.bpf_steps.specs.Runs.{Advances, Steps}
use Rattle.bpf_steps.specs.State.{State}
use Rattle.bpf_session.specs.Plain.{plain_end}
use Rattle.bpf_trace.specs.Runs.{steps_of}
use Rattle.bpf_trace.proofs.Stepping.{drop_steps, none_left, one_more_step, whole_end}
use Rattle.bpf_diff.specs.Alike.{same_slot, wrote}
use Rattle.bpf_diff.specs.Differences.{alike_for}
use Rattle.bpf_diff.specs.Following.{GoesAlike, Parting, are_together}
use Rattle.bpf_diff.specs.Outputs.{last_write}
use Rattle.bpf_diff.specs.Seen.{first_place, seen}
use Rattle.bpf_diff.specs.Values.{Pair, Value, value_left, values_between, values_by, values_left, values_of_steps}
use Rattle.bpf_diff.specs.declared.follow.Parted.{Parted}
use Rattle.bpf_diff.proofs.Following.{together-parts}

-- none where no step of both stands at one slot
values-if : (k : ℕ) (p q : Bool) (a b : State) (us vs : List State) → (not p && (not q && same_slot a b)) ≡ false
    → values_by k (if p then [] else a ∷ us) (if q then [] else b ∷ vs) ≡ None
values-if k true q a b us vs isnt = refl
values-if k false true a b us vs isnt = refl
values-if k false false a b us vs isnt = rw isnt refl

values-apart : (k m : ℕ) (a b : State) → are_together a b ≡ false → values_by k (steps_of m a) (steps_of m b) ≡ None
values-apart k zero a b isnt = refl
values-apart k (suc m) a b isnt =
    values-if k (has_ended a.status) (has_ended b.status) a b (steps_of m (next a)) (steps_of m (next b)) isnt

values-none : (k limit n : ℕ) (a b : State) → (n ≡ limit) ⊎ (are_together a b ≡ false)
    → values_by k (steps_of (limit - n) a) (steps_of (limit - n) b) ≡ None
values-none k limit n a b (inl all) =
    let e : limit - n ≡ 0 = omega (arith, all) in
    ap (λ (xs : List State). values_by k xs (steps_of (limit - n) b)) (none_left (limit - n) a e)
values-none k limit n a b (inr isnt) = values-apart k (limit - n) a b isnt

values-behind : (limit n : ℕ) (x y a b : State) → Steps x a n → Steps y b n → n ≤ limit
    → alike_for (steps_of limit x) (steps_of limit y) ≡ n
    → values_of_steps (steps_of limit x) (steps_of limit y) ≡ values_by (n + 1) (steps_of (limit - n) a) (steps_of (limit - n) b)
values-behind limit n x y a b s t within e =
    ap (λ (m : ℕ). values_by (m + 1) (drop m (steps_of limit x)) (drop m (steps_of limit y))) e
    ∙ ap₂ (values_by (n + 1)) (drop_steps n limit x a s within) (drop_steps n limit y b t within)

pub no-values : (limit n : ℕ) (x y a b : State) → GoesAlike limit x y a b n → (n ≡ limit) ⊎ (are_together a b ≡ false)
    → None ≡ values_of_steps (steps_of limit x) (steps_of limit y)
no-values limit n x y a b g over =
    let along = g.alike.along in
    sym (values-behind limit n x y a b along.first along.second along.within g.alike.agreed ∙ values-none (n + 1) limit n a b over)

-- what the step of both wrote
both-values : (k : ℕ) (p q : State) (ps qs : List State) → same_slot p q ≡ true
    → values_by k (p ∷ ps) (q ∷ qs) ≡ Some (record { steps = k; parts = wrote p }, record { steps = k; parts = wrote q })
both-values k p q ps qs is = rw is refl

pub some-values : (limit n : ℕ) (x y a b : State) (parted : Parted) (g : Parting limit x y a b n parted)
    → Some (record { steps = n + 1; parts = wrote g.p }, record { steps = n + 1; parts = wrote g.q })
    ≡ values_of_steps (steps_of limit x) (steps_of limit y)
some-values limit n x y a b parted g =
    let along = g.goes.alike.along in
    let parts = together-parts g.p g.q g.both in
    let less = g.less in
    let e : limit - n ≡ suc (limit - (n + 1)) = omega (arith, less) in
    sym (
    values-behind limit n x y g.p g.q along.first along.second along.within g.goes.alike.agreed
    ∙ ap₂ (values_by (n + 1)) (one_more_step (limit - n) (limit - (n + 1)) g.p e parts.0) (one_more_step (limit - n) (limit - (n + 1)) g.q e parts.1)
    ∙ both-values (n + 1) g.p g.q (steps_of (limit - (n + 1)) (next g.p)) (steps_of (limit - (n + 1)) (next g.q)) parts.2
    )

-- and those at a place at which the runs end otherwise
module _ (limit n m : ℕ) (x y z w : State) (first : Advances limit x z n) (second : Advances limit y w m) (c d : List ℕ) where
  abbrev between : State → State → Option Pair
  between a b = values_between c d (steps_of limit x) (steps_of limit y) a b

  ends : between z w ≡ between (plain_end limit x) (plain_end limit y)
  ends = ap₂ between (whole_end limit n x z first) (whole_end limit m y w second)

  pub none-left-otherwise : None ≡ first_place c d z w → None ≡ between (plain_end limit x) (plain_end limit y)
  none-left-otherwise none =
      ap (λ (o : Option Place). option_map (values_left (steps_of limit x) (steps_of limit y) z w) o) none ∙ ends

  pub some-left-otherwise : (p : Place) → Some p ≡ first_place c d z w
      → Some (values_left (steps_of limit x) (steps_of limit y) z w p) ≡ between (plain_end limit x) (plain_end limit y)
  some-left-otherwise p some =
      ap (λ (o : Option Place). option_map (values_left (steps_of limit x) (steps_of limit y) z w) o) some ∙ ends

-- what was found there
pub left-is : (p : Place) (v : Option ℕ) (n : ℕ) (x : State) (xs : List State) (value : Value) → value ≡ value_left p v n → v ≡ seen x p
    → n ≡ last_write p xs → value ≡ value_left p (seen x p) (last_write p xs)
left-is p v n x xs value e is of = e ∙ ap₂ (value_left p) is of
