-- A strict run, step by step.
use Rattle.std.proofs.Common.{◌≡◌, ◌+◌, ◌-◌, ◌<◌, ℕ, suc, Bool, true, false, List, [], ◌∷◌, Option, Some, None, length, refl, sym, ap, ◌∙◌, arith}
use Rattle.std.specs.Option.{option_map_or}
use Rattle.bpf_entries.specs.Status.{has_ended}
use Rattle.bpf_steps.specs.Next.{next}
use Rattle.bpf_steps.specs.State.{State}
use Rattle.bpf_trace.specs.Runs.{steps_of}
use Rattle.bpf_trace.proofs.Stepping.{next-program, none_ended, none_left, one_more_step}
use Rattle.bpf_trace.specs.Marks.{IsMarked}
use Rattle.bpf_trace.specs.Written.{read_unwritten, unwritten_among, unwritten_of}
use Rattle.bpf_trace.specs.OwnCode.{call_of}
use Rattle.bpf_trace.specs.declared.own_code.OwnCode.{OwnCode}
use Rattle.bpf_trace.specs.declared.strict_run.Unwritten.{Unwritten}

-- so many steps were taken, none of which reads where nothing was written
pub record Follows (own : OwnCode) (limit : ℕ) (x y : State) (k : ℕ) (marks : List Bool) : Type 0 where
  pub before : List State
  pub count : length before ≡ k
  pub marked : IsMarked before marks
  pub same : y.program ≡ x.program
  pub rest : unwritten_among own before (steps_of (limit - k) y) ≡ unwritten_of own limit x

abbrev read-at : OwnCode → ℕ → State → ℕ → Option Unwritten
read-at own k y a = Some (record { steps = k; slot = y.pc; address = a; call = call_of own y })

abbrev told-by : OwnCode → List State → State → Option Unwritten → Option ℕ → Option Unwritten
told-by own before y rest o = option_map_or (read-at own (length before) y) o rest

module _ (own : OwnCode) (limit : ℕ) (x : State) where
  pub Follows-start : (marks : List Bool) → IsMarked [] marks → Follows own limit x x 0 marks
  Follows-start marks m = record {
    before = [];
    count = refl;
    marked = m;
    same = refl;
    rest = let all : limit - 0 ≡ limit = omega arith in ap (λ (n : ℕ). unwritten_among own [] (steps_of n x)) all;
  }

  module _ (y : State) (k : ℕ) (marks : List Bool) (f : Follows own limit x y k marks) where
    one-step : k < limit → has_ended y.status ≡ false
        → unwritten_among own f.before (steps_of (limit - k) y)
        ≡ told-by own f.before y (unwritten_among own (y ∷ f.before) (steps_of (limit - (k + 1)) (next y))) (read_unwritten f.before y)
    one-step low on =
        let left : limit - k ≡ suc (limit - (k + 1)) = omega (arith, low) in
        ap (unwritten_among own f.before) (one_more_step (limit - k) (limit - (k + 1)) y left on)

    pub Follows-step : (new : List Bool) → k < limit → has_ended y.status ≡ false → None ≡ read_unwritten f.before y → IsMarked (y ∷ f.before) new
        → Follows own limit x (next y) (k + 1) new
    Follows-step new low on none m = record {
      before = y ∷ f.before;
      count = omega (arith, f.count);
      marked = m;
      same = next-program y ∙ f.same;
      rest =
          ap (told-by own f.before y (unwritten_among own (y ∷ f.before) (steps_of (limit - (k + 1)) (next y)))) none
          ∙ sym (one-step low on) ∙ f.rest;
    }

    pub Follows-read : (a : ℕ) → k < limit → has_ended y.status ≡ false → Some a ≡ read_unwritten f.before y
        → read-at own k y a ≡ unwritten_of own limit x
    Follows-read a low on is =
        ap (λ (n : ℕ). read-at own n y a) (sym f.count)
        ∙ ap (told-by own f.before y (unwritten_among own (y ∷ f.before) (steps_of (limit - (k + 1)) (next y)))) is
        ∙ sym (one-step low on) ∙ f.rest

    pub Follows-ended : has_ended y.status ≡ true → None ≡ unwritten_of own limit x
    Follows-ended over = ap (unwritten_among own f.before) (sym (none_ended (limit - k) y over)) ∙ f.rest

    pub Follows-all : k ≡ limit → None ≡ unwritten_of own limit x
    Follows-all all =
        let e : limit - k ≡ 0 = omega (arith, all) in
        ap (unwritten_among own f.before) (sym (none_left (limit - k) y e)) ∙ f.rest
