-- Lines of calls that are written a part a step.
use Rattle.std.proofs.Common.{◌≡◌, ◌+◌, ◌-◌, ◌<◌, ◌≤◌, ℕ, zero, suc, Bool, true, false, List, [], ◌++◌, Option, Some, None, Result, Ok, Err, sym, ap, ◌∙◌, refl, arith, append_assoc, codes}
use Rattle.std.specs.Prelude.{IfSome, if◌then◌else◌, not, ◌&&◌, ◌==◌}
use Rattle.std.proofs.lemmas.List.{append-nil}
use Rattle.hex.specs.Hex.{encode_lower}
use Rattle.bpf_steps.specs.Regions.{is_from_frame, run_at}
use Rattle.counted_io.specs.Counted.{Tally}
use Rattle.counted_io.specs.Writing.{WritesAfter}
use Rattle.bpf_entries.specs.Status.{has_ended}
use Rattle.bpf_steps.specs.Next.{next}
use Rattle.bpf_steps.specs.Runs.{Steps}
use Rattle.bpf_steps.specs.State.{State, depth, register}
use Rattle.bpf_session.specs.Plain.{plain_end}
use Rattle.bpf_trace.proofs.Stepping.{whole_end}
use Rattle.bpfdb_script.proofs.Telling.{Telling, Telling-start, Telling-step, Telling-end}
use Rattle.bpf_trace.specs.Calls.{behind_text, call_text, callee_of, calls_from, has_returned, line_if, made, pending_by, result_of, return_text, still_pending}
use Rattle.bpf_trace.specs.Turns.{IsWaiting, begun_if, end_if, made_text, rest, turn_text, unreturned, waiting}
use Rattle.bpf_trace.specs.declared.calls.Called.{Called}
use Rattle.bpf_trace.specs.declared.calls.Callee.{Callee}
use Rattle.bpf_trace.specs.declared.calls.Pending.{Pending}

-- one that has ended has returned to nobody
unreturned-ended : (d : ℕ) (y : State) → has_ended y.status ≡ true → has_returned d y ≡ false
unfolding has_returned
unreturned-ended d y over = rw over refl

-- what a call comes to, where it has returned, and where it hasn't
result-now : (d limit : ℕ) (y : State) → has_returned d y ≡ true → result_of d limit y ≡ Some (register y 0)
result-now d zero y is = rw is refl
result-now d (suc limit) y is = rw is refl

result-later : (d limit : ℕ) (y : State) → has_returned d y ≡ false → has_ended y.status ≡ false → result_of d (suc limit) y ≡ result_of d limit (next y)
result-later d limit y isnt on = rw (isnt, on) refl

result-never : (d limit : ℕ) (y : State) → has_returned d y ≡ false → has_ended y.status ≡ true → result_of d limit y ≡ None
result-never d zero y isnt over = rw isnt refl
result-never d (suc limit) y isnt over = rw (isnt, over) refl

result-none : (d : ℕ) (y : State) → has_returned d y ≡ false → result_of d 0 y ≡ None
result-none d y isnt = rw isnt refl

-- behind a step none that has returned is pending
left-waiting : (o : Pending) (y : State) (b : Bool) → has_returned o.depth y ≡ b → IsWaiting (if b then None else Some o) y
left-waiting o y true is = tt
left-waiting o y false is = is

pub still-waiting : (pending : Option Pending) (y : State) → IsWaiting (still_pending pending y) y
still-waiting None y = tt
still-waiting (Some o) y = left-waiting o y (has_returned o.depth y) refl

-- the end of a line, where it comes
ends-by : (c : Called) (o : Pending) (k limit : ℕ) (y : State) (b : Bool) → has_returned o.depth y ≡ b
    → return_text c o.slot (result_of o.depth limit y) ++ calls_from c (if b then None else Some o) k limit y
    ≡ (if b then return_text c o.slot (Some (register y 0)) else []) ++ (waiting c (if b then None else Some o) limit y ++ calls_from c (if b then None else Some o) k limit y)
ends-by c o k limit y true is = ap (λ (r : Option ℕ). return_text c o.slot r ++ calls_from c None k limit y) (result-now o.depth limit y is)
ends-by c o k limit y false is = refl

pub ends : (c : Called) (o : Pending) (k limit : ℕ) (y : State)
    → return_text c o.slot (result_of o.depth limit y) ++ calls_from c (still_pending (Some o) y) k limit y
    ≡ end_if c o y ++ rest c (still_pending (Some o) y) k limit y
ends c o k limit y = ends-by c o k limit y (has_returned o.depth y) refl

-- one step of the definition
one-from : (c : Called) (pending : Option Pending) (k limit : ℕ) (y : State) → has_ended y.status ≡ false
    → calls_from c pending k (suc limit) y
    ≡ line_if c pending k limit y ++ calls_from c (still_pending (pending_by c pending y) (next y)) (k + 1) limit (next y)
one-from c pending k limit y on = rw on refl

-- where none is pending, by what the step calls
begins : (c : Called) (k limit : ℕ) (y : State) (callee : Option Callee) → callee_of c y ≡ callee → has_ended y.status ≡ false
    → rest c None k (suc limit) y ≡ turn_text c None k y ++ rest c (still_pending (pending_by c None y) (next y)) (k + 1) limit (next y)
begins c k limit y None is on = one-from c None k limit y on ∙ rw is refl
begins c k limit y (Some callee) is on =
    let o = made y callee in
    let head = call_text c k y callee in
    one-from c None k limit y on
    ∙ rw is (
    append_assoc head (return_text c o.slot (result_of o.depth limit (next y))) (calls_from c (still_pending (Some o) (next y)) (k + 1) limit (next y))
    ∙ ap (λ (t : List ℕ). head ++ t) (ends c o (k + 1) limit (next y))
    ∙ sym (append_assoc head (end_if c o (next y)) (rest c (still_pending (Some o) (next y)) (k + 1) limit (next y)))
    )

-- what a call writes
pub turn-begins : (c : Called) (k : ℕ) (x : State) (callee : Callee) → callee_of c x ≡ Some callee → made_text c k x callee ≡ turn_text c None k x
unfolding made_text
turn-begins c k x callee is = rw is refl

-- what a step writes, and what is left then
pub turns : (c : Called) (pending : Option Pending) (k limit : ℕ) (y : State) → IsWaiting pending y → has_ended y.status ≡ false
    → rest c pending k (suc limit) y ≡ turn_text c pending k y ++ rest c (still_pending (pending_by c pending y) (next y)) (k + 1) limit (next y)
turns c None k limit y waits on = begins c k limit y (callee_of c y) refl on
turns c (Some o) k limit y waits on =
    ap (λ (r : Option ℕ). return_text c o.slot r ++ calls_from c (Some o) k (suc limit) y) (result-later o.depth limit y waits on)
    ∙ ap (λ (t : List ℕ). return_text c o.slot (result_of o.depth limit (next y)) ++ t) (one-from c (Some o) k limit y on)
    ∙ ends c o (k + 1) limit (next y)

-- what is left at the end
waiting-ended : (c : Called) (pending : Option Pending) (limit : ℕ) (y : State) → IsWaiting pending y → has_ended y.status ≡ true
    → waiting c pending limit y ≡ unreturned c pending
waiting-ended c None limit y waits over = refl
waiting-ended c (Some o) limit y waits over = ap (return_text c o.slot) (result-never o.depth limit y waits over)

waiting-none : (c : Called) (pending : Option Pending) (y : State) → IsWaiting pending y → waiting c pending 0 y ≡ unreturned c pending
waiting-none c None y waits = refl
waiting-none c (Some o) y waits = ap (return_text c o.slot) (result-none o.depth y waits)

none-from : (c : Called) (pending : Option Pending) (k limit : ℕ) (y : State) → has_ended y.status ≡ true → calls_from c pending k limit y ≡ []
none-from c pending k zero y over = refl
none-from c pending k (suc limit) y over = rw over refl

pub rest-ended : (c : Called) (pending : Option Pending) (k limit : ℕ) (y : State) → IsWaiting pending y → has_ended y.status ≡ true
    → rest c pending k limit y ≡ unreturned c pending
rest-ended c pending k limit y waits over =
    ap (λ (t : List ℕ). waiting c pending limit y ++ t) (none-from c pending k limit y over)
    ∙ append-nil (waiting c pending limit y) ∙ waiting-ended c pending limit y waits over

pub rest-none : (c : Called) (pending : Option Pending) (k : ℕ) (y : State) → IsWaiting pending y → rest c pending k 0 y ≡ unreturned c pending
rest-none c pending k y waits = append-nil (waiting c pending 0 y) ∙ waiting-none c pending y waits

module _ {W A E : Type 0} (contents : W → Option (List ℕ)) (old : Tally W) (before : Result A E) (c : Called) (limit : ℕ) (x : State) where
  -- so much is written, and the rest is that of the steps from here on
  abbrev pub TellsCalls : ℕ → State → Option Pending → Tally W → Result A E → Type 0
  TellsCalls k y pending now told = Telling contents old before now told (rest c pending (k + 1) (limit - k) y) (calls_from c None 1 limit x)

  pub calls_start : TellsCalls 0 x None old before
  calls_start =
      let e : limit - 0 ≡ limit = omega arith in
      rw e (Telling-start contents old before _)

  pub calls_step : (k : ℕ) (y : State) (pending : Option Pending) (now new : Tally W) (told more : Result A E) → k < limit → has_ended y.status ≡ false
      → IsWaiting pending y → TellsCalls k y pending now told → WritesAfter contents now told new more (turn_text c pending (k + 1) y)
      → TellsCalls (k + 1) (next y) (still_pending (pending_by c pending y) (next y)) new more
  calls_step k y pending now new told more low on waits t w =
      let e : limit - k ≡ suc (limit - (k + 1)) = omega (arith, low) in
      Telling-step contents old before now new told more (turn_text c pending (k + 1) y) _ _ _ t w
      (ap (λ (n : ℕ). rest c pending (k + 1) n y) e ∙ turns c pending (k + 1) (limit - (k + 1)) y waits on)

  -- and the end of the line that is left
  pub calls_ended : (k : ℕ) (y : State) (pending : Option Pending) (now new : Tally W) (told more : Result A E) → has_ended y.status ≡ true
      → IsWaiting pending y → TellsCalls k y pending now told → WritesAfter contents now told new more (unreturned c pending)
      → WritesAfter contents old before new more (calls_from c None 1 limit x)
  calls_ended k y pending now new told more over waits t w =
      Telling-end contents old before new more [] _
      (Telling-step contents old before now new told more (unreturned c pending) _ [] _ t w
      (rest-ended c pending (k + 1) (limit - k) y waits over ∙ sym (append-nil (unreturned c pending)))) refl

  pub calls_all : (k : ℕ) (y : State) (pending : Option Pending) (now new : Tally W) (told more : Result A E) → k ≡ limit
      → IsWaiting pending y → TellsCalls k y pending now told → WritesAfter contents now told new more (unreturned c pending)
      → WritesAfter contents old before new more (calls_from c None 1 limit x)
  calls_all k y pending now new told more all waits t w =
      let e : limit - k ≡ 0 = omega (arith, all) in
      Telling-end contents old before new more [] _
      (Telling-step contents old before now new told more (unreturned c pending) _ [] _ t w
      (ap (λ (n : ℕ). rest c pending (k + 1) n y) e ∙ rest-none c pending (k + 1) y waits ∙ sym (append-nil (unreturned c pending)))) refl

-- where a run ends
pub end-over : (limit k : ℕ) (x y : State) → Steps x y k → k ≤ limit → has_ended y.status ≡ true → y ≡ plain_end limit x
end-over limit k x y s within over = whole_end limit k x y (record { steps = s; within = within; all = λ less. over })

pub end-all : (limit k : ℕ) (x y : State) → Steps x y k → k ≡ limit → y ≡ plain_end limit x
end-all limit k x y s all = whole_end limit k x y (record { steps = s; within = omega (arith, all); all = λ less. absurd (omega (arith, less, all)) })

-- the bytes behind an argument
pub behind-eight : (x : State) (a : ℕ) (bytes : List ℕ) → is_from_frame 0 a ≡ true → run_at x.memory a 8 ≡ Some bytes
    → codes "=" ++ encode_lower bytes ≡ behind_text x a
behind-eight x a bytes is found = rw (is, found) refl

pub behind-four : (x : State) (a : ℕ) (bytes : List ℕ) → is_from_frame 0 a ≡ true → run_at x.memory a 8 ≡ None → run_at x.memory a 4 ≡ Some bytes
    → codes "=" ++ encode_lower bytes ≡ behind_text x a
behind-four x a bytes is none found = rw (is, none, found) refl
