-- What the test of a session's run is spared by a table of slots, and by nothing that is watched.
use Rattle.std.specs.Prelude.{if◌then◌else◌, nat_lt, not}
use Rattle.std.proofs.Common.{◌≡◌, ◌%◌, ℕ, Bool, true, false, List, [], ◌∷◌, suc, length, refl, sym, ap, subst, ◌∙◌, arith}
use Rattle.std.proofs.lemmas.Bool.Decides.{nat_tests}
use Rattle.std.specs.Str.{bytes_eq}
use Rattle.bpf_steps.specs.ByAddress.{byte}
use Rattle.bpf_steps.specs.State.{State, depth}
use Rattle.bpf_steps.specs.declared.run.guard.Guard.{Guard}
use Rattle.bpf_ring.specs.Runs.{AreGuarded, ForgetsFrames, Overlooks, Spares}
use Rattle.bpf_session.specs.Halting.{halts}
use Rattle.bpf_session.specs.SlotTables.{IsTableOf}
use Rattle.bpf_session.specs.Stops.{has}
use Rattle.bpf_session.specs.Watched.{Guards, bytes_at}
use Rattle.bpf_session.proofs.Breaks.{not_there}

-- a depth that didn't stop a run
passed : (b c q d : Bool) → (if b then true else if c then true else if q then d else false) ≡ false → c ≡ false
passed true c q d e = absurd cc
passed false true q d e = absurd cc
passed false false q d e = refl

pub spared : (breaks watches seen : List ℕ) (floor : ℕ) (table : List Bool) → IsTableOf breaks table → Spares (halts breaks watches seen floor) table
spared breaks watches seen floor table m q x y on level free =
    let unset : has breaks y.pc ≡ false = sym (not_there breaks table y.pc (y.pc % 8192) m refl (omega arith) free) in
    let shallow : nat_lt (depth y) floor ≡ false = ap (λ fs. nat_lt (length fs) floor) level ∙ passed _ _ q _ on in
    rw (unset, shallow) refl

-- No depth is below 0.
not_below : (n : ℕ) → nat_lt n 0 ≡ false
not_below n = grind (arith, nat_tests)

pub forgot : (breaks watches seen : List ℕ) (floor : ℕ) → floor ≡ 0 → ForgetsFrames (halts breaks watches seen floor)
forgot breaks watches seen floor none =
    let first : ForgetsFrames (halts breaks watches seen 0) = λ q y frames. rw (not_below (length frames), not_below (length y.frames)) refl in
    subst (λ (n : ℕ). ForgetsFrames (halts breaks watches seen n)) (sym none) first

-- Watched bytes that a guard has are the same where its bytes are.
bytes_same : (addresses : List ℕ) (guard : Guard) (x y : State) → Guards guard addresses → AreGuarded guard x y → bytes_at addresses y ≡ bytes_at addresses x
bytes_same [] guard x y all same = refl
bytes_same (a ∷ rest) guard x y all same =
    let here = all 0 (omega arith) in
    let first : byte y a ≡ byte x a = same a here.0 here.1 in
    let later : bytes_at rest y ≡ bytes_at rest x = bytes_same rest guard x y (λ i low. all (suc i) (omega (arith, low))) same in
    ap (λ (b : ℕ). b ∷ bytes_at rest y) first ∙ ap (λ (bs : List ℕ). byte x a ∷ bs) later

-- Where they are what was seen, it is nothing to the test that a step replaced others.
pub overlooked : (breaks watches seen : List ℕ) (floor : ℕ) (guard : Guard) (x : State) → not (bytes_eq (bytes_at watches x) seen) ≡ false → Guards guard watches → Overlooks (halts breaks watches seen floor) guard x
overlooked breaks watches seen floor guard x seen_now all y same =
    let none : not (bytes_eq (bytes_at watches y) seen) ≡ false = ap (λ (bs : List ℕ). not (bytes_eq bs seen)) (bytes_same watches guard x y all same) ∙ seen_now in
    ap (λ (b : Bool). if has breaks y.pc then true else if nat_lt (depth y) floor then true else b) none
