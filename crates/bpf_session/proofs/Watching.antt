-- Watched bytes: what was seen of a state before, and the bytes now.
use Rattle.std.specs.Prelude.{map, not, ◌==◌, ◌||◌, ◌&&◌}
use Rattle.std.specs.Str.{bytes_eq}
use Rattle.std.proofs.Common.{◌≡◌, ◌+◌, ◌<◌, ◌≤◌, ℕ, suc, Bool, true, false, List, [], ◌∷◌, ◌++◌, take, get_or, length, refl, sym, ap, ◌∙◌, arith}
use Rattle.std.proofs.lemmas.Bool.Decides.{nat_tests}
use Rattle.std.proofs.lemmas.List.{map_push, take_all, take_more}
use Rattle.bpf_steps.specs.ByAddress.{byte}
use Rattle.bpf_steps.specs.State.{State}
use Rattle.bpf_steps.specs.declared.run.guard.Guard.{Guard}
use Rattle.bpf_session.specs.Stops.{some_differs}
use Rattle.bpf_session.specs.Watched.{Compares, Guards, bytes_at}

-- one more byte
pub one_more : (addresses bytes : List ℕ) (x : State) (i value : ℕ) → i < length addresses → bytes ≡ bytes_at (take i addresses) x → value ≡ byte x (get_or addresses i 0) → bytes ++ value ∷ [] ≡ bytes_at (take (i + 1) addresses) x
one_more addresses bytes x i value lt so_far is =
    ap (λ (bs : List ℕ). bs ++ value ∷ []) so_far
    ∙ ap (λ (v : ℕ). bytes_at (take i addresses) x ++ v ∷ []) is
    ∙ sym (map_push (byte x) (take i addresses) (get_or addresses i 0))
    ∙ ap (map (byte x)) (sym (take_more addresses i 0 lt))

pub all_of : (addresses bytes : List ℕ) (x : State) (i : ℕ) → length addresses ≤ i → bytes ≡ bytes_at (take i addresses) x → bytes ≡ bytes_at addresses x
all_of addresses bytes x i all so_far = so_far ∙ ap (map (byte x)) (take_all i addresses all)

-- the comparison, byte by byte
either : (a b : Bool) → not (a && b) ≡ (not a || not b)
either true b = refl
either false b = refl

compared : (addresses : List ℕ) (x y : State) → not (bytes_eq (bytes_at addresses x) (bytes_at addresses y)) ≡ some_differs addresses x y
compared [] x y = refl
compared (a ∷ addresses) x y =
    either (byte x a == byte y a) (bytes_eq (bytes_at addresses x) (bytes_at addresses y))
    ∙ ap (λ (b : Bool). not (byte x a == byte y a) || b) (compared addresses x y)

swapped : (a b : ℕ) → (a == b) ≡ (b == a)
swapped a b = at (a == b) refl
  where
    at : (t : Bool) → (a == b) ≡ t → (a == b) ≡ (b == a)
    at true e = let s : a ≡ b = grind (arith, nat_tests) in ap (λ (n : ℕ). n == b) s ∙ ap (λ (n : ℕ). b == n) (sym s)
    at false e = let s : (b == a) ≡ false = grind (arith, nat_tests) in e ∙ sym s

pub other_way : (addresses : List ℕ) (x y : State) → some_differs addresses x y ≡ some_differs addresses y x
other_way [] x y = refl
other_way (a ∷ addresses) x y =
    ap (λ (b : Bool). not b || some_differs addresses x y) (swapped (byte x a) (byte y a))
    ∙ ap (λ (b : Bool). not (byte y a == byte x a) || b) (other_way addresses x y)

-- where none differs, all are the same
none_differs : (addresses : List ℕ) (x y : State) → some_differs addresses x y ≡ false → bytes_at addresses x ≡ bytes_at addresses y
none_differs [] x y e = refl
none_differs (a ∷ addresses) x y e = at (byte x a == byte y a) refl e (none_differs addresses x y)
  where
    at : (t : Bool) → (byte x a == byte y a) ≡ t → (not t || some_differs addresses x y) ≡ false → (some_differs addresses x y ≡ false → bytes_at addresses x ≡ bytes_at addresses y) → bytes_at (a ∷ addresses) x ≡ bytes_at (a ∷ addresses) y
    at true s e rest =
        let same : byte x a ≡ byte y a = grind (arith, nat_tests) in
        ap (λ (n : ℕ). n ∷ bytes_at addresses x) same ∙ ap (λ (ns : List ℕ). byte y a ∷ ns) (rest e)
    at false s e rest = absurd cc

none_differ : (addresses : List ℕ) (x y : State) → ((a : ℕ) → byte x a ≡ byte y a) → some_differs addresses x y ≡ false
none_differ [] x y same = refl
none_differ (a ∷ addresses) x y same =
    let e : (byte x a == byte y a) ≡ true = let s = same a in grind (arith, nat_tests) in
    rw e (none_differ addresses x y same)

-- None of those that a guard has, where its bytes are the same.
pub some_same : (addresses : List ℕ) (guard : Guard) (x y : State) → Guards guard addresses → ((a : ℕ) → guard.first ≤ a → a ≤ guard.last → byte x a ≡ byte y a) → some_differs addresses x y ≡ false
some_same [] guard x y all same = refl
some_same (a ∷ addresses) guard x y all same =
    let here = all 0 (omega arith) in
    let e : (byte x a == byte y a) ≡ true = let s = same a here.0 here.1 in grind (arith, nat_tests) in
    rw e (some_same addresses guard x y (λ i low. all (suc i) (omega (arith, low))) same)

-- a move that replaced bytes
pub compares : (addresses seen : List ℕ) (x y : State) (result : Bool) → seen ≡ bytes_at addresses x → result ≡ not (bytes_eq (bytes_at addresses y) seen) → Compares addresses seen x y result
compares addresses seen x y result was is =
    let back : result ≡ some_differs addresses y x = is ∙ ap (λ (bs : List ℕ). not (bytes_eq (bytes_at addresses y) bs)) was ∙ compared addresses y x in
    record {
      since = back ∙ other_way addresses y x;
      before = back;
      same = λ off. was ∙ sym (none_differs addresses y x (sym back ∙ off));
    }

-- one that did not
pub compares_none : (addresses seen : List ℕ) (x y : State) → seen ≡ bytes_at addresses x → ((a : ℕ) → byte x a ≡ byte y a) → Compares addresses seen x y false
compares_none addresses seen x y was same =
    let none : some_differs addresses x y ≡ false = none_differ addresses x y same in
    record {
      since = sym none;
      before = sym none ∙ other_way addresses x y;
      same = λ off. was ∙ none_differs addresses x y none;
    }
