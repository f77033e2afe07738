-- Texts that are appended one after another.
use Rattle.std.proofs.Common.{ℕ, ◌≡◌, ◌+◌, ◌-◌, length, List, [], ◌++◌, take, drop, Option, Some, None, Result, Ok, Err, refl, sym, ap, ◌∙◌, append_assoc}
use Rattle.std.proofs.Math.Seq.{take-add}
use Rattle.std.proofs.lemmas.List.{take-append-drop, take_rest, append-nil}
use Rattle.std.specs.Io.KnownBytes.{Appends, Keeps}
use Rattle.counted_io.specs.Writing.{AppendsBeginning, Writes, WritesAfter}
use Rattle.counted_io.specs.Counted.{Tally, one_more}

-- what is appended twice is appended
pub Appends-Appends : (a b c : Option (List ℕ)) (s t : List ℕ) → Appends a b s → Appends b c t → Appends a c (s ++ t)
Appends-Appends None b c s t p q = tt
Appends-Appends (Some xs) None c s t p q = absurd p
Appends-Appends (Some xs) (Some ys) None s t p q = absurd q
Appends-Appends (Some xs) (Some ys) (Some zs) s t p q = q ∙ ap (λ v. v ++ t) p ∙ append_assoc xs s t

-- nothing is appended at first
pub Appends-nil : (a : Option (List ℕ)) → Appends a a []
Appends-nil None = tt
Appends-nil (Some xs) = sym (append-nil xs)

-- what is kept is appended
pub Appends-Keeps : (a b c : Option (List ℕ)) (s : List ℕ) → Appends a b s → Keeps b c → Appends a c s
Appends-Keeps None b c s p q = tt
Appends-Keeps (Some xs) None c s p q = absurd p
Appends-Keeps (Some xs) (Some ys) None s p q = absurd q
Appends-Keeps (Some xs) (Some ys) (Some zs) s p q = q ∙ p

-- what is appended stays where none of a rest is taken
pub Appends-none : (a b c : Option (List ℕ)) (s t : List ℕ) (n : ℕ) → n ≡ 0
    → Appends a b s → Appends b c (take n t) → Appends a c s
Appends-none a b c s t n z p q = rw (← append-nil s) (Appends-Appends a b c s [] p (rw z at q))

-- the first n bytes of the rest are appended to the first m
pub Appends-take : (a b c : Option (List ℕ)) (m n : ℕ) (t : List ℕ)
    → Appends a b (take m t) → Appends b c (take n (take (length t - m) (drop m t))) → Appends a c (take (m + n) t)
Appends-take a b c m n t p q =
    rw take-add (Appends-Appends a b c (take m t) (take n (drop m t)) p (rw (take_rest t m) at q))

-- the first m bytes are a beginning
pub AppendsBeginning-take : (a b : Option (List ℕ)) (m : ℕ) (t : List ℕ)
    → Appends a b (take m t) → AppendsBeginning a b t
AppendsBeginning-take a b m t p = (take m t, drop m t, sym (take-append-drop m t), p)

-- a text written after another that was written
pub Writes-Writes : {T A B E : Type 0} (contents : T → Option (List ℕ)) (a b c : Tally T) (q : Result B E) (r : Result A E)
    (x : B) (s t : List ℕ) → q ≡ Ok x → Writes contents a b q s → Writes contents b c r t → Writes contents a c r (s ++ t)
Writes-Writes contents a b c (Err x) r y s t z p q = cc
Writes-Writes contents a b c (Ok x) (Ok y) w s t z p q = record {
  ok = Appends-Appends (contents a.inner) (contents b.inner) (contents c.inner) s t p.ok q.ok;
  same = q.same ∙ p.same;
  err = tt;
  fault = tt;
}
Writes-Writes contents a b c (Ok x) (Err e) w s t z p q = record {
  ok = tt;
  same = tt;
  err = (
    s ++ q.err.0,
    q.err.1,
    ap (λ v. s ++ v) q.err.2 ∙ sym (append_assoc s q.err.0 q.err.1),
    Appends-Appends (contents a.inner) (contents b.inner) (contents c.inner) s q.err.0 p.ok q.err.3,
  );
  fault = q.fault ∙ ap one_more p.same;
}

-- a text that failed stays a beginning of a longer one
pub Writes-Err : {T A E : Type 0} (contents : T → Option (List ℕ)) (a b : Tally T) (r : Result A E) (e : E) (s t : List ℕ)
    → r ≡ Err e → Writes contents a b r s → Writes {A = A} contents a b (Err e) (s ++ t)
Writes-Err contents a b (Ok x) e s t z p = cc
Writes-Err contents a b (Err y) e s t z p = record {
  ok = tt;
  same = tt;
  err = (p.err.0, p.err.1 ++ t, ap (λ v. v ++ t) p.err.2 ∙ append_assoc p.err.0 p.err.1 t, p.err.3);
  fault = p.fault;
}

-- two texts one after the other
pub WritesAfter-WritesAfter : {T A E : Type 0} (contents : T → Option (List ℕ)) (a b c : Tally T) (p q r : Result A E)
    (s t whole : List ℕ) → WritesAfter contents a p b q s → WritesAfter contents b q c r t → s ++ t ≡ whole
    → WritesAfter contents a p c r whole
WritesAfter-WritesAfter contents a b c p q r s t whole one two e = λ first front known.
    rw (← e, ← append_assoc front s t) (two first (front ++ s) (one first front known))

-- the same text in other words
pub WritesAfter-text : {T A E : Type 0} (contents : T → Option (List ℕ)) (a b : Tally T) (p q : Result A E)
    (s t : List ℕ) → WritesAfter contents a p b q s → s ≡ t → WritesAfter contents a p b q t
WritesAfter-text contents a b p q s t one e = λ first front known. rw (← e) (one first front known)

-- no text is written at first
pub Writes-none : {T A E : Type 0} (contents : T → Option (List ℕ)) (a : Tally T) (x : A)
    → Writes {E = E} contents a a (Ok x) []
Writes-none contents a x = record { ok = Appends-nil (contents a.inner); same = refl; err = tt; fault = tt }

-- the same text in other words
pub Writes-text : {T A E : Type 0} (contents : T → Option (List ℕ)) (a b : Tally T) (q : Result A E)
    (s t : List ℕ) → Writes contents a b q s → s ≡ t → Writes contents a b q t
Writes-text contents a b q s t one e = rw (← e) one
