-- Bytes that are read one after another.
use Rattle.std.proofs.Common.{◌≡◌, ℕ, List, [], ◌∷◌, ◌++◌, Option, Some, None, Ok, Err, refl, sym, ap, ◌∙◌}
use Rattle.std.proofs.lemmas.List.{append-nil}
use Rattle.std.specs.Io.KnownBytes.{Consumes, IsAtEnd}
use Rattle.std.proofs.KnownBytes.{Consumes-nil, Consumes-trans, Consumes-kept}
use Rattle.counted_io.specs.Counted.{Tally, one_more}
use Rattle.counted_io.specs.Reading.{ReadsByte}
use Rattle.bpf_remote.specs.Streams.{Reads, Fails, IsAll}

-- nothing is left at the end
all-taken : (a b : Option (List ℕ)) (bytes text : List ℕ) → a ≡ Some text → Consumes a b bytes → IsAtEnd b → text ≡ bytes
all-taken None b bytes text e p q = absurd cc
all-taken (Some x) None bytes text e p q = absurd p
all-taken (Some x) (Some y) bytes text e p q = let s : x ≡ text = cc in sym s ∙ p ∙ ap (λ (v : List ℕ). bytes ++ v) q ∙ append-nil bytes

left-after : (a b : Option (List ℕ)) (bytes text : List ℕ) → a ≡ Some text → Consumes a b bytes → (rest : List ℕ) × (b ≡ Some rest) × (text ≡ bytes ++ rest)
left-after None b bytes text e p = absurd cc
left-after (Some x) None bytes text e p = absurd p
left-after (Some x) (Some y) bytes text e p = let s : x ≡ text = cc in (y, refl, sym s ∙ p)

module _ {R : Type 0} (remaining : R → Option (List ℕ)) where
  -- nothing was read yet
  pub Reads-none : (old : Tally R) → Reads remaining old old []
  Reads-none old = record { taken = Consumes-nil _; same = refl }

  -- one more byte
  pub Reads-more : {E : Type 0} (old now new : Tally R) (bytes : List ℕ) (byte : ℕ) → Reads remaining old now bytes → ReadsByte {E = E} remaining now new (Ok (Some byte)) → Reads remaining old new (bytes ++ byte ∷ [])
  Reads-more old now new bytes byte r s = record { taken = Consumes-trans _ _ _ bytes (byte ∷ []) r.taken s.value; same = s.same ∙ r.same }

  -- the end
  pub Reads-end : {E : Type 0} (old now new : Tally R) (bytes : List ℕ) → Reads remaining old now bytes → ReadsByte {E = E} remaining now new (Ok None) → Reads remaining old new bytes
  Reads-end old now new bytes r s = record { taken = Consumes-kept _ _ _ bytes r.taken s.value.1; same = s.same ∙ r.same }

  -- a failure
  pub Fails-after : {E : Type 0} (old now new : Tally R) (bytes : List ℕ) (fault : E) → Reads remaining old now bytes → ReadsByte remaining now new (Err fault) → Fails remaining old new bytes
  Fails-after old now new bytes fault r s = record { taken = Consumes-kept _ _ _ bytes r.taken s.kept; fault = s.fault ∙ ap one_more r.same }

  -- one text after another
  pub Reads-trans : (old now new : Tally R) (front back : List ℕ) → Reads remaining old now front → Reads remaining now new back → Reads remaining old new (front ++ back)
  Reads-trans old now new front back r s = record { taken = Consumes-trans _ _ _ front back r.taken s.taken; same = s.same ∙ r.same }

  pub Reads-Fails : (old now new : Tally R) (front back : List ℕ) → Reads remaining old now front → Fails remaining now new back → Fails remaining old new (front ++ back)
  Reads-Fails old now new front back r s = record { taken = Consumes-trans _ _ _ front back r.taken s.taken; fault = s.fault ∙ ap one_more r.same }

  -- at the end nothing is left
  pub IsAll-end : {E : Type 0} (old now new : Tally R) (bytes : List ℕ) → Reads remaining old now bytes → ReadsByte {E = E} remaining now new (Ok None) → IsAll remaining old bytes
  IsAll-end old now new bytes r s = λ text e. all-taken _ _ bytes text e r.taken s.value.0

  pub IsAll-trans : (old now : Tally R) (front back : List ℕ) → Reads remaining old now front → IsAll remaining now back → IsAll remaining old (front ++ back)
  IsAll-trans old now front back r all = λ text e.
      let w = left-after _ _ front text e r.taken in
      w.2 ∙ ap (λ (v : List ℕ). front ++ v) (all w.0 w.1)
