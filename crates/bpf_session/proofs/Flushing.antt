-- Texts that are written and then flushed.
use Rattle.std.proofs.Common.{◌≡◌, ℕ, List, [], Option, Ok, Err, sym, ap, ◌∙◌}
use Rattle.std.proofs.lemmas.List.{append-nil}
use Rattle.std.specs.Io.KnownBytes.{Keeps}
use Rattle.counted_io.specs.Counted.{Tally, one_more}
use Rattle.counted_io.specs.Writing.{Writes}
use Rattle.counted_io.proofs.Appending.{Appends-Keeps}

module _ {W : Type 0} (contents : W → Option (List ℕ)) (old : Tally W) where
  -- a flush that went well
  pub Writes-flushed : {A B E : Type 0} (middle new : Tally W) (value : A) (other : B) (text : List ℕ)
      → Writes {E = E} contents old middle (Ok value) text → Keeps (contents middle.inner) (contents new.inner) → new.failures ≡ middle.failures
      → Writes {E = E} contents old new (Ok other) text
  Writes-flushed middle new value other text w keeps same = record {
    ok = Appends-Keeps _ _ _ text w.ok keeps;
    same = same ∙ w.same;
    err = tt;
    fault = tt;
  }

  -- a flush that failed, after the whole text
  pub Writes-unflushed : {A B E : Type 0} (middle new : Tally W) (value : A) (fault : E) (text : List ℕ)
      → Writes {E = E} contents old middle (Ok value) text → Keeps (contents middle.inner) (contents new.inner) → new.failures ≡ one_more middle.failures
      → Writes {A = B} contents old new (Err fault) text
  Writes-unflushed middle new value fault text w keeps more = record {
    ok = tt;
    same = tt;
    err = (text, [], sym (append-nil text), Appends-Keeps _ _ _ text w.ok keeps);
    fault = more ∙ ap one_more w.same;
  }
