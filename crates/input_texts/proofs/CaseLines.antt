-- The lines of a text, for a reader that gives it in parts.
use Rattle.std.proofs.Common.{◌≡◌, ◌<◌, ◌≤◌, ◌+◌, ℕ, zero, suc, Bool, true, false, not, ◌&&◌, ◌==◌, List, [], ◌∷◌, ◌++◌, length, take, drop, slice_index, None, Some, refl, sym, ap, ◌∙◌, arith}
use Rattle.std.specs.List.{list_all}
use Rattle.std.proofs.lemmas.List.{drop_all, drop_more, take-append-drop, take_all}
use Rattle.std.proofs.lemmas.List.Folds.{list_all-append}
use Rattle.std.proofs.lemmas.Bool.{eqb-true}
use Rattle.counted_io.specs.Lines.{lines}
use Rattle.memchr.specs.Find.{IsFirstByte, is_byte}
use Rattle.input_texts.specs.ReadLines.{Buffer, Holds}
use Rattle.input_texts.specs.ReadsAhead.{HasNoLineFeed, TakesAhead}

-- two parts without a line feed
pub HasNoLineFeed-append : (line part : List ℕ) → HasNoLineFeed line → HasNoLineFeed part → HasNoLineFeed (line ++ part)
HasNoLineFeed-append line part h k = list_all-append (λ byte. not (byte == 10)) line part ∙ rw (h, k) refl

-- the bytes before the first line feed
pub HasNoLineFeed-take : (bytes : List ℕ) (n : ℕ) → ((k : ℕ) → k < n → (slice_index bytes k == 10) ≡ true → ⊥) → HasNoLineFeed (take n bytes)
HasNoLineFeed-take bytes zero h = refl
HasNoLineFeed-take [] (suc n) h = refl
HasNoLineFeed-take (byte ∷ bytes) (suc n) h =
    go (byte == 10) (h 0 (omega arith)) (HasNoLineFeed-take bytes n (λ k below. h (suc k) (omega arith))) where
      go : (t : Bool) → (t ≡ true → ⊥) → HasNoLineFeed (take n bytes) → (not t && list_all (λ byte. not (byte == 10)) (take n bytes)) ≡ true
      go true other others = absurd (other refl)
      go false other others = others

-- a line feed, and what stands before it and behind it
pub cut-at : (bytes : List ℕ) (at : ℕ) → at < length bytes → (slice_index bytes at == 10) ≡ true → bytes ≡ take at bytes ++ 10 ∷ drop (at + 1) bytes
cut-at bytes at h e =
    sym (take-append-drop at bytes)
    ∙ ap (λ (v : List ℕ). take at bytes ++ v) (drop_more bytes at 0 h ∙ ap (λ (b : ℕ). b ∷ drop (at + 1) bytes) (eqb-true (slice_index bytes at) 10 e))

module _ (before after : Buffer) (ahead bytes rest : List ℕ) (all : bytes ≡ ahead) where
  -- what a line takes of bytes in which a line feed was found, and in which none was
  pub takes-cut : (end : ℕ) → IsFirstByte (is_byte 10) bytes (Some end) → rest ≡ drop (end + 1) ahead
      → ((line : List ℕ) → Holds before line → Holds after (line ++ take end bytes)) → (line : List ℕ) → Holds before line → TakesAhead true line after ahead rest
  takes-cut end found left held line h =
      let f = found.0 in (
        take end bytes,
        HasNoLineFeed-take bytes end (λ k below is. f.before k (omega arith) below is),
        sym all ∙ cut-at bytes end f.high found.1 ∙ ap (λ (v : List ℕ). take end bytes ++ 10 ∷ v) (ap (drop (end + 1)) all ∙ sym left),
        held line h,
      )

  pub takes-all : IsFirstByte (is_byte 10) bytes None → rest ≡ drop (length bytes) ahead
      → ((line : List ℕ) → Holds before line → Holds after (line ++ bytes)) → (line : List ℕ) → Holds before line → TakesAhead false line after ahead rest
  takes-all none left held line h = (
    bytes,
    ap (list_all (λ byte. not (byte == 10))) (sym (take_all (length bytes) bytes (omega arith)))
        ∙ HasNoLineFeed-take bytes (length bytes) (λ k below is. none k (omega arith) below is),
    (sym all, left ∙ ap (drop (length bytes)) (sym all) ∙ drop_all (length bytes) bytes (omega arith)),
    held line h,
  )

-- a byte that is no line feed, and none behind it
HasNoLineFeed-first : (byte : ℕ) (line : List ℕ) → HasNoLineFeed (byte ∷ line) → ((byte == 10) ≡ false) × HasNoLineFeed line
HasNoLineFeed-first byte line h = go (byte == 10) h where
  go : (t : Bool) → (not t && list_all (λ byte. not (byte == 10)) line) ≡ true → (t ≡ false) × HasNoLineFeed line
  go true h = cc
  go false h = (refl, h)

-- a text without a line feed is one line, unless it is empty
pub lines-last : (byte : ℕ) (line : List ℕ) → HasNoLineFeed (byte ∷ line) → lines (byte ∷ line) ≡ (byte ∷ line) ∷ []
lines-last byte [] h = rw (HasNoLineFeed-first byte [] h).0 refl
lines-last byte (next ∷ line) h =
    let parts = HasNoLineFeed-first byte (next ∷ line) h in
    rw (parts.0, lines-last next line parts.1) refl
