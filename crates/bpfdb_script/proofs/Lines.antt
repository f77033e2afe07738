-- The lines of a text, for a reader that takes one byte at a time.
use Rattle.std.proofs.Common.{◌≡◌, ◌≢◌, ℕ, ◌<◌, Bool, true, false, not, ◌&&◌, ◌==◌, List, [], ◌∷◌, ◌++◌, Err, length, refl, ◌∙◌}
use Rattle.std.specs.List.{list_all}
use Rattle.std.proofs.lemmas.List.Folds.{list_all-append}
use Rattle.std.proofs.lemmas.Bool.{ne_eqb, lt-ltb}
use Rattle.counted_io.specs.Lines.{lines}
use Rattle.bpfdb_script.specs.Lines.{line_feeds}
use Rattle.bpfdb_script.specs.Commands.{command_of}
use Rattle.bpfdb_script.specs.declared.refusal.Refusal.TheVariants.{LineTooLong}

-- no byte is a line feed
abbrev pub HasNoLineFeed : List ℕ → Type 0
HasNoLineFeed bytes = list_all (λ byte. not (byte == 10)) bytes ≡ true

pub HasNoLineFeed-push : (line : List ℕ) (byte : ℕ) → HasNoLineFeed line → byte ≢ 10 → HasNoLineFeed (line ++ byte ∷ [])
HasNoLineFeed-push line byte h other =
    list_all-append (λ byte. not (byte == 10)) line (byte ∷ []) ∙ rw (h, ne_eqb byte 10 other) refl

-- a byte that is no line feed, and none behind it
HasNoLineFeed-first : (byte : ℕ) (line : List ℕ) → HasNoLineFeed (byte ∷ line) → ((byte == 10) ≡ false) × HasNoLineFeed line
HasNoLineFeed-first byte line h = go (byte == 10) h where
  go : (t : Bool) → (not t && list_all (λ byte. not (byte == 10)) line) ≡ true → (t ≡ false) × HasNoLineFeed line
  go true h = cc
  go false h = (refl, h)

-- a text without a line feed is one line, unless it is empty
pub lines-last : (byte : ℕ) (line : List ℕ) → HasNoLineFeed (byte ∷ line) → lines (byte ∷ line) ≡ (byte ∷ line) ∷ []
lines-last byte [] h = rw (HasNoLineFeed-first byte [] h).0 refl
lines-last byte (next ∷ line) h =
    let parts = HasNoLineFeed-first byte (next ∷ line) h in
    rw (parts.0, lines-last next line parts.1) refl

-- a line that is too long is refused, whatever its bytes
pub command_of-long : (line : List ℕ) → 1024 < length line → command_of line ≡ Err LineTooLong
unfolding command_of
command_of-long line long = rw (lt-ltb 1024 (length line) long) refl

-- a text without a line feed holds none
pub line_feeds-none : (line : List ℕ) → HasNoLineFeed line → line_feeds line ≡ 0
line_feeds-none [] none = refl
line_feeds-none (byte ∷ line) none =
    let parts = HasNoLineFeed-first byte line none in
    rw parts.0 (line_feeds-none line parts.1)
