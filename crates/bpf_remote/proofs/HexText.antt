-- Bytes as hexadecimal text, byte by byte.
use Rattle.std.proofs.Common.{◌≡◌, ℕ, ◌+◌, ◌<◌, ◌≤◌, List, [], ◌∷◌, ◌++◌, length, take, get_or, refl, sym, ap, ◌∙◌, append_assoc}
use Rattle.std.proofs.lemmas.List.{take_more, take_all, append-nil}
use Rattle.bpf_remote.specs.Packets.{two_digits}
use Rattle.bpf_remote.specs.Numbers.{hex_text}

hex_text-push : (xs : List ℕ) (byte : ℕ) → hex_text (xs ++ byte ∷ []) ≡ hex_text xs ++ two_digits byte
unfolding hex_text
hex_text-push [] byte = refl
hex_text-push (x ∷ xs) byte = rw (hex_text-push xs byte) refl

-- one more byte behind a text
pub hex_text-more : (front xs : List ℕ) (i : ℕ) (text : List ℕ) → i < length xs → text ≡ two_digits (get_or xs i 0)
    → (front ++ hex_text (take i xs)) ++ text ≡ front ++ hex_text (take (i + 1) xs)
hex_text-more front xs i text inside e =
    append_assoc front (hex_text (take i xs)) text
    ∙ ap (λ (v : List ℕ). front ++ v) (ap (λ (v : List ℕ). hex_text (take i xs) ++ v) e ∙ sym (hex_text-push (take i xs) (get_or xs i 0)) ∙ ap hex_text (sym (take_more xs i 0 inside)))

-- all bytes
pub hex_text-all : (front xs : List ℕ) (i : ℕ) → length xs ≤ i → front ++ hex_text (take i xs) ≡ front ++ hex_text xs
hex_text-all front xs i end = ap (λ (v : List ℕ). front ++ hex_text v) (take_all i xs end)

-- no byte
pub hex_text-none : (front : List ℕ) → front ≡ front ++ hex_text []
unfolding hex_text
hex_text-none front = sym (append-nil front)

-- one text behind another
pub hex_text-append : (xs ys : List ℕ) → hex_text (xs ++ ys) ≡ hex_text xs ++ hex_text ys
unfolding hex_text
hex_text-append [] ys = refl
hex_text-append (x ∷ xs) ys = rw (hex_text-append xs ys) refl
