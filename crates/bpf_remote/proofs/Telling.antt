-- Texts that are appended to a body.
use Rattle.std.proofs.Common.{◌≡◌, ◌<◌, ◌≤◌, ◌==◌, ℕ, suc, ◌+◌, ◌-◌, true, false, List, [], ◌∷◌, ◌++◌, Option, None, Some, refl, sym, ap, subst, ◌∙◌, append_assoc, arith, add-one, length, take}
use lib.Chars.{codes}
use Rattle.std.proofs.lemmas.List.{append-nil}
use Rattle.bpf_steps.specs.State.{State}
use Rattle.bpf_remote.specs.Packets.{Buffer, Holds}
use Rattle.bpf_remote.specs.Numbers.{address_text, hex_text, word_text}
use Rattle.bpf_remote.specs.Answers.{byte_at, error_text, moves_text, other_text, register_text, present, registers_below, stop_text, memory_part, has_memory, part_of, watched_text}
use Rattle.bpf_agent.specs.Registers.{value_of}
use Rattle.bpf_remote.specs.Layouts.{has_moves}
use Rattle.bpf_remote.specs.declared.layout.Layout.{Layout}
use Rattle.bpf_remote.specs.declared.manners.Manners.{Manners}
use Rattle.bpf_remote.proofs.HexText.{hex_text-append, hex_text-none}

-- the same text in other words
pub Holds-text : (buffer : Buffer) (s t : List ℕ) → Holds buffer s → s ≡ t → Holds buffer t
Holds-text buffer s t h e = subst (λ (v : List ℕ). Holds buffer v) e h

pub error-parts : (text : List ℕ) (number : ℕ) → (text ++ 69 ∷ []) ++ hex_text (number ∷ []) ≡ text ++ error_text number
unfolding hex_text
error-parts text number = append_assoc text (69 ∷ []) (hex_text (number ∷ []))

-- the address of a watched byte
pub watched-parts : (text : List ℕ) (address : ℕ) → ((text ++ codes "T05watch:") ++ address_text address) ++ codes ";" ≡ text ++ watched_text address
watched-parts text address = append_assoc (text ++ codes "T05watch:") (address_text address) (codes ";") ∙ append_assoc text (codes "T05watch:") (address_text address ++ codes ";")

-- six texts behind another
one-more : (text s t u : List ℕ) → u ≡ text ++ s → u ++ t ≡ text ++ (s ++ t)
one-more text s t u e = ap (λ (v : List ℕ). v ++ t) e ∙ append_assoc text s t

six-parts : (text a p b q c e : List ℕ) → text ++ a ++ p ++ b ++ q ++ c ++ e ≡ text ++ (a ++ p ++ b ++ q ++ c ++ e)
six-parts text a p b q c e =
    one-more text (a ++ p ++ b ++ q ++ c) e (text ++ a ++ p ++ b ++ q ++ c)
    (one-more text (a ++ p ++ b ++ q) c (text ++ a ++ p ++ b ++ q)
    (one-more text (a ++ p ++ b) q (text ++ a ++ p ++ b) (one-more text (a ++ p) b (text ++ a ++ p) (append_assoc text a p))))

-- r10, pc and the moves before a stop
pub stop-parts : (text : List ℕ) (m : Manners) (x : State) (pointer counter : ℕ) → pointer ≡ value_of x 10 → counter ≡ value_of x 11
    → (((((text ++ codes "thread:0;0a:") ++ word_text pointer) ++ codes ";0b:") ++ word_text counter) ++ codes ";") ++ moves_text m.target.layout m.moves ≡ text ++ stop_text m x
stop-parts text m x pointer counter e f =
    rw (e, f) (six-parts text (codes "thread:0;0a:") (word_text (value_of x 10)) (codes ";0b:") (word_text (value_of x 11)) (codes ";") (moves_text m.target.layout m.moves))

pub moves-there : (text : List ℕ) (gdb : Layout) (moves : ℕ) → has_moves gdb ≡ true → ((text ++ codes "40:") ++ word_text moves) ++ codes ";" ≡ text ++ moves_text gdb moves
moves-there text gdb moves e =
    append_assoc (text ++ codes "40:") (word_text moves) (codes ";") ∙ append_assoc text (codes "40:") (word_text moves ++ codes ";")
    ∙ ap (λ (v : List ℕ). text ++ v) (rw e refl)

pub moves-absent : (text : List ℕ) (gdb : Layout) (moves : ℕ) → has_moves gdb ≡ false → text ≡ text ++ moves_text gdb moves
moves-absent text gdb moves e = sym (append-nil text) ∙ ap (λ (v : List ℕ). text ++ v) (rw e refl)

-- no register yet, and one more
pub registers-none : (text : List ℕ) (x : State) → text ≡ text ++ registers_below x 0
unfolding registers_below
registers-none text x = sym (append-nil text)

pub registers-more : (text : List ℕ) (x : State) (n value : ℕ) → value ≡ value_of x n → (text ++ registers_below x n) ++ word_text value ≡ text ++ registers_below x (n + 1)
unfolding registers_below
registers-more text x n value e =
    append_assoc text (registers_below x n) (word_text value) ∙ ap (λ (v : List ℕ). text ++ (registers_below x n ++ v)) (ap word_text e)
    ∙ ap (λ (k : ℕ). text ++ registers_below x k) (sym (add-one n))

-- the bytes from an address on, by the first of them
abbrev first-of : State → ℕ → ℕ → Option ℕ → List ℕ
first-of m a n None = []
first-of m a n (Some byte) = byte ∷ present m (a + 1) n

present-first : (m : State) (a n byte : ℕ) → byte_at m a ≡ Some byte → present m a (suc n) ≡ byte ∷ present m (a + 1) n
unfolding present
present-first m a n byte e = ap (first-of m a n) e

present-absent : (m : State) (a n : ℕ) → byte_at m a ≡ None → present m a (suc n) ≡ []
unfolding present
present-absent m a n e = ap (first-of m a n) e

present-zero : (m : State) (a : ℕ) → present m a 0 ≡ []
unfolding present
present-zero m a = refl

-- a count that is above another
one-of : (k n : ℕ) → k < n → n - k ≡ suc (n - (k + 1))
one-of k n h = omega arith

pub memory-more : (m : State) (a n k : ℕ) (front : List ℕ) (byte : ℕ) → k < n → byte_at m (a + k) ≡ Some byte → hex_text (present m a n) ≡ front ++ hex_text (present m (a + k) (n - k))
    → hex_text (present m a n) ≡ (front ++ hex_text (byte ∷ [])) ++ hex_text (present m (a + (k + 1)) (n - (k + 1)))
memory-more m a n k front byte inside e so =
    let here : present m (a + k) (n - k) ≡ byte ∷ present m (a + (k + 1)) (n - (k + 1)) =
    ap (present m (a + k)) (one-of k n inside) ∙ present-first m (a + k) (n - (k + 1)) byte e ∙ ap (λ (v : ℕ). byte ∷ present m v (n - (k + 1))) (omega arith) in
    so ∙ ap (λ (v : List ℕ). front ++ v) (ap hex_text here ∙ hex_text-append (byte ∷ []) (present m (a + (k + 1)) (n - (k + 1))))
    ∙ sym (append_assoc front (hex_text (byte ∷ [])) (hex_text (present m (a + (k + 1)) (n - (k + 1)))))

pub memory-end : (m : State) (a n k : ℕ) (front : List ℕ) → k < n → byte_at m (a + k) ≡ None → hex_text (present m a n) ≡ front ++ hex_text (present m (a + k) (n - k))
    → hex_text (present m a n) ≡ front
memory-end m a n k front inside e so =
    so ∙ ap (λ (v : List ℕ). front ++ hex_text v) (ap (present m (a + k)) (one-of k n inside) ∙ present-absent m (a + k) (n - (k + 1)) e) ∙ sym (hex_text-none front)

pub memory-all : (m : State) (a n k : ℕ) (front : List ℕ) → n ≤ k → hex_text (present m a n) ≡ front ++ hex_text (present m (a + k) (n - k)) → hex_text (present m a n) ≡ front
memory-all m a n k front end so =
    let z : n - k ≡ 0 = omega arith in
    so ∙ ap (λ (v : List ℕ). front ++ hex_text v) (ap (present m (a + k)) z ∙ present-zero m (a + k)) ∙ sym (hex_text-none front)

-- a part that is there, and one that isn't
pub part-there : (m : State) (a n : ℕ) → has_memory m a n ≡ true → hex_text (present m a n) ≡ memory_part m a n
part-there m a n h = rw h refl

pub part-absent : (m : State) (a n : ℕ) → has_memory m a n ≡ false → error_text 6 ≡ memory_part m a n
part-absent m a n h = rw h refl

-- a register that there is, and one that there isn't
pub register-there : (m : Manners) (x : State) (n value : ℕ) → n ≤ 22 → value ≡ value_of x n → word_text value ≡ register_text m x n
register-there m x n value h e = ap word_text e ∙ grind (arith)

pub register-other : (m : Manners) (x : State) (n : ℕ) → 22 < n → other_text m.moves n ≡ register_text m x n
register-other m x n h = grind (arith)

pub other-count : (moves n : ℕ) → n == 64 ≡ true → word_text moves ≡ other_text moves n
other-count moves n e = rw e refl

pub other-none : (moves n : ℕ) → n == 64 ≡ false → codes "xxxxxxxxxxxxxxxx" ≡ other_text moves n
other-none moves n e = rw e refl

-- the last part of a text, and one that isn't
part-all : (rest : List ℕ) (count : ℕ) → length rest ≤ count → 108 ∷ rest ≡ part_of rest count
part-all rest count h = grind (arith)

part-cut : (rest : List ℕ) (count : ℕ) → count < length rest → 109 ∷ take count rest ≡ part_of rest count
part-cut rest count h = grind (arith)

pub part-last : (text rest : List ℕ) (count : ℕ) → length rest ≤ count → (text ++ 108 ∷ []) ++ rest ≡ text ++ part_of rest count
part-last text rest count h = append_assoc text (108 ∷ []) rest ∙ ap (λ (v : List ℕ). text ++ v) (part-all rest count h)

pub part-more : (text rest : List ℕ) (count : ℕ) → count < length rest → (text ++ 109 ∷ []) ++ take count rest ≡ text ++ part_of rest count
part-more text rest count h = append_assoc text (109 ∷ []) (take count rest) ∙ ap (λ (v : List ℕ). text ++ v) (part-cut rest count h)
