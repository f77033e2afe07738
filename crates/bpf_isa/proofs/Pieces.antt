-- The pieces at the starts, put together in order, are the bytes.
use Rattle.std.proofs.Common.{◌≡◌, ◌≤◌, ℕ, zero, suc, ◌+◌, ◌*◌, ◌/◌, Bool, true, false, List, [], ◌∷◌, ◌++◌, length, take, drop, refl, sym, ap, ◌∙◌, arith, add-one}
use Rattle.std.specs.Prelude.{not, ◌&&◌, if◌then◌else◌, map}
use Rattle.std.specs.List.{concat, filter, range_with_len}
use Rattle.std.proofs.lemmas.List.{append-nil, map-append, take_all}
use Rattle.std.proofs.lemmas.List.Elements.{filter-append}
use Rattle.std.proofs.lemmas.List.Folds.{concat-append}
use Rattle.std.proofs.Math.Seq.{take-add}
use Rattle.bpf_isa.specs.Checker.{is_wide_at, is_start, piece_at, PiecesAreTheBytes}

range_more : (a n : ℕ) → range_with_len a (suc n) ≡ range_with_len a n ++ (a + n) ∷ []
range_more a zero = ap (λ k. k ∷ []) (omega arith)
range_more a (suc n) = ap (λ l. a ∷ l) (range_more (a + 1) n ∙ ap (λ k. range_with_len (a + 1) n ++ k ∷ []) (omega arith))

-- the pieces at the starts before a slot
abbrev before : List ℕ → ℕ → List ℕ
before bytes n = concat (map (piece_at bytes) (filter (is_start bytes) (range_with_len 0 n)))

-- where they end
abbrev reach : Bool → ℕ → ℕ
reach true n = 8 * n
reach false n = 8 * (n + 1)

one_more : (bytes : List ℕ) (n : ℕ) → before bytes (suc n) ≡ before bytes n ++ concat (map (piece_at bytes) (filter (is_start bytes) (n ∷ [])))
one_more bytes n =
    ap (λ l. concat (map (piece_at bytes) (filter (is_start bytes) l))) (range_more 0 n ∙ ap (λ k. range_with_len 0 n ++ k ∷ []) (omega arith))
    ∙ ap (λ l. concat (map (piece_at bytes) l)) (filter-append (is_start bytes) (range_with_len 0 n) (n ∷ []))
    ∙ ap concat (map-append (piece_at bytes) (filter (is_start bytes) (range_with_len 0 n)) (filter (is_start bytes) (n ∷ [])))
    ∙ concat-append (map (piece_at bytes) (filter (is_start bytes) (range_with_len 0 n))) (map (piece_at bytes) (filter (is_start bytes) (n ∷ [])))

kept : (p : ℕ → Bool) (n : ℕ) → p n ≡ true → filter p (n ∷ []) ≡ n ∷ []
kept p n e = cc

left : (p : ℕ → Bool) (n : ℕ) → p n ≡ false → filter p (n ∷ []) ≡ []
left p n e = cc

-- a start's piece goes on where the pieces before it ended
piece_joined : (bytes : List ℕ) (n : ℕ) (wide : Bool) → take (8 * n) bytes ++ take (if wide then 16 else 8) (drop (8 * n) bytes) ≡ take (reach (not (true && wide)) (n + 1)) bytes
piece_joined bytes n true = sym (take-add (8 * n) 16 bytes) ∙ ap (λ k. take k bytes) (omega arith)
piece_joined bytes n false = sym (take-add (8 * n) 8 bytes) ∙ ap (λ k. take k bytes) (omega arith)

step : (bytes : List ℕ) (n : ℕ) (b : Bool) → is_start bytes n ≡ b → before bytes n ≡ take (reach b n) bytes → before bytes (suc n) ≡ take (reach (not (b && is_wide_at bytes n)) (n + 1)) bytes
step bytes n true e so_far =
    one_more bytes n
    ∙ ap (λ l. before bytes n ++ concat (map (piece_at bytes) l)) (kept (is_start bytes) n e)
    ∙ ap (λ l. before bytes n ++ l) (append-nil (piece_at bytes n))
    ∙ ap (λ l. l ++ piece_at bytes n) so_far
    ∙ piece_joined bytes n (is_wide_at bytes n)
step bytes n false e so_far =
    one_more bytes n
    ∙ ap (λ l. before bytes n ++ concat (map (piece_at bytes) l)) (left (is_start bytes) n e)
    ∙ append-nil (before bytes n)
    ∙ so_far

reached : (bytes : List ℕ) (n : ℕ) → before bytes n ≡ take (reach (is_start bytes n) n) bytes
reached bytes zero = refl
reached bytes (suc n) =
    step bytes n (is_start bytes n) refl (reached bytes n)
    ∙ ap (λ k. take (reach (is_start bytes (suc n)) k) bytes) (add-one n)

reach_least : (b : Bool) (n : ℕ) → 8 * n ≤ reach b n
reach_least true n = omega arith
reach_least false n = omega arith

pub pieces_are_the_bytes : PiecesAreTheBytes
pieces_are_the_bytes bytes whole =
    let n = length bytes / 8 in
    let far = reach_least (is_start bytes n) n in
    reached bytes n ∙ take_all (reach (is_start bytes n) n) bytes (omega (arith, far, whole))
