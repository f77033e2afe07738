-- The rows of an answer that is not cut are those of its hits, and it ends with the places that are left.
use Rattle.std.proofs.Common.{◌≡◌, ℕ, zero, suc, ◌+◌, ◌-◌, Bool, true, false, List, [], ◌∷◌, ◌++◌, length, flat_map, refl, sym, ap, ◌∙◌, append_assoc, arith}
use Rattle.std.specs.List.{range_with_len}
use Rattle.std.specs.Prelude.{◌==◌, nat_lt, if◌then◌else◌}
use Rattle.bpf_journal.specs.Histories.{Record}
use Rattle.bpf_machine.specs.Moves.{overwritten}
use Rattle.bpf_steps.specs.State.{State}
use Rattle.bpf_origin.specs.declared.place.Place.{Place}
use Rattle.bpf_origin.specs.declared.question.Extent.TheVariants.{Whole, Lines, Places}
use Rattle.bpf_origin.specs.declared.question.Question.{Question}
use Rattle.bpf_origin.specs.Answers.{Rows, cut_at, rows_from, rows_left, wanted_before, with_row}
use Rattle.bpf_origin.specs.Rows.{Row, moved}
use Rattle.bpf_origin.specs.Meaning.{RowsAreHits, left_of, oldest, passed, told_at, told_by}
use Rattle.bpf_origin.specs.Wanted.{most_places, are_hit, still_wanted}
use Rattle.bpf_origin.specs.Writes.{written}

-- a list of numbers that begins one later
shifted : {X : Type 0} (f g : ℕ → List X) (a n : ℕ) → ((i : ℕ) → f (suc i) ≡ g i) → flat_map f (range_with_len (suc a) n) ≡ flat_map g (range_with_len a n)
shifted f g a zero same = refl
shifted f g a (suc n) same =
    let e : suc a + 1 ≡ suc (a + 1) = omega arith in
    rw e (ap (λ t. t ++ flat_map f (range_with_len (suc (a + 1)) n)) (same a) ∙ ap (λ t. g a ++ t) (shifted f g (a + 1) n same))

-- what is told behind the newest move is told of the history before it
told_behind : (q : Question) (k : ℕ) (wanted : List Place) (r : Record) (h : List Record) (y : State) (i : ℕ)
    → told_at q k wanted (r ∷ h) y (suc i) ≡ told_at q (k + 1) (passed q.addresses r y wanted) h r.before i
unfolding left_of
told_behind q k wanted r h y i = let e : k + suc i + 1 ≡ k + 1 + i + 1 = omega arith in rw e refl

-- the rows of an answer are these
abbrev Has : List Row → Rows → Type 0
Has rows a = a.extent ≡ Whole → a.rows ≡ rows

hit_has : (row : Row) (rows : List Row) (a : Rows) (none full : Bool) → Has rows a
    → Has (row ∷ rows) (if none then cut_at Lines else with_row row (if full then cut_at Places else a))
hit_has row rows a true full has = λ whole. cc
hit_has row rows a false true has = λ whole. cc
hit_has row rows a false false has = λ whole. ap (λ (t : List Row). row ∷ t) (has whole)

by_hit : (left : List Place → List Row) (row : Row) (a b : Rows) (v w : List Place) (hit : Bool) → Has (row ∷ left v) a → Has (left w) b
    → Has ((if hit then row ∷ [] else []) ++ left (if hit then v else w)) (if hit then a else b)
by_hit left row a b v w true first second = first
by_hit left row a b v w false first second = second

-- the rows of the moves before the newest one
abbrev rest_rows : Question → ℕ → List Record → State → List Place → List Row
rest_rows q k h y wanted = flat_map (told_at q k wanted h y) (range_with_len 0 (length h)) ++ rows_left q.opening (oldest h y) (left_of q.addresses wanted h y)

pub law_told : RowsAreHits
unfolding rows_from left_of
law_told q k n wanted [] y whole = refl
law_told q k n wanted (r ∷ h) y whole =
    let hit = are_hit (written y (overwritten r.before r.move)) wanted in
    let row = moved q.addresses (k + 1) r y in
    let before = passed q.addresses r y wanted in
    let read =
    by_hit (rest_rows q (k + 1) h r.before) row _ _ (wanted_before q r y wanted) (still_wanted y (overwritten r.before r.move) wanted) hit
    (hit_has row (rest_rows q (k + 1) h r.before (wanted_before q r y wanted)) (rows_from q (k + 1) (n - 1) (wanted_before q r y wanted) h r.before) (n == 0) (nat_lt most_places (length (wanted_before q r y wanted)))
    (law_told q (k + 1) (n - 1) (wanted_before q r y wanted) h r.before))
    (law_told q (k + 1) n (still_wanted y (overwritten r.before r.move) wanted) h r.before)
    whole in
    let first : k + 0 + 1 ≡ k + 1 = omega arith in
    read
    ∙ sym (append_assoc (if hit then row ∷ [] else []) (flat_map (told_at q (k + 1) before h r.before) (range_with_len 0 (length h))) _)
    ∙ ap (λ (t : List Row). ((if hit then row ∷ [] else []) ++ t) ++ rows_left q.opening (oldest h r.before) (left_of q.addresses before h r.before))
    (sym (shifted (told_at q k wanted (r ∷ h) y) (told_at q (k + 1) before h r.before) 0 (length h) (told_behind q k wanted r h y)))
    ∙ ap (λ j. ((told_by q j y wanted r) ++ flat_map (told_at q k wanted (r ∷ h) y) (range_with_len 1 (length h))) ++ rows_left q.opening (oldest h r.before) (left_of q.addresses before h r.before)) (sym first)
