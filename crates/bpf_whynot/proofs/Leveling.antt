-- The tables, one depth after another.
use Rattle.std.proofs.Common.{◌≡◌, ◌≢◌, ◌<◌, ◌≤◌, ◌⊎◌, inl, inr, ℕ, zero, suc, ◌+◌, ◌-◌, Bool, true, List, [], ◌∷◌, ◌++◌, length, get_or, refl, sym, ap, ◌∙◌, subst, arith, length-append, Option}
use Rattle.std.specs.Prelude.{◌==◌, map, not}
use Rattle.std.proofs.lemmas.Bool.Decides.{nat_tests}
use Rattle.bpf_isa.specs.Programs.{Checked}
use Rattle.bpf_whynot.specs.Flows.{unless}
use Rattle.bpf_whynot.specs.Levels.{AreLevels, AreSeeds, IsLevel, table_above, table_of}
use Rattle.bpf_whynot.specs.Tables.{Table, is_in, no_table, table_at}
use Rattle.bpf_whynot.specs.Walks.{AreBack, Comes}
use Rattle.bpf_whynot.specs.Walks.Comes.{here, on, jumps}
use Rattle.bpf_whynot.specs.declared.level.Level.{Level}
use Rattle.bpf_whynot.proofs.Walking.{reached_within, unless_there, unless_way}

-- seeds by their flags
comes_by : (behind jump : ℕ → Option ℕ) (seed other : ℕ → Bool) (p : ℕ) → ((q : ℕ) → seed q ≡ true → other q ≡ true) → Comes behind jump seed p → Comes behind jump other p
comes_by behind jump seed other p same (here e) = here (same p e)
comes_by behind jump seed other p same (on q e c) = on q e (comes_by behind jump seed other q same c)
comes_by behind jump seed other p same (jumps q e c) = jumps q e (comes_by behind jump seed other q same c)

pub back_by : (behind jump : ℕ → Option ℕ) (seed : ℕ → Bool) (n : ℕ) (seeds marks : List Bool) → AreSeeds seed n seeds → AreBack behind jump (is_in seeds) n marks
    → AreBack behind jump seed n marks
back_by behind jump seed n seeds marks are back = record {
  size = back.size;
  here = λ p low is. back.here p low (are.each p low ∙ is);
  on = back.on;
  jumps = back.jumps;
  sound = λ p marked. comes_by behind jump (is_in seeds) seed p
      (λ q is. let within = reached_within seeds q is in sym (are.each q (let size = are.size in omega (arith, size, within))) ∙ is) (back.sound p marked);
}

-- behind the last slot nothing is left
comes_all : (but : ℕ) (behind jump : ℕ → Option ℕ) (seed : ℕ → Bool) (p : ℕ) → Comes (unless but behind) (unless but jump) seed p → Comes behind jump seed p
comes_all but behind jump seed p (here e) = here e
comes_all but behind jump seed p (on q e c) = on q (unless_way but behind p q e) (comes_all but behind jump seed q c)
comes_all but behind jump seed p (jumps q e c) = jumps q (unless_way but jump p q e) (comes_all but behind jump seed q c)

other_slot : (p n : ℕ) → p < n → not (p == n) ≡ true
other_slot p n low = grind (arith, nat_tests)

pub back_all : (behind jump : ℕ → Option ℕ) (seed : ℕ → Bool) (but n : ℕ) (marks : List Bool) → but ≡ n → AreBack (unless but behind) (unless but jump) seed n marks
    → AreBack behind jump seed n marks
back_all behind jump seed but n marks is back = record {
  size = back.size;
  here = back.here;
  on = λ p q low way marked. back.on p q low (unless_there but behind p q (other_slot p but (omega (arith, is, low))) way) marked;
  jumps = λ p q low way marked. back.jumps p q low (unless_there but jump p q (other_slot p but (omega (arith, is, low))) way) marked;
  sound = λ p marked. comes_all but behind jump seed p (back.sound p marked);
}

-- one more level
at_before : (tables : List Table) (table : Table) (j : ℕ) → j < length tables → table_at (tables ++ table ∷ []) j ≡ table_at tables j
at_before [] table j low = absurd (omega (arith, low))
at_before (t ∷ tables) table zero low = refl
at_before (t ∷ tables) table (suc j) low = at_before tables table j (omega (arith, low))

at_last : (tables : List Table) (table : Table) (j : ℕ) → j ≡ length tables → table_at (tables ++ table ∷ []) j ≡ table
at_last [] table zero e = refl
at_last [] table (suc j) e = absurd (omega (arith, e))
at_last (t ∷ tables) table zero e = absurd (omega (arith, e))
at_last (t ∷ tables) table (suc j) e = at_last tables table j (omega (arith, e))

pub at_read : (levels : List Level) (j : ℕ) (level : Level) → j < length levels → level ≡ get_or levels j level → table_at (map table_of levels) j ≡ table_of level
at_read [] j level low e = absurd (omega (arith, low))
at_read (l ∷ levels) zero level low e = ap table_of (sym e)
at_read (l ∷ levels) (suc j) level low e = at_read levels j level (omega (arith, low)) e

pub map_more : (levels : List Level) (level : Level) → map table_of (levels ++ level ∷ []) ≡ map table_of levels ++ table_of level ∷ []
map_more [] level = refl
map_more (l ∷ levels) level = ap (λ (tables : List Table). table_of l ∷ tables) (map_more levels level)

pub one_level : (program : Checked) (goals : List Bool) (level : Table) → IsLevel program goals no_table level → AreLevels program goals 1 (level ∷ [])
one_level program goals level is = record { size = refl; each = each }
  where
    each : (j : ℕ) → j < 1 → IsLevel program goals (table_above (level ∷ []) j) (table_at (level ∷ []) j)
    each zero low = is
    each (suc j) low = absurd (omega (arith, low))

above_before : (tables : List Table) (table : Table) (j : ℕ) → j ≤ length tables → table_above (tables ++ table ∷ []) j ≡ table_above tables j
above_before tables table zero low = refl
above_before tables table (suc j) low = at_before tables table j low

same_or_other : (i j : ℕ) → (i ≡ j) ⊎ (i ≢ j)
same_or_other i j = grind arith

pub more_levels : (program : Checked) (goals : List Bool) (k : ℕ) (tables : List Table) (above level : Table) → AreLevels program goals k tables
    → above ≡ table_above tables k → IsLevel program goals above level → AreLevels program goals (k + 1) (tables ++ level ∷ [])
more_levels program goals k tables above level are e is = record {
  size = let size = are.size in length-append tables (level ∷ []) ∙ ap (λ (n : ℕ). n + 1) size;
  each = λ j low. by_case j low (same_or_other j k);
}
  where
    by_case : (j : ℕ) → j < k + 1 → (j ≡ k) ⊎ (j ≢ k) → IsLevel program goals (table_above (tables ++ level ∷ []) j) (table_at (tables ++ level ∷ []) j)
    by_case j low (inl same) =
        let size = are.size in
        let upper = above_before tables level j (omega (arith, size, same)) ∙ ap (table_above tables) same ∙ sym e in
        let last = at_last tables level j (omega (arith, size, same)) in
        subst (λ (t : Table). IsLevel program goals t (table_at (tables ++ level ∷ []) j)) (sym upper)
        (subst (λ (t : Table). IsLevel program goals above t) (sym last) is)
    by_case j low (inr apart) =
        let size = are.size in
        let upper = above_before tables level j (omega (arith, size, low)) in
        let here = at_before tables level j (omega (arith, size, low, apart)) in
        subst (λ (t : Table). IsLevel program goals t (table_at (tables ++ level ∷ []) j)) (sym upper)
        (subst (λ (t : Table). IsLevel program goals (table_above tables j) t) (sym here) (are.each j (omega (arith, low, apart))))

read_above : (levels : List Level) (k : ℕ) (level : Level) → 1 ≤ k → k - 1 < length levels → level ≡ get_or levels (k - 1) level
    → table_of level ≡ table_above (map table_of levels) k
read_above levels zero level some low e = absurd (omega (arith, some))
read_above levels (suc k) level some low e =
    let same : suc k - 1 ≡ k = omega arith in
    sym (at_read levels k level (omega (arith, low, same)) (subst (λ (i : ℕ). level ≡ get_or levels i level) same e))

pub next_level : (program : Checked) (goals : List Bool) (k : ℕ) (levels more : List Level) (above level : Level)
    → AreLevels program goals k (map table_of levels) → 1 ≤ k → k - 1 < length levels → above ≡ get_or levels (k - 1) above
    → IsLevel program goals (table_of above) (table_of level) → more ≡ levels ++ level ∷ [] → AreLevels program goals (k + 1) (map table_of more)
next_level program goals k levels more above level are some low e is pushed =
    subst (λ (ts : List Table). AreLevels program goals (k + 1) ts) (sym (ap (map table_of) pushed ∙ map_more levels level))
    (more_levels program goals k (map table_of levels) (table_of above) (table_of level) are (read_above levels k above some low e) is)
