-- What is known of the moves behind one that made a value, one after another.
use Rattle.std.proofs.Common.{◌≡◌, ◌≢◌, ℕ, suc, ◌+◌, Bool, true, false, List, [], ◌∷◌, length, drop, sym, ap, ◌∙◌, arith}
use Rattle.std.specs.Prelude.{◌==◌, if◌then◌else◌}
use Rattle.std.proofs.lemmas.Bool.Decides.{nat_tests}
use Rattle.bpf_entries.specs.Before.{depth_before}
use Rattle.bpf_entries.specs.Keeping.{Kept}
use Rattle.bpf_entries.specs.declared.entry.Entry.{Entry}
use Rattle.bpf_isa.specs.Programs.{Checked}
use Rattle.bpf_journal.proofs.Walks.{drop_all}
use Rattle.bpf_whynot.specs.Overwrites.{over_after, part_made, seen}
use Rattle.bpf_whynot.specs.declared.made.Made.{Made}
use Rattle.bpf_whynot.specs.declared.over.Over.{Over}
use Rattle.bpf_whynot.specs.declared.over.Over.TheVariants.{Unwritten}

pub same_number : (n m : ℕ) → n ≡ m → (n == m) ≡ true
same_number n m e = grind (arith, nat_tests)

pub other_number : (n m : ℕ) → n ≢ m → (n == m) ≡ false
other_number n m e = grind (arith, nat_tests)

module _ (program : Checked) (m : Made) where
  pub known_first : (es : List Kept) (d deep : ℕ) → deep ≡ d → over_after program m 0 d es Unwritten ≡ over_after program m 0 deep es Unwritten
  known_first es d deep e = ap (λ (n : ℕ). over_after program m 0 n es Unwritten) (sym e)

  -- the move that made it ends it
  pub known_at : (n d : ℕ) (k : Kept) (es : List Kept) (over : Over) → (n + 1 == m.moves) ≡ true → over_after program m n d (k ∷ es) over ≡ over
  known_at n d k es over e =
      ap (λ (b : Bool). if b then over else over_after program m (n + 1) (depth_before d k.0) es (seen program (part_made program m) m.depth n d k.0 over)) e

  one_on : (n d : ℕ) (k : Kept) (es : List Kept) (over : Over) → (n + 1 == m.moves) ≡ false
      → over_after program m n d (k ∷ es) over ≡ over_after program m (n + 1) (depth_before d k.0) es (seen program (part_made program m) m.depth n d k.0 over)
  one_on n d k es over e =
      ap (λ (b : Bool). if b then over else over_after program m (n + 1) (depth_before d k.0) es (seen program (part_made program m) m.depth n d k.0 over)) e

  pub known_there : (es : List Kept) (d n deep : ℕ) (over : Over) (found : Kept) → drop n es ≡ found ∷ drop (suc n) es
      → over_after program m 0 d es Unwritten ≡ over_after program m n deep (drop n es) over → (n + 1 == m.moves) ≡ true
      → over_after program m 0 d es Unwritten ≡ over
  known_there es d n deep over found front known e =
      known ∙ ap (λ (rest : List Kept). over_after program m n deep rest over) front ∙ known_at n deep found (drop (suc n) es) over e

  pub known_more : (es : List Kept) (d n deep : ℕ) (over : Over) (found : Kept) (entry : Entry) (now : Over) (after : ℕ) → drop n es ≡ found ∷ drop (suc n) es → found.0 ≡ entry
      → over_after program m 0 d es Unwritten ≡ over_after program m n deep (drop n es) over → (n + 1 == m.moves) ≡ false
      → now ≡ seen program (part_made program m) m.depth n deep entry over → after ≡ depth_before deep entry
      → over_after program m 0 d es Unwritten ≡ over_after program m (n + 1) after (drop (n + 1) es) now
  known_more es d n deep over found entry now after front is known e saw went =
      known ∙ ap (λ (rest : List Kept). over_after program m n deep rest over) front ∙ one_on n deep found (drop (suc n) es) over e
      ∙ ap (λ (k : Entry). over_after program m (n + 1) (depth_before deep k) (drop (suc n) es) (seen program (part_made program m) m.depth n deep k over)) is
      ∙ ap (λ (o : Over). over_after program m (n + 1) (depth_before deep entry) (drop (suc n) es) o) (sym saw)
      ∙ ap (λ (a : ℕ). over_after program m (n + 1) a (drop (suc n) es) now) (sym went)
      ∙ ap (λ (j : ℕ). over_after program m (n + 1) after (drop j es) now) (add_one n)
    where
      add_one : (n : ℕ) → suc n ≡ n + 1
      add_one n = omega arith

  pub known_end : (es : List Kept) (d n deep : ℕ) (over : Over) → over_after program m 0 d es Unwritten ≡ over_after program m n deep (drop n es) over → n ≡ length es
      → over_after program m 0 d es Unwritten ≡ over
  known_end es d n deep over known all = known ∙ ap (λ (rest : List Kept). over_after program m n deep rest over) (ap (λ (j : ℕ). drop j es) all ∙ drop_all es)
