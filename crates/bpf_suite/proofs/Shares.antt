-- Tests whose own sections leave them the program that all share.
use Rattle.std.proofs.Common.{ℕ, ◌≡◌, true, false, not, Bool, ◌||◌, List, [], ◌∷◌, ◌++◌, Option, Some, None, Result, cond, refl, sym, ap, subst, ◌∙◌}
use Rattle.std.specs.List.{find, list_any}
use Rattle.std.specs.Option.{option_map, option_map_or, option_or}
use Rattle.bpf_text.specs.declared.fault.AsmFault.{AsmFault}
use Rattle.bpf_suite.specs.Benches.{IsBench, Loads, shares_program, with_maps}
use Rattle.bpf_suite.specs.Bodies.{trimmed}
use Rattle.bpf_suite.specs.Cells.{cell_lines, cells_of}
use Rattle.bpf_suite.specs.Faults.{has_part}
use Rattle.bpf_suite.specs.Images.{IsImage}
use Rattle.bpf_suite.specs.Kinds.{is_part}
use Rattle.bpf_suite.specs.Outcomes.{Outcome, Reads}
use Rattle.bpf_suite.specs.Tests.{body_for, cells, has_listing, is_listing, limited, maps, program, section_for, setting, text_or_bytes}
use Rattle.bpf_suite.specs.Verdicts.{wrong_cells, wrong_lines}
use Rattle.bpf_suite.specs.declared.cells.CellLine.{CellLine}
use Rattle.bpf_suite.specs.declared.image.Image.{Image}
use Rattle.bpf_suite.specs.declared.kind.Part.{Part}
use Rattle.bpf_suite.specs.declared.kind.Part.TheVariants as part
use Rattle.bpf_suite.specs.declared.section.Section.{Section}
use Rattle.bpf_suite.specs.declared.setting.Setting.{Setting}
use Rattle.bpf_suite.proofs.Lists.{find-append, or_else}
use Rattle.bpf_suite.proofs.Programs.{Loads-limited, Loads-same, limited-Loads, SameProgram, other-way}

-- what no element of a list is is found in the list behind it
or-false : (a b : Bool) → (a || b) ≡ false → (a ≡ false) × (b ≡ false)
or-false true b e = cc
or-false false b e = (refl, e)

find-behind : {X : Type 0} (p : X → Bool) (xs ys : List X) → list_any p xs ≡ false → find p (xs ++ ys) ≡ find p ys
find-behind p [] ys e = refl
find-behind p (x ∷ xs) ys e =
    let none = or-false (p x) (list_any p xs) e in
    ap (λ (b : Bool). cond b (Some x) (find p (xs ++ ys))) none.0 ∙ find-behind p xs ys none.1

section_for-behind : (p : Part) (own shared : List Section) → has_part p own ≡ false → section_for p (own ++ shared) ≡ section_for p shared
section_for-behind p own shared e = find-behind (λ section. is_part p section.kind) own shared e

-- maps of a test's own stand in front of those that are shared
or-mapped : {X Y : Type 0} (f : X → Y) (one other : Option X) → option_map f (or_else one other) ≡ option_or (option_map f one) (option_map f other)
or-mapped f None other = refl
or-mapped f (Some x) other = refl

not-true : (a : Bool) → not a ≡ true → a ≡ false
not-true true e = cc
not-true false e = refl

maps-own : (own shared : List Section) → maps (own ++ shared) ≡ option_or (maps own) (maps shared)
maps-own own shared =
    ap (λ found. option_map (λ section. trimmed section.body) found) (find-append (λ section. is_part part.Maps section.kind) own shared)
    ∙ or-mapped (λ section. trimmed section.body) (section_for part.Maps own) (section_for part.Maps shared)

pub shared-program : (own shared : List Section) → shares_program own ≡ true → program (own ++ shared) ≡ program shared
shared-program own shared e =
    ap (λ found. option_map_or (λ section. text_or_bytes section.kind section.body) found [])
    (section_for-behind part.Program own shared (not-true (has_part part.Program own) e))

pub shared-listing : (own shared : List Section) → shares_program own ≡ true → has_listing (own ++ shared) ≡ has_listing shared
shared-listing own shared e =
    ap (λ found. option_map_or (λ section. is_listing section.kind) found false)
    (section_for-behind part.Program own shared (not-true (has_part part.Program own) e))

-- the settings of a test and of its bench
same-program : (own shared : List Section) → shares_program own ≡ true → SameProgram (setting (own ++ shared)) (with_maps (maps own) (setting shared))
same-program own shared e = record { maps = maps-own own shared; listing = shared-listing own shared e; program = shared-program own shared e }

-- the words of the shared program are those of a test
pub reads-own : (own shared : List Section) (words : Result (List ℕ) AsmFault) → shares_program own ≡ true
    → Reads (has_listing shared) (program shared) words → Reads (has_listing (own ++ shared)) (program (own ++ shared)) words
reads-own own shared words e reads = rw (shared-listing own shared e, shared-program own shared e) reads

-- the machine of the shared program is that of a test, and it stays one
pub loads-own : (own shared : List Section) (machine : Outcome) → shares_program own ≡ true → Loads (with_maps (maps own) (setting shared)) machine
    → Loads (setting (own ++ shared)) machine
loads-own own shared machine e loads =
    Loads-same (with_maps (maps own) (setting shared)) (setting (own ++ shared)) machine
    (other-way (setting (own ++ shared)) (with_maps (maps own) (setting shared)) (same-program own shared e)) loads

pub loads-shared : (own shared : List Section) (machine : Outcome) → shares_program own ≡ true → Loads (setting (own ++ shared)) machine
    → Loads (with_maps (maps own) (setting shared)) machine
loads-shared own shared machine e loads =
    Loads-same (setting (own ++ shared)) (with_maps (maps own) (setting shared)) machine (same-program own shared e) loads

-- the lines of a test about cells: its own, or else the shared ones
find-in-front : {X : Type 0} (p : X → Bool) (xs ys : List X) → list_any p xs ≡ true → find p (xs ++ ys) ≡ find p xs
find-in-front p [] ys e = cc
find-in-front p (x ∷ xs) ys e = go (p x) refl e (find-in-front p xs ys) where
  go : (b : Bool) → p x ≡ b → (b || list_any p xs) ≡ true → (list_any p xs ≡ true → find p (xs ++ ys) ≡ find p xs) → find p (x ∷ xs ++ ys) ≡ find p (x ∷ xs)
  go true here any rest = rw here refl
  go false here any rest = rw here (rest any)

-- a part stands among a test's own sections, or among those that are shared
pub placed_own : (p : Part) (own shared : List Section) → has_part p own ≡ true → section_for p own ≡ section_for p (own ++ shared)
placed_own p own shared e = sym (find-in-front (λ section. is_part p section.kind) own shared e)

pub placed_shared : (p : Part) (own shared : List Section) → has_part p own ≡ false → section_for p shared ≡ section_for p (own ++ shared)
placed_shared p own shared e = sym (section_for-behind p own shared e)

body_for-own : (p : Part) (own shared : List Section) → has_part p own ≡ true → body_for p (own ++ shared) ≡ body_for p own
body_for-own p own shared e = ap (λ found. option_map_or (λ section. section.body) found []) (find-in-front (λ section. is_part p section.kind) own shared e)

body_for-shared : (p : Part) (own shared : List Section) → has_part p own ≡ false → body_for p (own ++ shared) ≡ body_for p shared
body_for-shared p own shared e = ap (λ found. option_map_or (λ section. section.body) found []) (section_for-behind p own shared e)

pub lines-chosen : (p : Part) (own shared : List Section) (has : Bool) (mine theirs lines : List CellLine) → has ≡ has_part p own → mine ≡ cell_lines (body_for p own)
    → theirs ≡ cell_lines (body_for p shared) → lines ≡ cond has mine theirs → lines ≡ cell_lines (body_for p (own ++ shared))
lines-chosen p own shared true mine theirs lines e is other here = here ∙ is ∙ ap cell_lines (sym (body_for-own p own shared (sym e)))
lines-chosen p own shared false mine theirs lines e is other here = here ∙ other ∙ ap cell_lines (sym (body_for-shared p own shared (sym e)))

pub wrong-chosen : (own shared : List Section) (has : Bool) (mine theirs lines : List CellLine) (outcome : Outcome) → has ≡ has_part part.CellsAfter own
    → mine ≡ cell_lines (body_for part.CellsAfter own) → theirs ≡ cell_lines (body_for part.CellsAfter shared) → lines ≡ cond has mine theirs
    → wrong_lines lines outcome ≡ wrong_cells (own ++ shared) outcome
wrong-chosen own shared has mine theirs lines outcome e is other here =
    ap (λ ls. wrong_lines ls outcome) (lines-chosen part.CellsAfter own shared has mine theirs lines e is other here)

-- the image of the cells that tests share is that of a test's cells, where it has none of its own
pub cells-shared : {n : ℕ} (own shared : List Section) (t : Setting) → has_part part.Cells own ≡ false → t ≡ limited n (setting (own ++ shared)) → cells shared ≡ t.cells
cells-shared own shared t none same =
    ap cells_of (sym (body_for-shared part.Cells own shared none)) ∙ ap (λ (u : Setting). u.cells) (sym same)

-- a bench behind a test that was run on it
pub bench-after : {n : ℕ} (own shared : List Section) (words words' : Result (List ℕ) AsmFault) (after : List CellLine) (kept kept' : Image)
    (before mine : Option (List ℕ)) (old new : Outcome) (t : Setting)
    → shares_program own ≡ true → IsBench shared words after kept before old → IsImage (cells shared) kept' → mine ≡ maps own → t ≡ limited n (setting (own ++ shared))
    → Loads t new → words' ≡ words → IsBench shared words' after kept' mine new
bench-after {n = n} own shared words words' after kept kept' before mine old new t e bench image is same loads alike = record {
  reads = subst (Reads (has_listing shared) (program shared)) (sym alike) bench.reads;
  wanted = bench.wanted;
  image = image;
  loads = subst (λ (m : Option (List ℕ)). Loads (with_maps m (setting shared)) new) (sym is)
      (loads-shared own shared new e (Loads-limited n (setting (own ++ shared)) new (subst (λ (u : Setting). Loads u new) same loads)));
}

-- or behind one with a program of its own
pub bench-alone : (shared : List Section) (words : Result (List ℕ) AsmFault) (after : List CellLine) (kept kept' : Image)
    (before : Option (List ℕ)) (machine : Outcome) → IsBench shared words after kept before machine → IsImage (cells shared) kept'
    → IsBench shared words after kept' before machine
bench-alone shared words after kept kept' before machine bench image = record {
  reads = bench.reads;
  wanted = bench.wanted;
  image = image;
  loads = bench.loads;
}

-- the machine of the test before is that of a test, where both have the same maps of their own
pub loads-again : {n : ℕ} (own shared : List Section) (words : Result (List ℕ) AsmFault) (after : List CellLine) (kept : Image)
    (before mine : Option (List ℕ)) (machine : Outcome) (t : Setting)
    → shares_program own ≡ true → IsBench shared words after kept before machine → before ≡ mine → mine ≡ maps own
    → t ≡ limited n (setting (own ++ shared)) → Loads t machine
loads-again {n = n} own shared words after kept before mine machine t e bench alike is same =
    subst (λ (u : Setting). Loads u machine) (sym same)
    (limited-Loads n (setting (own ++ shared)) machine (loads-own own shared machine e (subst (λ (m : Option (List ℕ)). Loads (with_maps m (setting shared)) machine) (alike ∙ is) bench.loads)))

-- the words of its program
pub words-again : {n : ℕ} (own shared : List Section) (words : Result (List ℕ) AsmFault) (after : List CellLine) (kept : Image)
    (before : Option (List ℕ)) (machine : Outcome) (t : Setting)
    → shares_program own ≡ true → IsBench shared words after kept before machine → t ≡ limited n (setting (own ++ shared)) → Reads t.is_listing t.program words
words-again own shared words after kept before machine t e bench same =
    subst (λ (u : Setting). Reads u.is_listing u.program words) (sym same) (reads-own own shared words e bench.reads)

-- a bench whose machine went on
pub bench-gone-on : (shared : List Section) (words : Result (List ℕ) AsmFault) (after : List CellLine) (kept : Image)
    (before : Option (List ℕ)) (old new : Outcome) → IsBench shared words after kept before old → ((t : Setting) → Loads t old → Loads t new)
    → IsBench shared words after kept before new
bench-gone-on shared words after kept before old new bench on = record {
  reads = bench.reads;
  wanted = bench.wanted;
  image = bench.image;
  loads = on (with_maps before (setting shared)) bench.loads;
}
