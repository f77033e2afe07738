-- The rows of a table, as those of the slots that it tells of.
use Rattle.std.proofs.Common.{◌≡◌, ◌+◌, ℕ, zero, suc, List, [], ◌∷◌, ◌++◌, length, refl, sym, ap, ap₂, ◌∙◌, arith, append-nil, append_assoc, length-append}
use Rattle.std.specs.Prelude.{sum_by}
use Rattle.std.proofs.lemmas.List.Sums.{sum_by-cons}
use Rattle.bpf_link.specs.Objects.{below}
use Rattle.bpf_link.specs.Parts.{part_of, slots_in}
use Rattle.bpf_link.specs.declared.parts.Side.{Side}
use Rattle.bpf_link.specs.declared.parts.Side.TheVariants.{Code, Text}
use Rattle.bpf_link.proofs.Lists.{below_length}
use Rattle.bpf_lines.specs.Objects.{object_rows, rows_of_all, slots_of}
use Rattle.bpf_lines.specs.Rows.{rows}
use Rattle.bpf_lines.specs.declared.objects.ObjectLines.{ObjectLines}
use Rattle.bpf_lines_laws.specs.Origins.{Origin, in_object, in_section, origins, row_of, rows_from, told_of}

next_on : (first n : ℕ) → suc first + n ≡ first + suc n
next_on first n = omega arith

from_here : (first : ℕ) → first ≡ first + 0
from_here first = omega arith

pub rows_append : (words : List ℕ) (first : ℕ) (xs ys : List Origin) → rows_from words first (xs ++ ys) ≡ rows_from words first xs ++ rows_from words (first + length xs) ys
rows_append words first [] ys = ap (λ n. rows_from words n ys) (from_here first)
rows_append words first (x ∷ xs) ys =
    ap (λ rest. row_of words first x ++ rest) (rows_append words (suc first) xs ys)
    ∙ sym (append_assoc (row_of words first x) (rows_from words (suc first) xs) (rows_from words (suc first + length xs) ys))
    ∙ ap (λ n. (row_of words first x ++ rows_from words (suc first) xs) ++ rows_from words n ys) (next_on first (length xs))

-- a slot of a section
abbrev pub slot_in : ObjectLines → Side → ℕ → Origin
slot_in lines side slot = record { lines = lines; side = side; slot = slot }

below_rows : (lines : ObjectLines) (side : Side) (words : List ℕ) (first n : ℕ)
    → rows lines.plan (part_of lines.plan.parts side) (told_of lines side) words first n ≡ rows_from words first (below (slot_in lines side) n)
below_rows lines side words first zero = refl
below_rows lines side words first (suc n) =
    let item = slot_in lines side in
    let row = row_of words (first + n) (item n) in
    ap (λ text. text ++ row) (below_rows lines side words first n)
    ∙ ap (λ last. rows_from words first (below item n) ++ last) (sym (append-nil row))
    ∙ ap (λ k. rows_from words first (below item n) ++ rows_from words (first + k) (item n ∷ [])) (sym (below_length item n))
    ∙ sym (rows_append words first (below item n) (item n ∷ []))

pub section_length : (lines : ObjectLines) (side : Side) → length (in_section lines side) ≡ slots_in (part_of lines.plan.parts side)
section_length lines side = below_length (slot_in lines side) (slots_in (part_of lines.plan.parts side))

pub object_length : (lines : ObjectLines) → length (in_object lines) ≡ slots_of lines
object_length lines =
    length-append (in_section lines Code) (in_section lines Text) ∙ ap₂ (λ code text. code + text) (section_length lines Code) (section_length lines Text)

pub all_length : (all : List ObjectLines) → length (origins all) ≡ sum_by slots_of all
all_length [] = refl
all_length (lines ∷ rest) =
    length-append (in_object lines) (origins rest)
    ∙ ap₂ (λ own more. own + more) (object_length lines) (all_length rest)
    ∙ sym (sum_by-cons slots_of lines rest)

of_object : (lines : ObjectLines) (words : List ℕ) (first : ℕ) → object_rows lines words first ≡ rows_from words first (in_object lines)
of_object lines words first =
    let code = in_section lines Code in
    let text = in_section lines Text in
    let behind : ℕ = first + slots_in lines.plan.parts.code in
    ap (λ front. front ++ rows lines.plan lines.plan.parts.text lines.text words behind (slots_in lines.plan.parts.text))
    (below_rows lines Code words first (slots_in lines.plan.parts.code))
    ∙ ap (λ rest. rows_from words first code ++ rest) (below_rows lines Text words behind (slots_in lines.plan.parts.text))
    ∙ ap (λ n. rows_from words first code ++ rows_from words (first + n) text) (sym (section_length lines Code))
    ∙ sym (rows_append words first code text)

pub of_all : (all : List ObjectLines) (words : List ℕ) (first : ℕ) → rows_of_all all words first ≡ rows_from words first (origins all)
of_all [] words first = refl
of_all (lines ∷ rest) words first =
    ap (λ front. front ++ rows_of_all rest words (first + slots_of lines)) (of_object lines words first)
    ∙ ap (λ more. rows_from words first (in_object lines) ++ more) (of_all rest words (first + slots_of lines))
    ∙ ap (λ n. rows_from words first (in_object lines) ++ rows_from words (first + n) (origins rest)) (sym (object_length lines))
    ∙ sym (rows_append words first (in_object lines) (origins rest))
