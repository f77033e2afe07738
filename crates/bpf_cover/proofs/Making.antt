-- Texts that are made one after another.
use Rattle.std.proofs.Common.{◌≡◌, ◌+◌, ◌≤◌, ℕ, suc, List, [], ◌∷◌, ◌++◌, Option, Some, None, All, length, sym, ap, ◌∙◌, refl, arith}
use Rattle.std.specs.Prelude.{map}
use Rattle.std.specs.List.{range_with_len}
use Rattle.std.specs.Option.{option_map_or}
use Rattle.std.proofs.lemmas.Grind.{common_steps, elements}
use Rattle.std.proofs.lemmas.List.{map-append}
use Rattle.std.proofs.lemmas.List.Elements.{All-append, All-nil}
use Rattle.std.proofs.lemmas.List.FromFn.{map-range_with_len_more}
use Rattle.bpf_isa.specs.Programs.{Checked, insn_at}
use Rattle.bpf_isa.specs.declared.instruction.Insn.{Insn}
use Rattle.bpfdb_script.specs.Texts.{text_at}
use Rattle.bpf_cover.specs.Texts.{LiesIn, slot_text, text_in}
use Rattle.bpf_cover.specs.declared.texts.Span.{Span}

-- the text of a slot
pub text_there : (p : Checked) (slot : ℕ) (i : Insn) → Some i ≡ insn_at p slot → text_at p slot ≡ slot_text p slot
text_there p slot i e = ap (λ (o : Option Insn). option_map_or (λ i. text_at p slot) o []) e

pub text_nowhere : (p : Checked) (slot : ℕ) → None ≡ insn_at p slot → [] ≡ slot_text p slot
text_nowhere p slot e = ap (λ (o : Option Insn). option_map_or (λ i. text_at p slot) o []) e

-- the texts of the slots so far
pub record Made (p : Checked) (k : ℕ) (bytes : List ℕ) (spans : List Span) : Type 0 where
  pub lie : All (LiesIn bytes) spans
  pub are : map (text_in bytes) spans ≡ map (slot_text p) (range_with_len 0 k)

pub Made-none : (p : Checked) (bytes : List ℕ) → Made p 0 bytes []
Made-none p bytes = record { lie = All-nil (LiesIn bytes); are = refl }

-- a text stays where others follow
text_stays : (bytes more : List ℕ) (span : Span) → LiesIn bytes span → text_in (bytes ++ more) span ≡ text_in bytes span
text_stays bytes more span lies = grind (arith, elements)

texts_stay : (bytes more : List ℕ) (spans : List Span) → All (LiesIn bytes) spans → map (text_in (bytes ++ more)) spans ≡ map (text_in bytes) spans
texts_stay bytes more [] lie = refl
texts_stay bytes more (span ∷ spans) lie =
    ap (λ (t : List ℕ). t ∷ map (text_in (bytes ++ more)) spans) (text_stays bytes more span (lie 0 span (omega arith)))
    ∙ ap (λ (ts : List (List ℕ)). text_in bytes span ∷ ts) (texts_stay bytes more spans (λ k d within. lie (suc k) d (omega (arith, within))))

new_text : (bytes text : List ℕ) (span : Span) → span.start ≡ length bytes → span.end ≡ length (bytes ++ text) → text_in (bytes ++ text) span ≡ text
new_text bytes text span starts ends = grind (arith, elements)

longer_than : (bytes text : List ℕ) → length bytes ≤ length (bytes ++ text)
longer_than bytes text = grind (arith, common_steps)

lie_on : (bytes text : List ℕ) (spans : List Span) → All (LiesIn bytes) spans → All (LiesIn (bytes ++ text)) spans
lie_on bytes text spans lie = λ j d within.
    let one = lie j d within in
    let more = longer_than bytes text in
    (one.0, omega (arith, one.1, more))

pub Made-more : (p : Checked) (k : ℕ) (bytes longer : List ℕ) (spans : List Span) (span : Span) → Made p k bytes spans → longer ≡ bytes ++ slot_text p k
    → span.start ≡ length bytes → span.end ≡ length longer → Made p (k + 1) longer (spans ++ span ∷ [])
Made-more p k bytes longer spans span made is starts ends =
    let text = slot_text p k in
    let ends_there : span.end ≡ length (bytes ++ text) = ends ∙ ap length is in
    let more = longer_than bytes text in
    rw is (record {
      lie = All-append (LiesIn (bytes ++ text)) spans (span ∷ []) (lie_on bytes text spans made.lie) (λ j d within.
          let first : j ≡ 0 = omega (arith, within) in
          rw first (omega (arith, starts, ends_there, more), omega (arith, ends_there)));
      are =
          map-append (text_in (bytes ++ text)) spans (span ∷ [])
          ∙ ap (λ (ts : List (List ℕ)). ts ++ text_in (bytes ++ text) span ∷ []) (texts_stay bytes text spans made.lie ∙ made.are)
          ∙ ap (λ (t : List ℕ). map (slot_text p) (range_with_len 0 k) ++ t ∷ []) (new_text bytes text span starts ends_there)
          ∙ sym (map-range_with_len_more (slot_text p) 0 k k (omega arith));
    })
