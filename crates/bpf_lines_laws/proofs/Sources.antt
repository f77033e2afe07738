-- The slots of objects' sections, as those of code.
use Rattle.std.proofs.Common.{◌≡◌, ◌≤◌, ◌<◌, ◌⊎◌, inl, inr, ℕ, ◌+◌, ◌-◌, ◌*◌, List, [], ◌∷◌, ◌++◌, length, get_or, sym, ap, subst, ◌∙◌, arith, append-nil}
use Rattle.std.proofs.lemmas.List.{get_or-append_right, get_or_append_left}
use Rattle.bpf_link.specs.Links.{unlinked}
use Rattle.bpf_link.specs.Parts.{part_of, slots_in}
use Rattle.bpf_link.specs.declared.parts.Side.{Side}
use Rattle.bpf_link.specs.declared.parts.Side.TheVariants.{Code, Text}
use Rattle.bpf_link.proofs.Lists.{below_at}
use Rattle.bpf_lines.specs.Objects.{slots_of}
use Rattle.bpf_lines.specs.declared.objects.ObjectLines.{ObjectLines}
use Rattle.bpf_lines_laws.specs.Origins.{Origin, in_object, in_section, origins, own_byte}
use Rattle.bpf_lines_laws.proofs.Rows.{object_length, section_length, slot_in}
use Rattle.bpf_lines_laws.proofs.Words.{code_slots}

either : (n m : ℕ) → (n < m) ⊎ (m ≤ n)
either n m = grind arith

section_at : (lines : ObjectLines) (side : Side) (n : ℕ) (d : Origin) → n < slots_in (part_of lines.plan.parts side) → get_or (in_section lines side) n d ≡ slot_in lines side n
section_at lines side n d low = below_at (slot_in lines side) (slots_in (part_of lines.plan.parts side)) n d low

-- the code of one object is that of its sections
pub object_byte : (lines : ObjectLines) (n k : ℕ) (d : Origin) → length lines.plan.parts.code.slots ≡ 8 * slots_in lines.plan.parts.code → n < slots_of lines → k < 8
    → get_or (unlinked lines.plan.parts) (8 * n + k) 0 ≡ own_byte (get_or (in_object lines) n d) k
object_byte lines n k d whole inside small = by (either n first)
  where
    first : ℕ
    first = slots_in lines.plan.parts.code

    code : List ℕ
    code = lines.plan.parts.code.slots

    text : List ℕ
    text = lines.plan.parts.text.slots

    size : length (in_section lines Code) ≡ first
    size = section_length lines Code

    low_all : n < first + slots_in lines.plan.parts.text
    low_all = inside

    by : (n < first) ⊎ (first ≤ n) → get_or (code ++ text) (8 * n + k) 0 ≡ own_byte (get_or (in_section lines Code ++ in_section lines Text) n d) k
    by (inl low) =
        get_or_append_left code text 0 (8 * n + k) (omega (arith, whole))
        ∙ sym (ap (λ it. own_byte it k) (get_or_append_left (in_section lines Code) (in_section lines Text) d n (omega (arith, size)) ∙ section_at lines Code n d low))
    by (inr high) =
        let rest : 8 * n + k - 8 * first ≡ 8 * (n - first) + k = omega arith in
        get_or-append_right code text (8 * first) (8 * n + k) 0 whole (omega arith)
        ∙ ap (λ i. get_or text i 0) rest
        ∙ sym (ap (λ it. own_byte it k)
        (get_or-append_right (in_section lines Code) (in_section lines Text) first n d size high ∙ section_at lines Text (n - first) d (omega (arith, low_all))))

-- the code that is linked is that of the sections of which the table tells, but for what doesn't stay
pub record AreSources (parts : List ℕ) (count : ℕ) (all : List ObjectLines) (Stays : ℕ → Type 0) : Type 0 where
  pub size : count ≡ length (origins all)
  pub same : (n k : ℕ) (d : Origin) → n < length (origins all) → Stays n → k < 8 → get_or parts (8 * n + k) 0 ≡ own_byte (get_or (origins all) n d) k

-- so it is of one object
pub alone : (lines : ObjectLines) (Stays : ℕ → Type 0) → length lines.plan.parts.code.slots ≡ 8 * slots_in lines.plan.parts.code
    → AreSources (unlinked lines.plan.parts) (code_slots lines.plan.parts) (lines ∷ []) Stays
alone lines Stays whole =
    let size = object_length lines in
    let one : in_object lines ++ [] ≡ in_object lines = append-nil (in_object lines) in
    record {
      size = sym (ap length one ∙ size);
      same = λ n k d inside stays small.
          object_byte lines n k d whole (subst (λ m. n < m) (ap length one ∙ size) inside) small ∙ ap (λ l. own_byte (get_or l n d) k) (sym one);
    }
