-- The code in the words that run.
use Rattle.std.proofs.Common.{◌≡◌, ◌<◌, ℕ, ◌+◌, ◌-◌, ◌*◌, ◌/◌, List, length, get_or, refl, sym, ap, subst, ◌∙◌, arith}
use Rattle.std.proofs.lemmas.List.{get_or-append_right, get_or_append_left}
use Rattle.bpf_link.specs.Begun.{counts}
use Rattle.bpf_link.specs.Links.{unlinked}
use Rattle.bpf_link.specs.Parts.{Sides, first_of, part_of, slots_in}
use Rattle.bpf_link.specs.Programs.{Asked, IsLinkedAs}
use Rattle.bpf_link.specs.declared.linker.Linked.{Linked}
use Rattle.bpf_link.specs.declared.parts.Side.{Side}
use Rattle.bpf_link.specs.declared.parts.Side.TheVariants.{Code, Text}
use Rattle.bpf_link.specs.declared.plan.Plan.{Plan}
use Rattle.bpf_link.specs.Stubs.{answered}
use Rattle.bpf_link.proofs.Answered.{answered_length}
use Rattle.bpf_link.proofs.Blanking.{blanked_length}
use Rattle.bpf_link.proofs.Untouched.{law as slots_stay}
use Rattle.bpf_lines.specs.Objects.{entry_slots}
use Rattle.bpf_lines_laws.specs.Kept.{IsKept, code_begin, own_begin}
use Rattle.bpf_lines_laws.proofs.OnPacket.{words_at, words_fit}
use Rattle.bpf_lines_laws.proofs.Sizes.{Fits, reaches, setup_fits}

-- how many slots the code of a plan has
abbrev pub code_slots : Sides → ℕ
code_slots parts = slots_in parts.code + slots_in parts.text

abbrev pub parts_of : {asked : Asked} {program : Linked} → IsLinkedAs asked program → Sides
parts_of it = it.linked.begun.plan.parts

-- the words of a program's own, and those that run
own_fits : (asked : Asked) (program : Linked) (it : IsLinkedAs asked program) → Fits (own_begin it) (length it.own.words.items) (code_slots (parts_of it))
own_fits asked program it =
    let laid = it.linked.made.laid in
    let code = answered asked.stubs laid.code in
    let reach = it.linked.begun.reach in
    let size : length code ≡ 8 * code_slots (parts_of it) =
    answered_length asked.stubs laid.code ∙ ap length laid.blank ∙ blanked_length reach laid.relocated ∙ laid.laid.size in
    subst (λ words. Fits (own_begin it) (length words) (code_slots (parts_of it))) (sym laid.whole)
    (setup_fits code laid.stores it.linked.begun.slot (code_slots (parts_of it)) size)

pub all_fit : (asked : Asked) (program : Linked) (it : IsLinkedAs asked program) → Fits (own_begin it) (length program.words.items) (entry_slots asked.packet + code_slots (parts_of it))
all_fit asked program it = words_fit asked.packet asked it.own.words.items program.words.items (own_begin it) (code_slots (parts_of it)) it.words (own_fits asked program it)

-- a slot of a section, as one of the code
in_code : (parts : Sides) (side : Side) (p k : ℕ) → length parts.code.slots ≡ 8 * slots_in parts.code → p < slots_in (part_of parts side) → k < 8
    → get_or (part_of parts side).slots (8 * p + k) 0 ≡ get_or (unlinked parts) (8 * (first_of parts side + p) + k) 0
in_code parts Code p k whole inside small =
    let place : 8 * (0 + p) + k ≡ 8 * p + k = omega arith in
    sym (ap (λ i. get_or (unlinked parts) i 0) place ∙ get_or_append_left parts.code.slots parts.text.slots 0 (8 * p + k) (omega (arith, whole)))
in_code parts Text p k whole inside small =
    let n = slots_in parts.code in
    let rest : 8 * (n + p) + k - 8 * n ≡ 8 * p + k = omega arith in
    sym (get_or-append_right parts.code.slots parts.text.slots (8 * n) (8 * (n + p) + k) 0 whole (omega arith) ∙ ap (λ i. get_or parts.text.slots i 0) rest)

-- what doesn't count leaves the slots of the sections
same_slots : (plan other : Plan) (side : Side) → other.parts.code.slots ≡ plan.parts.code.slots → other.parts.text.slots ≡ plan.parts.text.slots
    → (part_of other.parts side).slots ≡ (part_of plan.parts side).slots
same_slots plan other Code code text = code
same_slots plan other Text code text = text

same_first : (plan other : Plan) (side : Side) → other.parts.code.slots ≡ plan.parts.code.slots → first_of other.parts side ≡ first_of plan.parts side
same_first plan other Code code = refl
same_first plan other Text code = ap (λ slots. length slots / 8) code

inside_code : (parts : Sides) (side : Side) (p : ℕ) → p < slots_in (part_of parts side) → first_of parts side + p < code_slots parts
inside_code parts Code p low = omega arith
inside_code parts Text p low = omega arith

record IsThere (parts : Sides) (own : List ℕ) (begin n k : ℕ) : Type 0 where
  inside : n < code_slots parts
  same : get_or own (8 * (begin + n) + k) 0 ≡ get_or (unlinked parts) (8 * n + k) 0

own_there : (asked : Asked) (program : Linked) (it : IsLinkedAs asked program) (n k : ℕ) → IsKept it n → k < 8 → IsThere (parts_of it) it.own.words.items (own_begin it) n k
own_there asked program it n k kept small =
    let begun = it.linked.begun in
    let plan = begun.plan in
    let side = kept.side in
    let p = kept.slot in
    let begin = own_begin it in
    let there = first_of plan.parts side + p in
    let slots = same_slots plan (counts begun) side refl refl in
    let first = same_first plan (counts begun) side refl in
    let place : n ≡ there = kept.place ∙ ap (λ m. m + p) first in
    let low : p < slots_in (part_of plan.parts side) = subst (λ (l : List ℕ). p < length l / 8) slots kept.left.inside in
    let same : get_or it.own.words.items (8 * (begin + there) + k) 0 ≡ get_or (unlinked plan.parts) (8 * there + k) 0 =
    ap (λ m. get_or it.own.words.items (8 * (begin + (m + p)) + k) 0) (sym first)
    ∙ slots_stay asked.object asked.name asked.entry asked.stubs it.own it.linked side p k kept.left small
    ∙ ap (λ (l : List ℕ). get_or l (8 * p + k) 0) slots
    ∙ in_code plan.parts side p k it.linked.made.laid.parts.code low small in
    subst (λ m. IsThere plan.parts it.own.words.items begin m k) (sym place) (record { inside = inside_code plan.parts side p low; same = same })

pub code_there : (asked : Asked) (program : Linked) (it : IsLinkedAs asked program) (n k : ℕ) → IsKept it n → k < 8
    → get_or program.words.items (8 * (code_begin it + n) + k) 0 ≡ get_or (unlinked (parts_of it)) (8 * n + k) 0
code_there asked program it n k kept small =
    let own = own_there asked program it n k kept small in
    let fits = own_fits asked program it in
    let place : 8 * (entry_slots asked.packet + own_begin it + n) + k ≡ 8 * (entry_slots asked.packet + (own_begin it + n)) + k = omega arith in
    ap (λ i. get_or program.words.items i 0) place
    ∙ words_at asked.packet asked it.own.words.items program.words.items it.words (own_begin it + n) k
    (reaches (own_begin it) (length it.own.words.items) (code_slots (parts_of it)) n fits own.inside) kept.no_access small
    ∙ own.same
