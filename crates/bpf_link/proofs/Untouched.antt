-- The slots that no relocation, no stub and no setup names.
use Rattle.std.proofs.Common.{◌≡◌, ◌<◌, ◌≤◌, ℕ, ◌+◌, ◌-◌, ◌*◌, ◌/◌, ◌==◌, Bool, true, false, List, ◌++◌, length, get_or, ap, ◌∙◌, arith, length-append}
use Rattle.std.specs.Prelude.{None, ◌&&◌, if◌then◌else◌}
use Rattle.std.proofs.lemmas.List.{get_or-append_right, get_or_append_left}
use Rattle.byteorder.specs.Endian.{little_bytes}
use Rattle.byteorder.specs.Numbers.{length-bytes_low_first}
use Rattle.bpf_link.specs.declared.parts.Side.{Side}
use Rattle.bpf_link.specs.declared.parts.Side.TheVariants.{Code, Text}
use Rattle.bpf_link.specs.declared.stubs.Stub.{Stub}
use Rattle.bpf_link.specs.Begun.{counts}
use Rattle.bpf_link.specs.Blanked.{blanked}
use Rattle.bpf_link.specs.Data.{Numbered, numbered}
use Rattle.bpf_link.specs.Laid.{IsLaid, IsPlain}
use Rattle.bpf_link.specs.Setup.{jump_words, clear_words, with_setup}
use Rattle.bpf_link.specs.Stubs.{answer_in, answered}
use Rattle.bpf_link.specs.Untouched.{lead, IsLeft, OtherSlotsStay}
use Rattle.bpf_link.proofs.Blanking.{blanked_kept, blanked_length}
use Rattle.bpf_link.proofs.Answered.{AreSame, answer_same, answered_length, kept}
use Rattle.bpf_link.proofs.Inversions.{count, from, here}

jump_length : (distance : ℕ) → length (jump_words distance) ≡ 8
jump_length distance = let four : length (little_bytes 4 distance) ≡ 4 = length-bytes_low_first 0 4 distance in omega (arith, four)

behind_jump : (distance : ℕ) (code : List ℕ) (j : ℕ) → get_or (jump_words distance ++ code) (8 + j) 0 ≡ get_or code j 0
behind_jump distance code j =
    let rest : 8 + j - 8 ≡ j = omega arith in
    get_or-append_right (jump_words distance) code 8 (8 + j) 0 (jump_length distance) (omega arith) ∙ ap (λ i. get_or code i 0) rest

-- the code in the words of a program
in_words : (none first : Bool) (a b entry j : ℕ) (code stores : List ℕ) → j < length code
    → get_or (if none then (if first then code else jump_words entry ++ code) else (jump_words a ++ code) ++ (stores ++ clear_words) ++ jump_words b) (8 * (if none && first then 0 else 1) + j) 0
    ≡ get_or code j 0
in_words true true a b entry j code stores inside = ap (λ i. get_or code i 0) (omega arith)
in_words true false a b entry j code stores inside = behind_jump entry code j
in_words false first a b entry j code stores inside =
    let begun = jump_words a ++ code in
    let size : length begun ≡ 8 + length code = length-append (jump_words a) code ∙ ap (λ n. n + length code) (jump_length a) in
    let more : length (begun ++ (stores ++ clear_words)) ≡ length begun + length (stores ++ clear_words) = length-append begun (stores ++ clear_words) in
    get_or_append_left (begun ++ (stores ++ clear_words)) (jump_words b) 0 (8 + j) (omega (arith, size, more))
    ∙ get_or_append_left begun (stores ++ clear_words) 0 (8 + j) (omega (arith, size))
    ∙ behind_jump a code j

code_in : (code stores : List ℕ) (entry j : ℕ) → j < length code → get_or (with_setup code stores entry) (8 * lead stores entry + j) 0 ≡ get_or code j 0
code_in code stores entry j inside = in_words (length stores == 0) (entry == 0) _ _ entry j code stores inside

-- a slot that no relocation names, before calls are answered
laid_plain : (placed : Numbered) (code : List ℕ) (side : Side) (p : ℕ) → IsLaid placed code → p < count placed side → IsPlain (here placed side) p
    → AreSame code (from placed side + p) (here placed side).slots p
laid_plain placed code Code p laid inside plain = λ k small. ap (λ i. get_or code i 0) (omega arith) ∙ laid.code p k inside small plain
laid_plain placed code Text p laid inside plain = λ k small. laid.text p k inside small plain

within : (placed : Numbered) (code : List ℕ) (side : Side) (p : ℕ) → IsLaid placed code → p < count placed side → 8 * (from placed side + p) + 8 ≤ length code
within placed code Code p laid inside = let size = laid.size in omega (arith, size)
within placed code Text p laid inside = let size = laid.size in omega (arith, size)

stays : (placed : Numbered) (relocated stores : List ℕ) (entry : ℕ) (reach : List Bool) (stubs : List Stub) (side : Side) (p k : ℕ) → IsLaid placed relocated
    → IsLeft placed.plan reach stubs side p → k < 8
    → get_or (with_setup (answered stubs (blanked reach relocated)) stores entry) (8 * (lead stores entry + (from placed side + p)) + k) 0 ≡ get_or (here placed side).slots (8 * p + k) 0
stays placed relocated stores entry reach stubs side p k laid left small =
    let slot = from placed side + p in
    let code = blanked reach relocated in
    let plain : AreSame relocated slot (here placed side).slots p = laid_plain placed relocated side p laid left.inside left.plain in
    let there : AreSame code slot relocated slot = blanked_kept reach relocated slot left.reached in
    let same : AreSame code slot (here placed side).slots p = λ k small. there k small ∙ plain k small in
    let none : answer_in stubs code slot ≡ None = answer_same stubs code (here placed side).slots slot p same ∙ left.unanswered in
    let room : 8 * slot + 8 ≤ length relocated = within placed relocated side p laid left.inside in
    let blank = blanked_length reach relocated in
    let size = answered_length stubs code in
    let place : 8 * (lead stores entry + slot) + k ≡ 8 * lead stores entry + (8 * slot + k) = omega arith in
    ap (λ i. get_or (with_setup (answered stubs code) stores entry) i 0) place
    ∙ code_in (answered stubs code) stores entry (8 * slot + k) (omega (arith, room, size, blank))
    ∙ kept stubs code slot (length code / 8) none (omega arith) k small
    ∙ same k small

pub law : OtherSlotsStay
law object name entry stubs program linked side p k left small =
    let laid = linked.made.laid in
    let reach = linked.begun.reach in
    let placed = numbered (counts linked.begun) laid.maps laid.taken in
    let place : ℕ = 8 * (lead laid.stores linked.begun.slot + (from placed side + p)) + k in
    ap (λ words. get_or words place 0) laid.whole
    ∙ ap (λ code. get_or (with_setup (answered stubs code) laid.stores linked.begun.slot) place 0) laid.blank
    ∙ stays placed laid.relocated laid.stores linked.begun.slot reach stubs side p k laid.laid left small
