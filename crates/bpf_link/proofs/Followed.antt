-- From a slot that is reached the code leads to such slots alone.
use Rattle.std.proofs.Common.{◌≡◌, ◌<◌, ◌≤◌, ◌⊎◌, inl, inr, ℕ, zero, suc, ◌+◌, ◌*◌, ◌/◌, ◌%◌, ◌==◌, nat_lt, Bool, true, false, List, [], ◌∷◌, ◌++◌, Result, Ok, Err, length, take, drop, get_or, refl, sym, ap, ◌∙◌, subst, arith, append-nil, length-append}
use Rattle.std.specs.Prelude.{None, filter, if◌then◌else◌, not, ◌&&◌, ◌||◌}
use Rattle.std.proofs.lemmas.List.{get_or_append_left, get_or_push, take-append-drop}
use Rattle.std.proofs.lemmas.List.Elements.{filter-append}
use Rattle.std.proofs.Math.Seq.{take-length, take-suc}
use Rattle.std.proofs.lemmas.Grind.{common_steps}
use Rattle.bpf_isa.specs.Words.{u16_at, u32_at}
use Rattle.bpf_link.specs.declared.fault.LinkFault.{LinkFault}
use Rattle.bpf_link.specs.declared.fault.LinkFault.TheVariants.{Place, Symbol}
use Rattle.bpf_link.specs.declared.fault.RelocationFault.TheVariants.{CallTarget, Extern, NoCall, NoLoad, RelocationKind}
use Rattle.bpf_link.specs.declared.layout.RelocationEntry.{RelocationEntry}
use Rattle.bpf_link.specs.declared.layout.SymbolEntry.{SymbolEntry}
use Rattle.bpf_link.specs.declared.parts.Side.{Side}
use Rattle.bpf_link.specs.declared.parts.Side.TheVariants.{Code, Text}
use Rattle.bpf_link.specs.declared.patch.Patch.{Patch}
use Rattle.bpf_link.specs.declared.plan.Plan.{Plan}
use Rattle.bpf_link.specs.Blanked.{blanked}
use Rattle.bpf_link.specs.Data.{Numbered, numbered}
use Rattle.bpf_link.specs.Followed.{ReachedLeadToReached}
use Rattle.bpf_link.specs.Links.{patch_width, relocated, unlinked, with_patch, with_relocation}
use Rattle.bpf_link.specs.Objects.{provided}
use Rattle.bpf_link.specs.Parts.{AreParts, first_of, part_of, slots_in}
use Rattle.bpf_link.specs.Patches.{call_patch, call_to, is_call, is_next, is_short_load, load_patch, patch_at, patch_of, patch_with, side_with, symbol_fault, width_of}
use Rattle.bpf_link.specs.Plans.{after}
use Rattle.bpf_link.specs.Pruned.{all_tried, flow_of, is_kept, pruned, tried}
use Rattle.bpf_link.specs.Reach.{goes_on, is_reached, jumps, leads, opcode_at, registers_at, target_of}
use Rattle.bpf_link.specs.Tables.{relocation_at, symbol_at}
use Rattle.bpf_link.proofs.Answered.{AreSame, number_same}
use Rattle.bpf_link.proofs.Blanking.{blanked_kept}
use Rattle.bpf_link.proofs.Flows.{Agree, Beside, HasOpcodes, IsAlike, IsLoad, both, first, second}
use Rattle.bpf_link.proofs.Inversions.{after_ok, from, here, kind_of, ok_same, provided_ok, stands_at}
use Rattle.bpf_link.proofs.Slots.{width}
use Rattle.bpf_link.proofs.LaidOut.{Done, done, raw, raw_code, raw_length, raw_text}

-- slots that say the same lead to the same
place_same : (xs ys : List ℕ) (s k : ℕ) → AreSame xs s ys s → k < 8 → (j : ℕ) → j ≡ 8 * s + k → get_or xs j 0 ≡ get_or ys j 0
place_same xs ys s k same small j here = ap (λ i. get_or xs i 0) here ∙ same k small ∙ sym (ap (λ i. get_or ys i 0) here)

offset_same : (xs ys : List ℕ) (i : ℕ) → get_or xs i 0 ≡ get_or ys i 0 → get_or xs (i + 1) 0 ≡ get_or ys (i + 1) 0 → u16_at xs i ≡ u16_at ys i
offset_same xs ys i a b = omega (arith, a, b)

leads_same : (xs ys : List ℕ) (s q : ℕ) → AreSame xs s ys s → leads xs s q ≡ leads ys s q
leads_same xs ys s q same =
    let opcode : opcode_at xs s ≡ opcode_at ys s = place_same xs ys s 0 same (omega arith) (8 * s) (omega arith) in
    let registers : registers_at xs s ≡ registers_at ys s = place_same xs ys s 1 same (omega arith) (8 * s + 1) (omega arith) in
    let offset : u16_at xs (8 * s + 2) ≡ u16_at ys (8 * s + 2) =
    offset_same xs ys (8 * s + 2) (place_same xs ys s 2 same (omega arith) (8 * s + 2) (omega arith)) (place_same xs ys s 3 same (omega arith) (8 * s + 2 + 1) (omega arith)) in
    let imm : u32_at xs (8 * s + 4) ≡ u32_at ys (8 * s + 4) =
    number_same xs ys (8 * s + 4) (8 * s + 4) (place_same xs ys s 4 same (omega arith) (8 * s + 4) (omega arith)) (place_same xs ys s 5 same (omega arith) (8 * s + 4 + 1) (omega arith))
    (place_same xs ys s 6 same (omega arith) (8 * s + 4 + 2) (omega arith)) (place_same xs ys s 7 same (omega arith) (8 * s + 4 + 2 + 1) (omega arith)) in
    led opcode registers offset imm
  where
    way : ℕ → ℕ → ℕ → ℕ → Bool
    way o r f i =
        let far = (if (o == 0x85) || (o == 0x06) then i else (if nat_lt f 32768 then f else f + 4294901760)) in
        (goes_on o && (q == s + 1)) || (jumps o r && (q == (s + 1 + far) % 4294967296))

    led : opcode_at xs s ≡ opcode_at ys s → registers_at xs s ≡ registers_at ys s → u16_at xs (8 * s + 2) ≡ u16_at ys (8 * s + 2) → u32_at xs (8 * s + 4) ≡ u32_at ys (8 * s + 4) → leads xs s q ≡ leads ys s q
    led o r f i =
        ap (λ n. way n (registers_at xs s) (u16_at xs (8 * s + 2)) (u32_at xs (8 * s + 4))) o
        ∙ ap (λ n. way (opcode_at ys s) n (u16_at xs (8 * s + 2)) (u32_at xs (8 * s + 4))) r
        ∙ ap (λ n. way (opcode_at ys s) (registers_at ys s) n (u32_at xs (8 * s + 4))) f
        ∙ ap (λ n. way (opcode_at ys s) (registers_at ys s) (u16_at ys (8 * s + 2)) n) i

load_leads : (xs : List ℕ) (s q o : ℕ) → opcode_at xs s ≡ o → leads xs s q ≡ ((goes_on o && (q == s + 1)) || (jumps o (registers_at xs s) && (q == target_of xs s)))
load_leads xs s q o e = ap (λ n. (goes_on n && (q == s + 1)) || (jumps n (registers_at xs s) && (q == target_of xs s))) e

pub alike_leads : (raw xs ys : List ℕ) (s q : ℕ) → HasOpcodes raw xs → HasOpcodes raw ys → IsAlike raw xs ys s → leads xs s q ≡ leads ys s q
alike_leads raw xs ys s q of_x of_y (inl same) = leads_same xs ys s q same
alike_leads raw xs ys s q of_x of_y (inr (inl wide)) = load_leads xs s q 0x18 (of_x s ∙ wide) ∙ sym (load_leads ys s q 0x18 (of_y s ∙ wide))
alike_leads raw xs ys s q of_x of_y (inr (inr none)) = load_leads xs s q 0 (of_x s ∙ none) ∙ sym (load_leads ys s q 0 (of_y s ∙ none))

-- what relocations make of calls doesn't depend on what counts
after_same : {A B : Type 0} (r : Result A LinkFault) (f g : A → Result B LinkFault) → ((a : A) → f a ≡ g a) → after r f ≡ after r g
after_same (Ok a) f g same = same a
after_same (Err fault) f g same = refl

call_to_same : (reach : List Bool) (plan : Plan) (side : Side) (value imm slot : ℕ) (fault : LinkFault) → call_to (pruned reach plan).parts side value imm slot fault ≡ call_to plan.parts side value imm slot fault
call_to_same reach plan Code value imm slot fault = refl
call_to_same reach plan Text value imm slot fault = refl

call_same : (reach : List Bool) (plan : Plan) (slots : List ℕ) (symbol : SymbolEntry) (at slot : ℕ) → call_patch (pruned reach plan) slots symbol at slot ≡ call_patch plan slots symbol at slot
call_same reach plan slots symbol at slot =
    ap (provided (is_call slots at) (symbol_fault plan symbol slot NoCall))
    (after_same (side_with plan.parts symbol.section (symbol_fault plan symbol slot CallTarget))
    (λ side. call_to (pruned reach plan).parts side symbol.value (u32_at slots (at + 4)) slot (symbol_fault plan symbol slot CallTarget))
    (λ side. call_to plan.parts side symbol.value (u32_at slots (at + 4)) slot (symbol_fault plan symbol slot CallTarget))
    (λ side. call_to_same reach plan side symbol.value (u32_at slots (at + 4)) slot (symbol_fault plan symbol slot CallTarget)))

abbrev call_of : Numbered → Side → RelocationEntry → SymbolEntry → Result Patch LinkFault
call_of placed side relocation symbol =
    let slot = from placed side + relocation.offset / 8 in
    provided (not (symbol.section == 0)) (symbol_fault placed.plan symbol slot Extern) (call_patch placed.plan (here placed side).slots symbol relocation.offset slot)

is_of_call : (placed : Numbered) (side : Side) (relocation : RelocationEntry) (symbol : SymbolEntry) → (relocation.kind == 10) ≡ true → patch_with placed side relocation symbol ≡ call_of placed side relocation symbol
is_of_call placed side relocation symbol e =
    let slot = from placed side + relocation.offset / 8 in
    let part = here placed side in
    ap (λ b. provided (not (symbol.section == 0)) (symbol_fault placed.plan symbol slot Extern)
    (if b then call_patch placed.plan part.slots symbol relocation.offset slot
    else (if relocation.kind == 1
    then provided (nat_lt (relocation.offset / 8 + 1) (slots_in part)) (symbol_fault placed.plan symbol slot NoLoad) (load_patch placed part.slots symbol relocation.offset slot)
    else Err (symbol_fault placed.plan symbol slot RelocationKind)))) e

call_of_same : (reach : List Bool) (plan : Plan) (maps taken : List ℕ) (side : Side) (relocation : RelocationEntry) (symbol : SymbolEntry)
    → call_of (numbered (pruned reach plan) maps taken) side relocation symbol ≡ call_of (numbered plan [] []) side relocation symbol
call_of_same reach plan maps taken Code relocation symbol =
    ap (provided (not (symbol.section == 0)) (symbol_fault plan symbol (0 + relocation.offset / 8) Extern)) (call_same reach plan plan.parts.code.slots symbol relocation.offset (0 + relocation.offset / 8))
call_of_same reach plan maps taken Text relocation symbol =
    ap (provided (not (symbol.section == 0)) (symbol_fault plan symbol (first_of plan.parts Text + relocation.offset / 8) Extern)) (call_same reach plan plan.parts.text.slots symbol relocation.offset (first_of plan.parts Text + relocation.offset / 8))

with_same : (reach : List Bool) (plan : Plan) (maps taken : List ℕ) (side : Side) (relocation : RelocationEntry) (symbol : SymbolEntry) → (relocation.kind == 10) ≡ true
    → patch_with (numbered (pruned reach plan) maps taken) side relocation symbol ≡ patch_with (numbered plan [] []) side relocation symbol
with_same reach plan maps taken side relocation symbol e =
    is_of_call (numbered (pruned reach plan) maps taken) side relocation symbol e ∙ call_of_same reach plan maps taken side relocation symbol ∙ sym (is_of_call (numbered plan [] []) side relocation symbol e)

abbrev tested : Plan → Side → RelocationEntry → Result Patch LinkFault → Result Patch LinkFault
tested plan side relocation next =
    provided (relocation.offset % 8 == 0) Place
    (provided (nat_lt (relocation.offset / 8) (slots_in (part_of plan.parts side))) Place
    (provided (nat_lt relocation.symbol (length plan.symbols)) (Symbol (first_of plan.parts side + relocation.offset / 8)) next))

at_same : (reach : List Bool) (plan : Plan) (maps taken : List ℕ) (side : Side) (relocation : RelocationEntry) → (relocation.kind == 10) ≡ true
    → patch_at (numbered (pruned reach plan) maps taken) side relocation ≡ patch_at (numbered plan [] []) side relocation
at_same reach plan maps taken Code relocation e = ap (tested plan Code relocation) (with_same reach plan maps taken Code relocation (symbol_at plan.symbols relocation.symbol) e)
at_same reach plan maps taken Text relocation e = ap (tested plan Text relocation) (with_same reach plan maps taken Text relocation (symbol_at plan.symbols relocation.symbol) e)

-- what a relocation that is done names: the slot of a call, or those of a wide load
none_of : (parts_of : Plan) (side : Side) (value imm slot : ℕ) (fault : LinkFault) (patch : Patch) → call_to parts_of.parts side value imm slot fault ≡ Ok patch → patch.next ≡ None
none_of plan side value imm slot fault patch e =
    let a = provided_ok (value % 8 == 0) fault _ _ e in
    let b = provided_ok (nat_lt (value / 8) (slots_in (part_of plan.parts side))) fault _ _ a.1 in
    let c = provided_ok (nat_lt ((value / 8 + imm + 1) % 4294967296) (slots_in (part_of plan.parts side))) fault _ _ b.1 in
    sym (ap (λ p. p.next) (ok_same _ patch c.1))

call_none : (placed : Numbered) (side : Side) (relocation : RelocationEntry) (patch : Patch) → patch_at placed side relocation ≡ Ok patch → (relocation.kind == 10) ≡ true → patch.next ≡ None
call_none placed side relocation patch e kind =
    let symbol = symbol_at placed.plan.symbols relocation.symbol in
    let slot = from placed side + relocation.offset / 8 in
    let slots = (here placed side).slots in
    let a = provided_ok (not (symbol.section == 0)) _ _ patch (sym (is_of_call placed side relocation symbol kind) ∙ (stands_at placed side relocation patch e).with) in
    let b = provided_ok (is_call slots relocation.offset) _ _ patch a.1 in
    let fault = symbol_fault placed.plan symbol slot CallTarget in
    let c = after_ok (side_with placed.plan.parts symbol.section fault) (λ to. call_to placed.plan.parts to symbol.value (u32_at slots (relocation.offset + 4)) slot fault) patch b.1 in
    none_of placed.plan c.0 symbol.value (u32_at slots (relocation.offset + 4)) slot fault patch c.2

pub record Stands (plan : Plan) (side : Side) (relocation : RelocationEntry) (patch : Patch) : Type 0 where
  pub at : patch.at ≡ 8 * (first_of plan.parts side + relocation.offset / 8)
  pub whole : relocation.offset % 8 ≡ 0
  pub inside : relocation.offset / 8 < slots_in (part_of plan.parts side)
  pub width : patch_width patch ≡ width_of relocation
  pub fits : patch.at + patch_width patch ≤ 8 * (first_of plan.parts side + slots_in (part_of plan.parts side))
  pub kind : (((relocation.kind == 10) ≡ true) × (patch.next ≡ None)) ⊎ (((relocation.kind == 1) ≡ true) × (is_short_load (part_of plan.parts side).slots relocation.offset ≡ true))

kinds : (placed : Numbered) (side : Side) (relocation : RelocationEntry) (patch : Patch) → patch_at placed side relocation ≡ Ok patch
    → ((relocation.kind == 10) ≡ true) ⊎ (((relocation.kind == 1) ≡ true) × (is_short_load (here placed side).slots relocation.offset ≡ true))
    → (((relocation.kind == 10) ≡ true) × (patch.next ≡ None)) ⊎ (((relocation.kind == 1) ≡ true) × (is_short_load (here placed side).slots relocation.offset ≡ true))
kinds placed side relocation patch e (inl call) = inl (call, call_none placed side relocation patch e call)
kinds placed side relocation patch e (inr load) = inr load

plain : (plan : Plan) (side : Side) (relocation : RelocationEntry) (patch : Patch) → patch_at (numbered plan [] []) side relocation ≡ Ok patch → Stands plan side relocation patch
plain plan side relocation patch e =
    let placed = numbered plan [] [] in
    let s = stands_at placed side relocation patch e in
    record { at = s.at; whole = s.whole; inside = s.inside; width = s.width; fits = s.fits; kind = kinds placed side relocation patch e (kind_of placed side relocation patch e) }

counted : (reach : List Bool) (plan : Plan) (maps taken : List ℕ) (side : Side) (relocation : RelocationEntry) (patch : Patch)
    → patch_at (numbered (pruned reach plan) maps taken) side relocation ≡ Ok patch → Stands plan side relocation patch
counted reach plan maps taken Code relocation patch e =
    let placed = numbered (pruned reach plan) maps taken in
    let s = stands_at placed Code relocation patch e in
    record { at = s.at; whole = s.whole; inside = s.inside; width = s.width; fits = s.fits; kind = kinds placed Code relocation patch e (kind_of placed Code relocation patch e) }
counted reach plan maps taken Text relocation patch e =
    let placed = numbered (pruned reach plan) maps taken in
    let s = stands_at placed Text relocation patch e in
    record { at = s.at; whole = s.whole; inside = s.inside; width = s.width; fits = s.fits; kind = kinds placed Text relocation patch e (kind_of placed Text relocation patch e) }

-- the object's own slots
raw_at : (plan : Plan) (side : Side) (j : ℕ) → AreParts plan.parts → j < 8 * slots_in (part_of plan.parts side)
    → get_or (unlinked plan.parts) (8 * first_of plan.parts side + j) 0 ≡ get_or (part_of plan.parts side).slots j 0
raw_at plan Code j whole inside = ap (λ i. get_or (unlinked plan.parts) i 0) (omega arith) ∙ raw_code (numbered plan [] []) j whole inside
raw_at plan Text j whole inside = raw_text (numbered plan [] []) j (8 * first_of plan.parts Text + j) whole refl

all_in : (plan : Plan) (side : Side) → AreParts plan.parts → 8 * (first_of plan.parts side + slots_in (part_of plan.parts side)) ≤ length (unlinked plan.parts)
all_in plan Code whole = let size = raw_length (numbered plan [] []) whole in omega (arith, size)
all_in plan Text whole = let size = raw_length (numbered plan [] []) whole in omega (arith, size)

opcodes : (a b c d : Bool) → (a && (b && (c && d))) ≡ true → (a ≡ true) × (b ≡ true)
opcodes a b c d h = (grind (arith, common_steps), grind (arith, common_steps))

is_number : (n m : ℕ) → (n == m) ≡ true → n ≡ m
is_number n m e = grind (arith, common_steps)

-- a slot beside those of a patch, or one of a wide load
where_stands : (s t : ℕ) → (s < t) ⊎ ((s ≡ t) ⊎ ((s ≡ t + 1) ⊎ (t + 2 ≤ s)))
where_stands s t = grind arith

sixteen : (b : Bool) → (if b then 16 else 8) ≤ 16
sixteen true = omega arith
sixteen false = omega arith

of_load : (plan : Plan) (side : Side) (relocation : RelocationEntry) (patch : Patch) → AreParts plan.parts → Stands plan side relocation patch
    → ((relocation.kind == 1) ≡ true) × (is_short_load (part_of plan.parts side).slots relocation.offset ≡ true) → (s : ℕ) → Beside patch s ⊎ IsLoad (unlinked plan.parts) s
of_load plan side relocation patch whole stands load s = by (where_stands s (first_of plan.parts side + relocation.offset / 8))
  where
    slots : List ℕ
    slots = (part_of plan.parts side).slots

    codes : ((get_or slots relocation.offset 0 == 0x18) ≡ true) × ((get_or slots (relocation.offset + 8) 0 == 0) ≡ true)
    codes =
        opcodes (get_or slots relocation.offset 0 == 0x18) (get_or slots (relocation.offset + 8) 0 == 0) (get_or slots (relocation.offset + 1) 0 / 16 == 0) (u32_at slots (relocation.offset + 12) == 0) load.1

    wide : patch_width patch ≡ 16
    wide = stands.width ∙ ap (λ b. if b then 16 else 8) load.0

    by : (s < first_of plan.parts side + relocation.offset / 8) ⊎ ((s ≡ first_of plan.parts side + relocation.offset / 8)
        ⊎ ((s ≡ first_of plan.parts side + relocation.offset / 8 + 1) ⊎ (first_of plan.parts side + relocation.offset / 8 + 2 ≤ s))) → Beside patch s ⊎ IsLoad (unlinked plan.parts) s
    by (inl low) = let at = stands.at in inl (inl (omega (arith, at, low)))
    by (inr (inl same)) =
        let whole_ = stands.whole in
        let inside = stands.inside in
        inr (inl (ap (λ i. get_or (unlinked plan.parts) i 0) (omega (arith, same, whole_)) ∙ raw_at plan side relocation.offset whole (omega (arith, inside, whole_)) ∙ is_number (get_or slots relocation.offset 0) 0x18 codes.0))
    by (inr (inr (inl next))) =
        let whole_ = stands.whole in
        let at = stands.at in
        let fits = stands.fits in
        let sixteen_ = wide in
        inr (inr (ap (λ i. get_or (unlinked plan.parts) i 0) (omega (arith, next, whole_)) ∙ raw_at plan side (relocation.offset + 8) whole (omega (arith, at, fits, sixteen_, whole_)) ∙ is_number (get_or slots (relocation.offset + 8) 0) 0 codes.1))
    by (inr (inr (inr high))) = let at = stands.at in let sixteen_ = wide in inl (inr (omega (arith, at, sixteen_, high)))

-- a call in a slot that isn't reached stands beside each that is
of_call : (reach : List Bool) (plan : Plan) (side : Side) (relocation : RelocationEntry) (patch : Patch) → Stands plan side relocation patch → patch.next ≡ None
    → is_kept reach (first_of plan.parts side) relocation ≡ false → (s : ℕ) → is_reached reach s ≡ true → Beside patch s ⊎ IsLoad (unlinked plan.parts) s
of_call reach plan side relocation patch stands none dropped s known = by (where_stands s (first_of plan.parts side + relocation.offset / 8))
  where
    differ : ◌≡◌ {A = Bool} true false → ⊥
    differ e = cc

    by : (s < first_of plan.parts side + relocation.offset / 8) ⊎ ((s ≡ first_of plan.parts side + relocation.offset / 8)
        ⊎ ((s ≡ first_of plan.parts side + relocation.offset / 8 + 1) ⊎ (first_of plan.parts side + relocation.offset / 8 + 2 ≤ s))) → Beside patch s ⊎ IsLoad (unlinked plan.parts) s
    by (inl low) = let at = stands.at in inl (inl (omega (arith, at, low)))
    by (inr (inl same)) = absurd (differ (sym known ∙ ap (is_reached reach) same ∙ dropped))
    by (inr (inr (inl next))) = let at = stands.at in let eight : patch_width patch ≡ 8 = ap width none in inl (inr (omega (arith, at, eight, next)))
    by (inr (inr (inr high))) = let at = stands.at in let eight : patch_width patch ≡ 8 = ap width none in inl (inr (omega (arith, at, eight, high)))

-- one more relocation: in the code with its calls alone, and in both
in_flow : (reach : List Bool) (plan : Plan) (side : Side) (relocation : RelocationEntry) (a b : List ℕ) → AreParts plan.parts → Agree reach (unlinked plan.parts) a b
    → (kept : Bool) → is_kept reach (first_of plan.parts side) relocation ≡ kept → (kept ≡ false) ⊎ ((relocation.kind == 1) ≡ true)
    → (r : Result Patch LinkFault) → patch_at (numbered plan [] []) side relocation ≡ r → Agree reach (unlinked plan.parts) a (tried r b)
in_flow reach plan side relocation a b whole g kept k why (Err fault) e = g
in_flow reach plan side relocation a b whole g kept k why (Ok patch) e = by why stands.kind
  where
    stands : Stands plan side relocation patch
    stands = plain plan side relocation patch e

    fits : patch.at + patch_width patch ≤ length (unlinked plan.parts)
    fits = let inside = stands.fits in let all = all_in plan side whole in omega (arith, inside, all)

    even : patch.at % 8 ≡ 0
    even = let at = stands.at in omega (arith, at)

    not_both : (relocation.kind == 1) ≡ true → (relocation.kind == 10) ≡ true → ⊥
    not_both one ten = grind (arith, common_steps)

    by : (kept ≡ false) ⊎ ((relocation.kind == 1) ≡ true)
        → (((relocation.kind == 10) ≡ true) × (patch.next ≡ None)) ⊎ (((relocation.kind == 1) ≡ true) × (is_short_load (part_of plan.parts side).slots relocation.offset ≡ true))
        → Agree reach (unlinked plan.parts) a (with_patch b patch)
    by any (inr load) = second reach (unlinked plan.parts) a b patch g even fits (λ s known. of_load plan side relocation patch whole stands load s)
    by (inl dropped) (inl call) = second reach (unlinked plan.parts) a b patch g even fits (λ s known. of_call reach plan side relocation patch stands call.1 (k ∙ dropped) s known)
    by (inr one) (inl call) = absurd (not_both one call.0)

in_both : (reach : List Bool) (plan : Plan) (maps taken : List ℕ) (side : Side) (relocation : RelocationEntry) (a b : List ℕ) (patch : Patch) → AreParts plan.parts → Agree reach (unlinked plan.parts) a b
    → is_kept reach (first_of plan.parts side) relocation ≡ true → patch_at (numbered (pruned reach plan) maps taken) side relocation ≡ Ok patch
    → Agree reach (unlinked plan.parts) (with_patch a patch) (tried (patch_at (numbered plan [] []) side relocation) b)
in_both reach plan maps taken side relocation a b patch whole g kept e = by stands.kind
  where
    stands : Stands plan side relocation patch
    stands = counted reach plan maps taken side relocation patch e

    fits : patch.at + patch_width patch ≤ length (unlinked plan.parts)
    fits = let inside = stands.fits in let all = all_in plan side whole in omega (arith, inside, all)

    even : patch.at % 8 ≡ 0
    even = let at = stands.at in omega (arith, at)

    by : (((relocation.kind == 10) ≡ true) × (patch.next ≡ None)) ⊎ (((relocation.kind == 1) ≡ true) × (is_short_load (part_of plan.parts side).slots relocation.offset ≡ true))
        → Agree reach (unlinked plan.parts) (with_patch a patch) (tried (patch_at (numbered plan [] []) side relocation) b)
    by (inl call) =
        let eight : patch_width patch ≡ 8 = ap width call.1 in
        let same : patch_at (numbered plan [] []) side relocation ≡ Ok patch = sym (at_same reach plan maps taken side relocation call.0) ∙ e in
        subst (λ r. Agree reach (unlinked plan.parts) (with_patch a patch) (tried r b)) (sym same) (both reach (unlinked plan.parts) a b patch g even (let room = fits in omega (arith, room, eight)) call.1)
    by (inr load) =
        let one = first reach (unlinked plan.parts) a b patch g even fits (λ s known. of_load plan side relocation patch whole stands load s) in
        in_flow reach plan side relocation (with_patch a patch) b whole one true kept (inr load.0) (patch_at (numbered plan [] []) side relocation) refl

-- all relocations of a part
kept_list : (reach : List Bool) (plan : Plan) (side : Side) → (part_of (pruned reach plan).parts side).relocations ≡ filter (is_kept reach (first_of plan.parts side)) (part_of plan.parts side).relocations
kept_list reach plan Code = refl
kept_list reach plan Text = refl

one_filtered : (test : RelocationEntry → Bool) (relocations : List RelocationEntry) (n : ℕ) (kept : Bool) → n < length relocations → test (relocation_at relocations n) ≡ kept
    → filter test (take (suc n) relocations) ≡ filter test (take n relocations) ++ (if kept then relocation_at relocations n ∷ [] else [])
one_filtered test relocations n kept inside e =
    ap (filter test) (take-suc relocations n _ inside) ∙ filter-append test (take n relocations) (relocation_at relocations n ∷ [])
    ∙ ap (λ b. filter test (take n relocations) ++ (if b then relocation_at relocations n ∷ [] else [])) e

kept_at : (test : RelocationEntry → Bool) (relocations : List RelocationEntry) (n : ℕ) → n < length relocations → test (relocation_at relocations n) ≡ true
    → relocation_at (filter test relocations) (length (filter test (take n relocations))) ≡ relocation_at relocations n
kept_at test relocations n inside e =
    let before : List RelocationEntry = filter test (take n relocations) in
    let this : RelocationEntry = relocation_at relocations n in
    let rest : List RelocationEntry = filter test (drop (suc n) relocations) in
    let all : filter test relocations ≡ (before ++ this ∷ []) ++ rest =
    ap (filter test) (sym (take-append-drop (suc n) relocations)) ∙ filter-append test (take (suc n) relocations) (drop (suc n) relocations)
    ∙ ap (λ xs. xs ++ rest) (one_filtered test relocations n true inside e) in
    let size : length (before ++ this ∷ []) ≡ length before + 1 = length-append before (this ∷ []) in
    ap (λ xs. relocation_at xs (length before)) all ∙ get_or_append_left (before ++ this ∷ []) rest _ (length before) (omega (arith, size)) ∙ get_or_push before this _ (length before) refl

run : (reach : List Bool) (plan : Plan) (maps taken : List ℕ) (side : Side) (start_a start_b : List ℕ) → AreParts plan.parts → Agree reach (unlinked plan.parts) start_a start_b
    → (n : ℕ) → n ≤ length (part_of plan.parts side).relocations → (a : List ℕ)
    → relocated (numbered (pruned reach plan) maps taken) side start_a (length (filter (is_kept reach (first_of plan.parts side)) (take n (part_of plan.parts side).relocations))) ≡ Ok a
    → Agree reach (unlinked plan.parts) a (all_tried plan side start_b n)
run reach plan maps taken side start_a start_b whole g zero within a e = subst (λ w. Agree reach (unlinked plan.parts) w start_b) (ok_same start_a a e) g
run reach plan maps taken side start_a start_b whole g (suc n) within a e = by (is_kept reach (first_of plan.parts side) (relocation_at full n)) refl (λ w known. run reach plan maps taken side start_a start_b whole g n (omega (arith, within)) w known)
  where
    full : List RelocationEntry
    full = (part_of plan.parts side).relocations

    placed : Numbered
    placed = numbered (pruned reach plan) maps taken

    test : RelocationEntry → Bool
    test = is_kept reach (first_of plan.parts side)

    m : ℕ
    m = length (filter test (take n full))

    by : (kept : Bool) → test (relocation_at full n) ≡ kept → ((w : List ℕ) → relocated placed side start_a m ≡ Ok w → Agree reach (unlinked plan.parts) w (all_tried plan side start_b n))
        → Agree reach (unlinked plan.parts) a (all_tried plan side start_b (suc n))
    by true k rest =
        let more : length (filter test (take (suc n) full)) ≡ suc m = ap length (one_filtered test full n true within k) ∙ length-append (filter test (take n full)) (relocation_at full n ∷ []) ∙ omega arith in
        let f = after_ok (relocated placed side start_a m) (with_relocation placed side m) a (ap (relocated placed side start_a) (sym more) ∙ e) in
        let h = after_ok (patch_of placed side m) (λ patch. Ok (with_patch f.0 patch)) a f.2 in
        let i = provided_ok (is_next (here placed side).relocations m) Place _ h.0 h.1 in
        let which : relocation_at (here placed side).relocations m ≡ relocation_at full n = ap (λ list. relocation_at list m) (kept_list reach plan side) ∙ kept_at test full n within k in
        let known : patch_at placed side (relocation_at full n) ≡ Ok h.0 = subst (λ r. patch_at placed side r ≡ Ok h.0) which i.1 in
        let before = rest f.0 f.1 in
        subst (λ w. Agree reach (unlinked plan.parts) w (all_tried plan side start_b (suc n))) (ok_same (with_patch f.0 h.0) a h.2)
        (in_both reach plan maps taken side (relocation_at full n) f.0 (all_tried plan side start_b n) h.0 whole before k known)
    by false k rest =
        let same : length (filter test (take (suc n) full)) ≡ m = ap length (one_filtered test full n false within k ∙ append-nil (filter test (take n full))) in
        let before = rest a (ap (relocated placed side start_a) (sym same) ∙ e) in
        in_flow reach plan side (relocation_at full n) a (all_tried plan side start_b n) whole before false k (inl refl) (patch_at (numbered plan [] []) side (relocation_at full n)) refl

start : (reach : List Bool) (raw : List ℕ) → Agree reach raw raw raw
start reach raw = record { size_a = refl; size_b = refl; of_a = λ s. refl; of_b = λ s. refl; alike = λ s known. inl (λ k small. refl) }

whole_list : (test : RelocationEntry → Bool) (relocations : List RelocationEntry) → length (filter test (take (length relocations) relocations)) ≡ length (filter test relocations)
whole_list test relocations = ap (λ list. length (filter test list)) (take-length relocations)

flowing : (reach : List Bool) (plan : Plan) (maps taken : List ℕ) (words : List ℕ) → AreParts plan.parts → Done (numbered (pruned reach plan) maps taken) words
    → Agree reach (unlinked plan.parts) words (flow_of plan)
flowing reach plan maps taken words whole d =
    let placed = numbered (pruned reach plan) maps taken in
    let raw = unlinked plan.parts in
    let code = plan.parts.code.relocations in
    let text = plan.parts.text.relocations in
    let one = run reach plan maps taken Code raw raw whole (start reach raw) (length code) (omega arith) d.between (ap (relocated placed Code raw) (whole_list (is_kept reach 0) code) ∙ d.code) in
    run reach plan maps taken Text d.between (all_tried plan Code raw (length code)) whole one (length text) (omega arith) words
    (ap (relocated placed Text d.between) (whole_list (is_kept reach (first_of plan.parts Text)) text) ∙ d.text)

pub law : ReachedLeadToReached
law object name entry stubs program linked slot next known led inside =
    let begun = linked.begun in
    let plan = begun.plan in
    let reach = begun.reach in
    let laid = linked.made.laid in
    let parts = laid.parts in
    let whole : AreParts plan.parts = record { code = parts.code; text = parts.text; short = parts.short } in
    let agree = flowing reach plan laid.maps laid.taken laid.relocated whole (done (numbered (pruned reach plan) laid.maps laid.taken) laid.relocated parts laid.done) in
    let same : leads laid.code slot next ≡ leads (flow_of plan) slot next =
    ap (λ code. leads code slot next) laid.blank
    ∙ leads_same (blanked reach laid.relocated) laid.relocated slot next (blanked_kept reach laid.relocated slot known)
    ∙ alike_leads (unlinked plan.parts) laid.relocated (flow_of plan) slot next agree.of_a agree.of_b (agree.alike slot known) in
    begun.reached.goes slot next known (sym same ∙ led) inside
