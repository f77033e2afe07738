-- The slots of the code of two objects.
use Rattle.std.proofs.Common.{◌≡◌, ◌≢◌, ◌<◌, ◌≤◌, ◌⊎◌, inl, inr, ℕ, zero, suc, ◌+◌, ◌-◌, ◌*◌, ◌/◌, ◌%◌, ◌==◌, nat_lt, Bool, true, false, List, [], ◌++◌, length, get_or, refl, sym, subst, ap, ◌∙◌, arith, length-append, get_or-set_other}
use Rattle.std.specs.Prelude.{Option, Some, None, ◌&&◌, ◌||◌, if◌then◌else◌, slice_set}
use Rattle.std.proofs.lemmas.Bool.Decides.{nat_tests}
use Rattle.std.proofs.lemmas.List.{get_or-append-add, get_or_append_left, get_or-set_same, get_or_past}
use Rattle.byteorder.specs.Endian.{little_bytes}
use Rattle.bpf_isa.specs.Words.{u16_at, u32_at}
use Rattle.bpf_link.specs.Helpers.{helper_name}
use Rattle.bpf_link.specs.Links.{unlinked}
use Rattle.bpf_link.specs.Objects.{below}
use Rattle.bpf_link.specs.Parts.{slots_in}
use Rattle.bpf_packet.specs.Slots.{extended}
use Rattle.bpf_link.specs.Stubs.{calls_helper}
use Rattle.bpf_link.specs.Tables.{symbol_at}
use Rattle.bpf_link.specs.declared.plan.Plan.{Plan}
use Rattle.bpf_link.proofs.Lists.{below_at, below_length}
use Rattle.bpf_link.proofs.Slots.{u32_length, u32_low, u32_high, set_length}
use Rattle.bpf_join.specs.Codes.{called_below, called_in, joined_code, own_slots, with_call}
use Rattle.bpf_join.specs.Functions.{answering, callee, callees, slot_of}
use Rattle.bpf_link_laws.specs.Codes.{IsBoth, IsCall, answer}
use Rattle.bpf_link_laws.proofs.JoinNumbers.{AreSame, byte_of, part_of, plain, put_in, u32_back, u32_same}

-- one call
call_length : (own : ℕ) (slots : List ℕ) (p : ℕ) (to : Option ℕ) → 8 * p + 8 ≤ length slots → length (with_call own slots p to) ≡ length slots
call_length own slots p None fits = refl
call_length own slots p (Some to) fits =
    let size = set_length slots (8 * p + 1) 0x10 in
    u32_length (slice_set slots (8 * p + 1) 0x10) (8 * p + 4) (own + to - (p + 1)) (omega arith) ∙ size

call_apart : (own : ℕ) (slots : List ℕ) (p : ℕ) (to : Option ℕ) (j : ℕ) → 8 * p + 8 ≤ length slots → (j < 8 * p) ⊎ (8 * p + 8 ≤ j) → get_or (with_call own slots p to) j 0 ≡ get_or slots j 0
call_apart own slots p None j fits side = refl
call_apart own slots p (Some to) j fits (inl low) =
    let size = set_length slots (8 * p + 1) 0x10 in
    let other : j ≢ 8 * p + 1 = omega arith in
    u32_low (slice_set slots (8 * p + 1) 0x10) (8 * p + 4) (own + to - (p + 1)) j (omega arith) (omega arith) ∙ get_or-set_other slots (8 * p + 1) j 0x10 0 other
call_apart own slots p (Some to) j fits (inr high) =
    let size = set_length slots (8 * p + 1) 0x10 in
    let other : j ≢ 8 * p + 1 = omega arith in
    u32_high (slice_set slots (8 * p + 1) 0x10) (8 * p + 4) (own + to - (p + 1)) j (omega arith) (omega arith) ∙ get_or-set_other slots (8 * p + 1) j 0x10 0 other

called_length : (functions : List (Option ℕ)) (own : ℕ) (slots : List ℕ) (n : ℕ) → 8 * n ≤ length slots → length (called_below functions own slots n) ≡ length slots
called_length functions own slots zero fits = refl
called_length functions own slots (suc n) fits =
    let before = called_length functions own slots n (omega arith) in
    call_length own (called_below functions own slots n) n (called_in functions (called_below functions own slots n) n) (omega arith) ∙ before

-- two slots of the same bytes call the same
number_of : (functions : List (Option ℕ)) (xs : List ℕ) (s n m : ℕ) → n ≡ m → (if calls_helper xs s then get_or functions n None else None) ≡ (if calls_helper xs s then get_or functions m None else None)
number_of functions xs s n m e = ap (λ n. if calls_helper xs s then get_or functions n None else None) e

pub called_same : (functions : List (Option ℕ)) (xs ys : List ℕ) (s t : ℕ) → AreSame 8 xs (8 * s) ys (8 * t) → called_in functions xs s ≡ called_in functions ys t
called_same functions xs ys s t same =
    let zeroth : get_or xs (8 * s) 0 ≡ get_or ys (8 * t) 0 = byte_of 8 xs (8 * s) ys (8 * t) 0 (8 * s) (8 * t) same (omega arith) (omega arith) (omega arith) in
    let number : u32_at xs (8 * s + 4) ≡ u32_at ys (8 * t + 4) = u32_same xs (8 * s + 4) ys (8 * t + 4) (part_of 8 xs (8 * s) ys (8 * t) 4 4 same (omega arith)) in
    number_of functions xs s (u32_at xs (8 * s + 4)) (u32_at ys (8 * t + 4)) number
    ∙ ap (λ a. if (a == 0x85) && (get_or xs (8 * s + 1) 0 == 0) then get_or functions (u32_at ys (8 * t + 4)) None else None) zeroth
    ∙ ap (λ b. if (get_or ys (8 * t) 0 == 0x85) && (b == 0) then get_or functions (u32_at ys (8 * t + 4)) None else None) (same 1 (omega arith))

-- a slot that isn't come to yet
later : (functions : List (Option ℕ)) (own : ℕ) (slots : List ℕ) (n p : ℕ) → n ≤ p → 8 * n ≤ length slots → AreSame 8 (called_below functions own slots n) (8 * p) slots (8 * p)
later functions own slots zero p low fits = λ k small. refl
later functions own slots (suc n) p low fits = λ k small.
    let size = called_length functions own slots n (omega arith) in
    call_apart own (called_below functions own slots n) n (called_in functions (called_below functions own slots n) n) (8 * p + k) (omega (arith, size)) (inr (omega arith))
    ∙ later functions own slots n p (omega arith) (omega arith) k small

-- what a slot becomes whose call goes on so far: src, and imm
pub record Becomes (words slots : List ℕ) (p distance : ℕ) : Type 0 where
  pub opcode : get_or words (8 * p) 0 ≡ get_or slots (8 * p) 0
  pub src : get_or words (8 * p + 1) 0 ≡ 0x10
  pub imm : (k : ℕ) → k < 4 → get_or words (8 * p + 4 + k) 0 ≡ get_or (little_bytes 4 distance) k 0

becomes : (own : ℕ) (slots : List ℕ) (p to : ℕ) → 8 * p + 8 ≤ length slots → Becomes (with_call own slots p (Some to)) slots p (own + to - (p + 1))
becomes own slots p to fits =
    let set = slice_set slots (8 * p + 1) 0x10 in
    let size : length set ≡ length slots = set_length slots (8 * p + 1) 0x10 in
    let other : 8 * p ≢ 8 * p + 1 = omega arith in
    record {
      opcode = u32_low set (8 * p + 4) (own + to - (p + 1)) (8 * p) (omega arith) (omega arith) ∙ get_or-set_other slots (8 * p + 1) (8 * p) 0x10 0 other;
      src = u32_low set (8 * p + 4) (own + to - (p + 1)) (8 * p + 1) (omega arith) (omega arith) ∙ get_or-set_same slots (8 * p + 1) 0x10 0 (omega arith);
      imm = λ k small. put_in 4 set (8 * p + 4) (own + to - (p + 1)) k (omega arith) small;
    }

moved_on : (xs ys slots : List ℕ) (p d : ℕ) → AreSame 8 xs (8 * p) ys (8 * p) → Becomes ys slots p d → Becomes xs slots p d
moved_on xs ys slots p d same it = record {
  opcode = byte_of 8 xs (8 * p) ys (8 * p) 0 (8 * p) (8 * p) same (omega arith) (omega arith) (omega arith) ∙ it.opcode;
  src = same 1 (omega arith) ∙ it.src;
  imm = λ k small. byte_of 8 xs (8 * p) ys (8 * p) (4 + k) (8 * p + 4 + k) (8 * p + 4 + k) same (omega arith) (omega arith) (omega arith) ∙ it.imm k small;
}

last_or : (i n : ℕ) → i < suc n → (i < n) ⊎ (i ≡ n)
last_or i n h = grind arith

-- the bytes before and behind the last call
beside : (functions : List (Option ℕ)) (own : ℕ) (slots : List ℕ) (n p : ℕ) → p < n → 8 * suc n ≤ length slots
    → AreSame 8 (called_below functions own slots (suc n)) (8 * p) (called_below functions own slots n) (8 * p)
beside functions own slots n p low fits = λ k small.
    let size = called_length functions own slots n (omega arith) in
    call_apart own (called_below functions own slots n) n (called_in functions (called_below functions own slots n) n) (8 * p + k) (omega (arith, size)) (inl (omega arith))

pub left : (functions : List (Option ℕ)) (own : ℕ) (slots : List ℕ) (n p : ℕ) → p < n → 8 * n ≤ length slots → called_in functions slots p ≡ None
    → AreSame 8 (called_below functions own slots n) (8 * p) slots (8 * p)
left functions own slots zero p low fits none = absurd (omega arith)
left functions own slots (suc n) p low fits none = by (last_or p n low) (λ less. left functions own slots n p less (omega arith) none)
  where
    by : (p < n) ⊎ (p ≡ n) → (p < n → AreSame 8 (called_below functions own slots n) (8 * p) slots (8 * p)) → AreSame 8 (called_below functions own slots (suc n)) (8 * p) slots (8 * p)
    by (inl less) rest = λ k small. beside functions own slots n p less fits k small ∙ rest less k small
    by (inr here) rest = λ k small.
        let before = called_below functions own slots n in
        let back : n ≡ p = omega (arith, here) in
        let there : AreSame 8 before (8 * p) slots (8 * p) = later functions own slots n p (omega (arith, here)) (omega arith) in
        let call : called_in functions before n ≡ None = ap (called_in functions before) back ∙ called_same functions before slots p p there ∙ none in
        ap (λ to. get_or (with_call own before n to) (8 * p + k) 0) call ∙ there k small

pub done : (functions : List (Option ℕ)) (own : ℕ) (slots : List ℕ) (n p to : ℕ) → p < n → 8 * n ≤ length slots → called_in functions slots p ≡ Some to
    → Becomes (called_below functions own slots n) slots p (own + to - (p + 1))
done functions own slots zero p to low fits some = absurd (omega arith)
done functions own slots (suc n) p to low fits some = by (last_or p n low) (λ less. done functions own slots n p to less (omega arith) some)
  where
    by : (p < n) ⊎ (p ≡ n) → (p < n → Becomes (called_below functions own slots n) slots p (own + to - (p + 1))) → Becomes (called_below functions own slots (suc n)) slots p (own + to - (p + 1))
    by (inl less) rest = moved_on _ _ slots p (own + to - (p + 1)) (beside functions own slots n p less fits) (rest less)
    by (inr here) rest =
        let before = called_below functions own slots n in
        let back : n ≡ p = omega (arith, here) in
        let there : AreSame 8 before (8 * p) slots (8 * p) = later functions own slots n p (omega (arith, here)) (omega arith) in
        let call : called_in functions before p ≡ Some to = called_same functions before slots p p there ∙ some in
        let size = called_length functions own slots n (omega arith) in
        let made : Becomes (with_call own before p (Some to)) before p (own + to - (p + 1)) = becomes own before p to (omega (arith, size, here)) in
        let is : called_below functions own slots (suc n) ≡ with_call own before p (Some to) =
        ap (λ m. with_call own before m (called_in functions before m)) back ∙ ap (with_call own before p) call in
        subst (λ words. Becomes words slots p (own + to - (p + 1))) (sym is) (record {
          opcode = made.opcode ∙ byte_of 8 before (8 * p) slots (8 * p) 0 (8 * p) (8 * p) there (omega arith) (omega arith) (omega arith);
          src = made.src;
          imm = made.imm;
        })

-- the function that is found begins in the code
some_if : (b : Bool) (v to : ℕ) → ◌≡◌ {A = Option ℕ} (if b then Some v else None) (Some to) → (b ≡ true) × (v ≡ to)
some_if true v to e = (refl, same e)
  where
    same : ◌≡◌ {A = Option ℕ} (Some v) (Some to) → v ≡ to
    same e = cc
some_if false v to e = absurd (clash e)
  where
    clash : ◌≡◌ {A = Option ℕ} None (Some to) → ⊥
    clash e = cc

both_true : (a b : Bool) → (a && b) ≡ true → b ≡ true
both_true true b e = e
both_true false b e = absurd (clash e)
  where
    clash : ◌≡◌ {A = Bool} false true → ⊥
    clash e = cc

is_less : (a b : ℕ) → nat_lt a b ≡ true → a < b
is_less a b e = grind (arith, nat_tests)

slot_inside : (second : Plan) (symbol : Option ℕ) (to : ℕ) → slot_of second symbol ≡ Some to → to < slots_in second.parts.code
slot_inside second None to e = absurd (clash e)
  where
    clash : ◌≡◌ {A = Option ℕ} None (Some to) → ⊥
    clash e = cc
slot_inside second (Some i) to e =
    let value = (symbol_at second.symbols i).value in
    let it = some_if ((value % 8 == 0) && nat_lt (value / 8) (slots_in second.parts.code)) (value / 8) to e in
    let low = is_less (value / 8) (slots_in second.parts.code) (both_true (value % 8 == 0) _ it.0) in
    let same = it.1 in
    omega (arith, low, same)

which : (a b : ℕ) → (a < b) ⊎ (b ≤ a)
which a b = grind arith

callee_below : (second : Plan) (n number to : ℕ) → get_or (below (callee second) n) number None ≡ Some to → to < slots_in second.parts.code
callee_below second n number to e = by (which number n)
  where
    clash : ◌≡◌ {A = Option ℕ} None (Some to) → ⊥
    clash e = cc

    by : (number < n) ⊎ (n ≤ number) → to < slots_in second.parts.code
    by (inl low) = slot_inside second (answering second (helper_name number)) to (sym (below_at (callee second) n number None low) ∙ e)
    by (inr high) =
        let size : length (below (callee second) n) ≡ n = below_length (callee second) n in
        let none : get_or (below (callee second) n) number None ≡ None = get_or_past (below (callee second) n) number None (omega (arith, size)) in
        absurd (clash (sym none ∙ e))

callee_inside : (second : Plan) (number to : ℕ) → get_or (callees second) number None ≡ Some to → to < slots_in second.parts.code
callee_inside second number to e = callee_below second 212 number to e

called_if : (b : Bool) (call : Option ℕ) (to : ℕ) → (if b then call else None) ≡ Some to → (b ≡ true) × (call ≡ Some to)
called_if true call to e = (refl, e)
called_if false call to e = absurd (clash e)
  where
    clash : ◌≡◌ {A = Option ℕ} None (Some to) → ⊥
    clash e = cc

first_true : (a b : Bool) → (a && b) ≡ true → a ≡ true
first_true true b e = refl
first_true false b e = e

is_same : (a b : ℕ) → (a == b) ≡ true → a ≡ b
is_same a b e = grind (arith, nat_tests)

-- where a call leads
distance : (opcode imm offset : ℕ) → opcode ≡ 0x85 → (if (opcode == 0x85) || (opcode == 0x06) then imm else extended offset) ≡ imm
distance opcode imm offset e = ap (λ o. if (o == 0x85) || (o == 0x06) then imm else extended offset) e

-- the parts of a call: the opcode, src and imm
pub record Parts (words : List ℕ) (p far : ℕ) : Type 0 where
  pub opcode : get_or words (8 * p) 0 ≡ 0x85
  pub src : get_or words (8 * p + 1) 0 ≡ 0x10
  pub imm : u32_at words (8 * p + 4) ≡ far

parts_of : (words slots : List ℕ) (p far : ℕ) → get_or slots (8 * p) 0 ≡ 0x85 → Becomes words slots p far → far < 4294967296 → Parts words p far
parts_of words slots p far is it small = record {
  opcode = it.opcode ∙ is;
  src = it.src;
  imm = u32_same words (8 * p + 4) (little_bytes 4 far ++ []) 0 (plain 4 words (8 * p + 4) (little_bytes 4 far) [] refl it.imm) ∙ u32_back far [] small;
}

pub parts_same : (xs ys : List ℕ) (s t far : ℕ) → AreSame 8 xs (8 * s) ys (8 * t) → Parts ys t far → Parts xs s far
parts_same xs ys s t far same it = record {
  opcode = byte_of 8 xs (8 * s) ys (8 * t) 0 (8 * s) (8 * t) same (omega arith) (omega arith) (omega arith) ∙ it.opcode;
  src = same 1 (omega arith) ∙ it.src;
  imm = u32_same xs (8 * s + 4) ys (8 * t + 4) (part_of 8 xs (8 * s) ys (8 * t) 4 4 same (omega arith)) ∙ it.imm;
}

pub call_of : (words : List ℕ) (p far to : ℕ) → Parts words p far → p + 1 + far ≡ to → to < 4294967296 → IsCall words p to
call_of words p far to it sum small = record {
  opcode = it.opcode;
  src = it.src;
  target = ap (λ d. (p + 1 + d) % 4294967296) (distance (get_or words (8 * p) 0) (u32_at words (8 * p + 4)) (u16_at words (8 * p + 2)) it.opcode ∙ it.imm)
      ∙ ap (λ n. n % 4294967296) sum ∙ wraps to small;
}
  where
    wraps : (n : ℕ) → n < 4294967296 → n % 4294967296 ≡ n
    wraps n h = omega arith

-- a call that is answered, in the code of both
pub record Answered (first second : Plan) (p to : ℕ) : Type 0 where
  pub inside : to < slots_in second.parts.code
  pub parts : Parts (joined_code first second) p (own_slots first + to - (p + 1))

pub answered : (first second : Plan) (p to : ℕ) → length (unlinked first.parts) ≡ 8 * own_slots first → own_slots first + slots_in second.parts.code < 4294967296
    → p < own_slots first → answer first second p ≡ Some to → Answered first second p to
answered first second p to whole few low some =
    let slots = unlinked first.parts in
    let own = own_slots first in
    let turned = called_below (callees second) own slots own in
    let size : length turned ≡ 8 * own_slots first = called_length (callees second) own slots own (omega (arith, whole)) ∙ whole in
    let called = called_if (calls_helper slots p) (get_or (callees second) (u32_at slots (8 * p + 4)) None) to some in
    let inside = callee_inside second (u32_at slots (8 * p + 4)) to called.1 in
    let opcode = is_same (get_or slots (8 * p) 0) 0x85 (first_true (get_or slots (8 * p) 0 == 0x85) _ called.0) in
    let it = done (callees second) own slots own p to low (omega (arith, whole)) some in
    let same : AreSame 8 (turned ++ second.parts.code.slots) (8 * p) turned (8 * p) = λ k small. get_or_append_left turned second.parts.code.slots 0 (8 * p + k) (omega (arith, size, low)) in
    record {
      inside = inside;
      parts = parts_of (turned ++ second.parts.code.slots) slots p (own + to - (p + 1)) opcode (moved_on _ turned slots p (own + to - (p + 1)) same it) (omega (arith, inside, few));
    }

-- all of it
pub both : (first second : Plan) → length (unlinked first.parts) ≡ 8 * own_slots first → length second.parts.code.slots ≡ 8 * slots_in second.parts.code
    → own_slots first + slots_in second.parts.code < 4294967296 → IsBoth first second (joined_code first second)
both first second whole more few =
    let slots = unlinked first.parts in
    let own = own_slots first in
    let turned = called_below (callees second) own slots own in
    let size : length turned ≡ 8 * own_slots first = called_length (callees second) own slots own (omega (arith, whole)) ∙ whole in
    let all = length-append turned second.parts.code.slots in
    record {
      size = all ∙ omega (arith, size, more);
      own = λ p k low small none.
          get_or_append_left turned second.parts.code.slots 0 (8 * p + k) (omega (arith, size)) ∙ left (callees second) own slots own p low (omega (arith, whole)) none k small;
      calls = λ p to low some.
          let it = answered first second p to whole few low some in
          let inside = it.inside in
          call_of (joined_code first second) p (own_slots first + to - (p + 1)) (own_slots first + to) it.parts (omega arith) (omega (arith, inside, few));
      functions = λ q k low small.
          ap (λ j. get_or (turned ++ second.parts.code.slots) j 0) (let place : 8 * (own + q) + k ≡ length turned + (8 * q + k) = omega (arith, size) in place)
          ∙ get_or-append-add turned second.parts.code.slots (8 * q + k) 0;
    }
