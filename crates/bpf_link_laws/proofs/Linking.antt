-- Objects that are joined and then linked.
use Rattle.std.proofs.Common.{◌≡◌, ◌<◌, ◌≤◌, ℕ, ◌+◌, ◌-◌, ◌*◌, ◌/◌, ◌==◌, nat_le, nat_lt, Bool, true, false, List, ◌++◌, Result, Ok, Err, length, get_or, refl, sym, subst, ap, ◌∙◌, arith, length-append}
use Rattle.std.specs.Prelude.{None, codes, if◌then◌else◌, ◌&&◌}
use Rattle.bpf_isa.specs.Checker.{most_slots}
use Rattle.bpf_isa.specs.Words.{u32_at}
use Rattle.bpf_link.specs.declared.fault.LinkFault.{LinkFault}
use Rattle.bpf_link.specs.declared.fault.LinkFault.TheVariants as link
use Rattle.bpf_link.specs.declared.parts.Side.TheVariants.{Code}
use Rattle.bpf_link.specs.declared.plan.Plan.{Plan}
use Rattle.bpf_link.specs.declared.sections.Found.{Found}
use Rattle.bpf_link.specs.declared.sections.Found.TheVariants.{Nothing, Only, Several}
use Rattle.bpf_link.specs.declared.stubs.Stub.{Stub}
use Rattle.bpf_link.specs.Begun.{counts}
use Rattle.bpf_link.specs.Layout.{u64_at}
use Rattle.bpf_link.specs.Links.{planned, unlinked}
use Rattle.bpf_link.specs.Objects.{section_at}
use Rattle.bpf_link.specs.Parts.{slots_in}
use Rattle.bpf_link.specs.Reach.{is_reached}
use Rattle.bpf_link.specs.Stubs.{answer_in, answer_of}
use Rattle.bpf_link.specs.Untouched.{IsLeft, lead}
use Rattle.bpf_link.proofs.Inversions.{ok_same, provided_ok}
use Rattle.bpf_link.proofs.Untouched.{law as slots_stay}
use Rattle.bpf_join.specs.Codes.{called_below, joined_code, own_slots}
use Rattle.bpf_join.specs.Functions.{callees}
use Rattle.bpf_join.specs.declared.joined.Joined.{Joined}
use Rattle.bpf_join.specs.Joined.{ends, has_room, joined_bytes, most_wanted, ready, section_count, table_in, wanted_below}
use Rattle.bpf_link_laws.specs.Codes.{IsBoth}
use Rattle.bpf_link_laws.specs.Files.{IsFile}
use Rattle.bpf_link_laws.specs.Joins.{CallsAreAnswered, CodesAreJoined, FunctionsStay, IsFound, IsJoin, JoinedObjectsOpen, OwnSlotsStay, first_of, second_of}
use Rattle.bpf_link_laws.proofs.Codes.{Parts, answered, both as both_codes, call_of, parts_same}
use Rattle.bpf_link_laws.proofs.Headers.{Fits, read_fits}
use Rattle.bpf_link_laws.proofs.Inversions.{IsPlan, is_less, is_most, plan_is}
use Rattle.bpf_link_laws.proofs.JoinNumbers.{AreSame}
use Rattle.bpf_link_laws.proofs.Opening.{IsElf, chosen_there, code_there, is_elf, object_in, opened_again}
use Rattle.bpf_link_laws.proofs.JoinSections.{CodeIs, Joining, code_is}

both : (a b : Bool) → (a && b) ≡ true → (a ≡ true) × (b ≡ true)
both true b e = (refl, e)
both false b e = absurd (clash e)
  where
    clash : ◌≡◌ {A = Bool} false true → ⊥
    clash e = cc

-- what both have room for
record IsReady (first second : Plan) (table : ℕ) : Type 0 where
  few : section_count first second < 0xff00
  long : 64 ≤ length first.object.bytes
  code : first.parts.code.section < length first.object.sections
  slots : own_slots first + slots_in second.parts.code ≤ most_slots
  table_is : first.table ≡ Only table
  inside : table < length first.object.sections

table_found : (first : Plan) (f : Found) (table : ℕ) → table_in first f ≡ Ok table → (f ≡ Only table) × (table < length first.object.sections)
table_found first (Only i) table e =
    let a = provided_ok (nat_lt i (length first.object.sections)) link.SymbolTable (Ok i) table e in
    let same : i ≡ table = ok_same i table a.1 in
    let low = is_less i (length first.object.sections) a.0 in
    (ap Only same, omega (arith, same, low))
table_found first Nothing table e = absurd (clash e)
  where
    clash : ◌≡◌ {A = Result ℕ LinkFault} (Err link.SymbolTable) (Ok table) → ⊥
    clash e = cc
table_found first Several table e = absurd (clash e)
  where
    clash : ◌≡◌ {A = Result ℕ LinkFault} (Err link.SymbolTable) (Ok table) → ⊥
    clash e = cc

is_ready : (first second : Plan) (table : ℕ) → ready first second ≡ Ok table → IsReady first second table
is_ready first second table e =
    let a = provided_ok (has_room first second) link.SectionTable _ table e in
    let b = provided_ok (nat_le (own_slots first + slots_in second.parts.code) most_slots) link.TooLong _ table a.1 in
    let c = provided_ok (ends first) link.RunsOff _ table b.1 in
    let d = provided_ok (nat_lt (length first.symbols + length second.symbols) 4294967296) link.SymbolTable _ table c.1 in
    let f = provided_ok (nat_le (wanted_below first (length first.symbols)) most_wanted) link.ManyWanted (table_in first first.table) table d.1 in
    let g = table_found first first.table table f.1 in
    let h = both (nat_lt (section_count first second) 0xff00) _ a.0 in
    let i = both (nat_le 64 (length first.object.bytes)) _ h.1 in
    record {
      few = is_less (section_count first second) 0xff00 h.0;
      long = is_most 64 (length first.object.bytes) i.0;
      code = is_less first.parts.code.section (length first.object.sections) i.1;
      slots = is_most (own_slots first + slots_in second.parts.code) most_slots b.0;
      table_is = g.0;
      inside = g.1;
    }

-- the headers of a file fit their bytes
headers_fit : (bytes name : List ℕ) (plan : Plan) → IsFile bytes → IsPlan bytes name plan → (i : ℕ) → i < length plan.object.sections → Fits (section_at plan.object i)
headers_fit bytes name plan file is i inside =
    subst Fits (sym (is.object.sections i (subst (λ n. i < n) is.object.count inside))) (read_fits bytes (u64_at bytes 40 + 64 * i) file)

whole_code : (first : Plan) → length first.parts.code.slots ≡ 8 * slots_in first.parts.code → length first.parts.text.slots ≡ 8 * slots_in first.parts.text
    → length (unlinked first.parts) ≡ 8 * own_slots first
whole_code first code text = let size = length-append first.parts.code.slots first.parts.text.slots in omega (arith, code, text, size)

some_behind : (xs ys : List ℕ) → 8 ≤ length ys → 0 < length (xs ++ ys)
some_behind xs ys some = let size = length-append xs ys in omega (arith, some, size)

few_slots : (n : ℕ) → n ≤ most_slots → n < 4294967296
few_slots n p = omega arith

far_sum : (front p own to : ℕ) → p < own → front + (0 + p) + 1 + (own + to - (p + 1)) ≡ front + (0 + (own + to))
far_sum front p own to low = omega arith

small_sum : (front own to more : ℕ) → front ≤ 1 → to < more → own + more < 4294967296 → front + (0 + (own + to)) < 4294967296
small_sum front own to more least inside few = omega arith

zero_more : (p : ℕ) → p ≡ 0 + p
zero_more p = omega arith

-- they are, with all that their join tells
abbrev joining_of : {a b section : List ℕ} {as_compiled : Bool} {joined : Joined} → IsJoin a b section as_compiled joined → Type 0
joining_of {a = a} {section = section} join =
    Joining a section (first_of join) (second_of join) join.joins.bytes_are.table join.joins.bytes_are.places join.joins.bytes_are.records

joining : (a b section : List ℕ) (as_compiled : Bool) (joined : Joined) (join : IsJoin a b section as_compiled joined) → joining_of join
joining a b section as_compiled joined join =
    let first = first_of join in
    let second = second_of join in
    let it = join.joins.bytes_are in
    let ready_is = is_ready first second it.table it.is_ready in
    let own = plan_is a section first join.joins.pair.plans in
    record {
      plan = own;
      room = record {
        long = ready_is.long;
        few = ready_is.few;
        short = subst (λ bytes. length bytes < 18446744073709551616) it.whole_is join.short;
        code = ready_is.code;
        table_in = ready_is.inside;
        own = headers_fit a section first join.first_file own;
        more = headers_fit b (codes ".text") second join.second_file (plan_is b (codes ".text") second join.joins.pair.functions);
      };
      table_is = ready_is.table_is;
      names = join.names;
      symbols = join.symbols;
      text = join.text;
    }

record Sized (first second : Plan) : Type 0 where
  whole : length (unlinked first.parts) ≡ 8 * own_slots first
  more : length second.parts.code.slots ≡ 8 * slots_in second.parts.code
  few : own_slots first + slots_in second.parts.code < 4294967296
  some : 0 < length (joined_code first second)

sized : (a b section : List ℕ) (as_compiled : Bool) (joined : Joined) (join : IsJoin a b section as_compiled joined) → Sized (first_of join) (second_of join)
sized a b section as_compiled joined join =
    let first = first_of join in
    let second = second_of join in
    let it = join.joins.bytes_are in
    let ready_is = is_ready first second it.table it.is_ready in
    let own = plan_is a section first join.joins.pair.plans in
    let other = plan_is b (codes ".text") second join.joins.pair.functions in
    record {
      whole = whole_code first own.whole own.text;
      more = other.whole;
      few = few_slots (own_slots first + slots_in second.parts.code) ready_is.slots;
      some = some_behind (called_below (callees second) (own_slots first) (unlinked first.parts) (own_slots first)) second.parts.code.slots other.some;
    }

known : (a b section : List ℕ) (as_compiled : Bool) (joined : Joined) (join : IsJoin a b section as_compiled joined) (plan : Plan) → planned joined.bytes.items section ≡ Ok plan
    → CodeIs (first_of join) (second_of join) plan
known a b section as_compiled joined join plan e =
    let first = first_of join in
    let second = second_of join in
    let it = join.joins.bytes_are in
    let again : IsPlan (joined_bytes first second it.table it.places it.records) section plan = subst (λ bytes. IsPlan bytes section plan) it.whole_is (plan_is joined.bytes.items section plan e) in
    code_is a section first second it.table it.places it.records (joining a b section as_compiled joined join) (sized a b section as_compiled joined join).some plan again

pub joined_open : JoinedObjectsOpen
joined_open a b section as_compiled joined join =
    let first = first_of join in
    let second = second_of join in
    let it = join.joins.bytes_are in
    let both = joining a b section as_compiled joined join in
    let size = sized a b section as_compiled joined join in
    let own = plan_is a section first join.joins.pair.plans in
    let is : IsElf first.object.bytes = subst IsElf (sym own.object.bytes_are) (is_elf a first.object own.opened_is) in
    let bytes = joined_bytes first second it.table it.places it.records in
    subst (λ bytes. IsFound bytes section first second) (sym it.whole_is) (record {
      object = object_in bytes;
      opens = opened_again a section first second it.table it.places it.records both is;
      chosen = (chosen_there a section first second it.table it.places it.records both size.some).same;
      code = subst (IsBoth first second) (sym (code_there a section first second it.table it.places it.records both)) (both_codes first second size.whole size.more size.few);
    })

pub codes_joined : CodesAreJoined
codes_joined a b section as_compiled joined join plan e =
    let size = sized a b section as_compiled joined join in
    subst (IsBoth (first_of join) (second_of join)) (sym (known a b section as_compiled joined join plan e).slots) (both_codes (first_of join) (second_of join) size.whole size.more size.few)

pub own_stay : OwnSlotsStay
own_stay a b section entry as_compiled joined join stubs program linked p k left low none small =
    let is = codes_joined a b section as_compiled joined join linked.begun.plan linked.begun.plans in
    slots_stay joined.bytes.items section entry stubs program linked Code p k left small ∙ is.own p k low small none

pub functions_stay : FunctionsStay
functions_stay a b section entry as_compiled joined join stubs program linked q k left low small =
    let is = codes_joined a b section as_compiled joined join linked.begun.plan linked.begun.plans in
    slots_stay joined.bytes.items section entry stubs program linked Code (own_slots (first_of join) + q) k left small ∙ is.functions q k low small

-- a call of a function calls no helper
and_false : (b : Bool) → (b && false) ≡ false
and_false true = refl
and_false false = refl

no_answer : (stubs : List Stub) (words : List ℕ) (p far : ℕ) → Parts words p far → answer_in stubs words p ≡ None
no_answer stubs words p far it =
    ap (λ r. if (get_or words (8 * p) 0 == 0x85) && (r == 0) then answer_of stubs (u32_at words (8 * p + 4)) else None) it.src
    ∙ ap (λ b. if b then answer_of stubs (u32_at words (8 * p + 4)) else None) (and_false (get_or words (8 * p) 0 == 0x85))

one_most : (none first : Bool) → (if none && first then 0 else 1) ≤ 1
one_most true true = omega arith
one_most true false = omega arith
one_most false first = omega arith

lead_small : (stores : List ℕ) (entry : ℕ) → lead stores entry ≤ 1
lead_small stores entry = one_most (length stores == 0) (entry == 0)

eighth : (n p own more : ℕ) → n ≡ 8 * (own + more) → p < own → p < n / 8
eighth n p own more size low = omega arith

pub calls_answered : CallsAreAnswered
calls_answered a b section entry as_compiled joined join stubs program linked p to low some reached plain =
    let first = first_of join in
    let second = second_of join in
    let own = own_slots first in
    let size = sized a b section as_compiled joined join in
    let call = answered first second p to size.whole size.few low some in
    let code = linked.begun.plan.parts.code.slots in
    let parts : Parts code p (own + to - (p + 1)) = subst (λ words. Parts words p (own + to - (p + 1))) (sym (known a b section as_compiled joined join linked.begun.plan linked.begun.plans).slots) call.parts in
    let is = codes_joined a b section as_compiled joined join linked.begun.plan linked.begun.plans in
    let front : ℕ = lead linked.made.laid.stores linked.begun.slot in
    let here : ℕ = front + (0 + p) in
    let left : IsLeft (counts linked.begun) linked.begun.reach stubs Code p = record {
      inside = eighth (length code) p own (slots_in second.parts.code) is.size low;
      reached = subst (λ n. is_reached linked.begun.reach n ≡ true) (zero_more p) reached;
      plain = plain;
      unanswered = no_answer stubs code p (own + to - (p + 1)) parts;
    } in
    let same : AreSame 8 program.words.items (8 * here) code (8 * p) = λ k small. slots_stay joined.bytes.items section entry stubs program linked Code p k left small in
    call_of program.words.items here (own + to - (p + 1)) (front + (0 + (own + to))) (parts_same program.words.items code here p (own + to - (p + 1)) same parts)
    (far_sum front p own to low)
    (small_sum front own to (slots_in second.parts.code) (lead_small linked.made.laid.stores linked.begun.slot) call.inside size.few)
