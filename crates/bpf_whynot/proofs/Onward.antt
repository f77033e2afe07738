-- Where a step leads: on, along a jump, into a function or back from one, as the program's instructions say; or the machine ends where it is.
use Rattle.std.proofs.Common.{◌≡◌, ◌<◌, ℕ, zero, suc, ℤ, ◌+◌, ◌-◌, ◌+ℤ◌, pos, negsuc, Bool, true, false, List, [], ◌∷◌, ◌++◌, Option, Some, None, length, refl, sym, ap, ◌∙◌, subst, arith}
use Rattle.std.specs.Prelude.{◌==◌, nat_lt, nat_le, if◌then◌else◌, map, reverse, slice_get, unsigned_abs}
use Rattle.std.specs.Option.{option_map_or}
use Rattle.std.proofs.lemmas.Bool.Decides.{nat_tests}
use Rattle.std.proofs.lemmas.List.{length-map, length-reverse, map-append, reverse-append}
use Rattle.bpf_entries.specs.Status.{has_ended}
use Rattle.bpf_entries.specs.declared.status.Fault.TheVariants.{Access, Depth, Token}
use Rattle.bpf_entries.specs.declared.status.Status.{Status}
use Rattle.bpf_entries.specs.declared.status.Status.TheVariants.{Exited, Faulted}
use Rattle.bpf_isa.specs.Helpers.{helper_of}
use Rattle.bpf_isa.specs.Programs.{Checked, IsProgram, IsStartAt, insn_at, replaced_by, slots_of, target_of}
use Rattle.bpf_isa.specs.Sizes.{signed_len, size_len}
use Rattle.bpf_isa.specs.declared.helpers.Helper.{Helper}
use Rattle.bpf_isa.specs.declared.helpers.Helper.TheVariants as named
use Rattle.bpf_isa.specs.declared.instruction.AtomicOp.{AtomicOp}
use Rattle.bpf_isa.specs.declared.instruction.AtomicOp.TheVariants as atomics
use Rattle.bpf_isa.specs.declared.instruction.Insn.{Insn}
use Rattle.bpf_isa.specs.declared.instruction.Insn.TheVariants as insn
use Rattle.bpf_isa.specs.declared.instruction.LoadSize.TheVariants.{Plain, Signed}
use Rattle.bpf_isa.specs.declared.instruction.Width.{Width}
use Rattle.bpf_isa.specs.declared.maps.MapShape.{MapShape}
use Rattle.bpf_machine.proofs.Undoing.{push_pop}
use Rattle.bpf_steps.specs.Access.{access, accessible, address, low_bits}
use Rattle.bpf_steps.specs.Atomics.{atomic_at, replacement, size_of}
use Rattle.bpf_steps.specs.Calls.{frame_of, innermost, popped}
use Rattle.bpf_steps.specs.Helpers.{answer, helper, map_shape, update_of}
use Rattle.bpf_steps.specs.Next.{change, change_by, changed, jumps as is_taken, next, returned as back_at, target}
use Rattle.bpf_steps.specs.Numbers.{bits_of}
use Rattle.bpf_steps.specs.Platform.{cell_address, frame_count, token_base, trace_limit}
use Rattle.bpf_steps.specs.Regions.{number_at}
use Rattle.bpf_steps.specs.Runs.{state_after}
use Rattle.bpf_steps.specs.State.{State, depth, register}
use Rattle.bpf_steps.specs.declared.change.Change.{Change}
use Rattle.bpf_steps.specs.declared.change.Change.TheVariants.{Call, Cell, Fetch, Go, Return, Set, Stop, Store, Trace}
use Rattle.bpf_steps.specs.declared.frame.Frame.{Frame}
use Rattle.bpf_whynot.specs.Reach.{calls, goes_on, jumps, return_slots}

-- From a slot, with the slots to which the functions that stand return, to another one with others.
pub data Onward (program : Checked) : ℕ → List ℕ → ℕ → List ℕ → Type 0 where
  still : {p : ℕ} {returns : List ℕ} → Onward program p returns p returns
  on : {p : ℕ} {returns : List ℕ} (i : Insn) → insn_at program p ≡ Some i → goes_on i ≡ true → Onward program p returns (p + slots_of i) returns
  jumped : {p : ℕ} {returns : List ℕ} (i : Insn) (q : ℕ) → insn_at program p ≡ Some i → jumps i ≡ true → target_of p i ≡ Some (pos q)
      → Onward program p returns q returns
  called : {p : ℕ} {returns : List ℕ} (i : Insn) (q : ℕ) → insn_at program p ≡ Some i → calls i ≡ true → target_of p i ≡ Some (pos q)
      → length returns + 1 < frame_count → Onward program p returns q ((p + 1) ∷ returns)
  returned : {p q : ℕ} {returns : List ℕ} → insn_at program p ≡ Some insn.Exit → Onward program p (q ∷ returns) q returns

-- Where it leads from a state.
abbrev pub Leads : State → State → Type 0
Leads x y = Onward x.program x.pc (return_slots x) y.pc (return_slots y)

-- What ends a machine that has a status: it has ended then, or else had.
abbrev Ends : Status → Status → Type 0
Ends old new = has_ended new ≡ false → has_ended old ≡ false

-- A change goes on at a slot, without a call or a return; or it ends the machine.
abbrev GoesOnAt : Status → ℕ → Change → Type 0
GoesOnAt old q (Set r value after) = after ≡ q
GoesOnAt old q (Go after) = after ≡ q
GoesOnAt old q (Store a at size value after) = after ≡ q
GoesOnAt old q (Fetch a at size value r after) = after ≡ q
GoesOnAt old q (Call to) = ⊥
GoesOnAt old q Return = ⊥
GoesOnAt old q (Cell a from n after) = after ≡ q
GoesOnAt old q (Trace word after) = after ≡ q
GoesOnAt old q (Stop status) = Ends old status

faults : (old new : Status) → has_ended new ≡ true → Ends old new
faults old new ended runs = absurd cc

on_option : {A : Type 0} (old : Status) (q : ℕ) (f : A → Change) (found : Option A) (status : Status) → Ends old status → ((a : A) → GoesOnAt old q (f a))
    → GoesOnAt old q (option_map_or f found (Stop status))
on_option old q f None status ends each = ends
on_option old q f (Some a) status ends each = each a

on_choice : (old : Status) (q : ℕ) (b : Bool) (c d : Change) → GoesOnAt old q c → GoesOnAt old q d → GoesOnAt old q (if b then c else d)
on_choice old q true c d one two = one
on_choice old q false c d one two = two

-- Accesses.
on_access : (old : Status) (q a : ℕ) (f : ℕ → Change) (found : Option ℕ) → ((at : ℕ) → GoesOnAt old q (f at))
    → GoesOnAt old q (option_map_or f found (Stop (Faulted (Access a))))
on_access old q a f found each = on_option old q f found (Faulted (Access a)) (faults old (Faulted (Access a)) refl) each

on_replaced : (x : State) (op : AtomicOp) (width : Width) (src a at value : ℕ) (found : Option ℕ)
    → GoesOnAt x.status (x.pc + 1) (option_map_or (λ r. Fetch a at (size_of width) value r (x.pc + 1)) found (Store a at (size_of width) value (x.pc + 1)))
on_replaced x op width src a at value None = refl
on_replaced x op width src a at value (Some r) = refl

on_replacement : (x : State) (op : AtomicOp) (width : Width) (src a at value : ℕ) → GoesOnAt x.status (x.pc + 1) (replacement x op width src a at value)
on_replacement x op width src a at value = on_replaced x op width src a at value (replaced_by op src)

on_exchange : (x : State) (same : Bool) (width : Width) (src a at value v : ℕ)
    → GoesOnAt x.status (x.pc + 1) (if same then replacement x atomics.CompareExchange width src a at value else Set 0 v (x.pc + 1))
on_exchange x true width src a at value v = on_replacement x atomics.CompareExchange width src a at value
on_exchange x false width src a at value v = refl

on_atomic : (x : State) (op : AtomicOp) (width : Width) (src a at v : ℕ) → GoesOnAt x.status (x.pc + 1) (atomic_at x op width src a at v)
on_atomic x atomics.CompareExchange width src a at v = on_exchange x (v == low_bits x (bits_of width) 0) width src a at (low_bits x (bits_of width) src) v
on_atomic x atomics.Add width src a at v = refl
on_atomic x atomics.Or width src a at v = refl
on_atomic x atomics.And width src a at v = refl
on_atomic x atomics.Xor width src a at v = refl
on_atomic x atomics.FetchAdd width src a at v = refl
on_atomic x atomics.FetchOr width src a at v = refl
on_atomic x atomics.FetchAnd width src a at v = refl
on_atomic x atomics.FetchXor width src a at v = refl
on_atomic x atomics.Exchange width src a at v = refl

-- Helpers.
on_key : (x : State) (f : ℕ → MapShape → ℕ → Change) → ((i key : ℕ) (shape : MapShape) → GoesOnAt x.status (x.pc + 1) (f i shape key))
    → (i : ℕ) (shape : MapShape) → GoesOnAt x.status (x.pc + 1) (access x (register x 2) 4 (λ at. f i shape (number_at x.memory at 4)))
on_key x f each i shape =
    on_access x.status (x.pc + 1) (register x 2) (λ at. f i shape (number_at x.memory at 4)) (accessible x (register x 2) 4) (λ at. each i _ shape)

on_map : (x : State) (token : ℕ) (f : MapShape → Change) (found : Option MapShape) → ((shape : MapShape) → GoesOnAt x.status (x.pc + 1) (f shape))
    → GoesOnAt x.status (x.pc + 1) (option_map_or f found (Stop (Faulted (Token token))))
on_map x token f found each = on_option x.status (x.pc + 1) f found (Faulted (Token token)) (faults x.status (Faulted (Token token)) refl) each

on_update : (x : State) (i key : ℕ) (shape : MapShape) → GoesOnAt x.status (x.pc + 1) (update_of x i shape key)
on_update x i key shape =
    on_choice x.status (x.pc + 1) (nat_lt 2 (register x 4)) _ _ refl
    (on_choice x.status (x.pc + 1) (register x 4 == 1) _ _ refl
    (on_choice x.status (x.pc + 1) (nat_le shape.entries key) _ _ refl
    (on_access x.status (x.pc + 1) (register x 3) _ (accessible x (register x 3) shape.value_size) (λ from. refl))))

abbrev found : State → ℕ → MapShape → ℕ → Change
found x i shape key = answer x (if nat_lt key shape.entries then cell_address i key shape.value_size else 0)

on_helper : (x : State) (which : Helper) → GoesOnAt x.status (x.pc + 1) (helper x which)
on_helper x named.Lookup = on_map x (register x 1) _ (map_shape x (register x 1)) (λ shape. on_key x (found x) (λ i key s. refl) (register x 1 - token_base) shape)
on_helper x named.Update =
    on_map x (register x 1) _ (map_shape x (register x 1)) (λ shape. on_key x (update_of x) (on_update x) (register x 1 - token_base) shape)
on_helper x named.Trace = on_choice x.status (x.pc + 1) (nat_lt (length x.trace) trace_limit) _ _ refl refl

-- All instructions that only go on.
abbrev IsPlain : Insn → Type 0
IsPlain (insn.JumpIf condition width dst source offset) = ⊥
IsPlain i = goes_on i ≡ true

on_plain : (x : State) (i : Insn) → IsPlain i → GoesOnAt x.status (x.pc + slots_of i) (change_by x i)
unfolding change_by
on_plain x (insn.Binary op width dst source) plain = refl
on_plain x (insn.Negate width dst) plain = refl
on_plain x (insn.SignExtend extension dst src) plain = refl
on_plain x (insn.SwapBytes order width dst) plain = refl
on_plain x (insn.JumpIf condition width dst source offset) plain = absurd plain
on_plain x (insn.Jump offset) plain = absurd cc
on_plain x (insn.JumpLong distance) plain = absurd cc
on_plain x (insn.CallHelper number) plain = on_option x.status (x.pc + 1) (helper x) (helper_of number) x.status (λ runs. runs) (on_helper x)
on_plain x (insn.CallLocal distance) plain = absurd cc
on_plain x insn.Exit plain = absurd cc
on_plain x (insn.Load (Plain size) dst from) plain = on_access x.status (x.pc + 1) (address x from) _ (accessible x (address x from) (size_len size)) (λ at. refl)
on_plain x (insn.Load (Signed size) dst from) plain = on_access x.status (x.pc + 1) (address x from) _ (accessible x (address x from) (signed_len size)) (λ at. refl)
on_plain x (insn.Store size to source) plain = on_access x.status (x.pc + 1) (address x to) _ (accessible x (address x to) (size_len size)) (λ at. refl)
on_plain x (insn.Atomic op width to src) plain =
    on_access x.status (x.pc + 1) (address x to) _ (accessible x (address x to) (size_len (size_of width))) (λ at. on_atomic x op width src (address x to) at (number_at x.memory at (size_len (size_of width))))
on_plain x (insn.LoadWide dst value) plain = refl

-- What comes of a change.
pub record Comes (x y : State) : Type 0 where
  pub program : y.program ≡ x.program
  pub way : Leads x y
  pub runs : has_ended y.status ≡ false → has_ended x.status ≡ false

moved : (x : State) (q after : ℕ) → after ≡ q → Onward x.program x.pc (return_slots x) q (return_slots x) → Onward x.program x.pc (return_slots x) after (return_slots x)
moved x q after e way = subst (λ (p : ℕ). Onward x.program x.pc (return_slots x) p (return_slots x)) (sym e) way

comes_on : (x : State) (q : ℕ) (c : Change) → GoesOnAt x.status q c → Onward x.program x.pc (return_slots x) q (return_slots x) → Comes x (changed x c)
unfolding changed
comes_on x q (Set r value after) e way = record { program = refl; way = moved x q after e way; runs = λ runs. runs }
comes_on x q (Go after) e way = record { program = refl; way = moved x q after e way; runs = λ runs. runs }
comes_on x q (Store a at size value after) e way = record { program = refl; way = moved x q after e way; runs = λ runs. runs }
comes_on x q (Fetch a at size value r after) e way = record { program = refl; way = moved x q after e way; runs = λ runs. runs }
comes_on x q (Call to) e way = absurd e
comes_on x q Return e way = absurd e
comes_on x q (Cell a from n after) e way = record { program = refl; way = moved x q after e way; runs = λ runs. runs }
comes_on x q (Trace word after) e way = record { program = refl; way = moved x q after e way; runs = λ runs. runs }
comes_on x q (Stop status) e way = record { program = refl; way = still; runs = e }

-- A jump and a call name a slot.
slot_is : (program : Checked) (z : ℤ) → IsStartAt program z → z ≡ pos (unsigned_abs z)
slot_is program (pos p) start = refl
slot_is program (negsuc n) start = absurd start

pub names : (x : State) (i : Insn) (distance : ℤ) → IsProgram x.program → insn_at x.program x.pc ≡ Some i
    → target_of x.pc i ≡ Some (pos (x.pc + 1) +ℤ distance) → target_of x.pc i ≡ Some (pos (target x distance))
names x i distance program stands to = to ∙ ap Some (slot_is x.program (pos (x.pc + 1) +ℤ distance) (program.lands x.pc (pos (x.pc + 1) +ℤ distance) i stands to))

comes_along : (x : State) (i : Insn) (distance : ℤ) → IsProgram x.program → insn_at x.program x.pc ≡ Some i → jumps i ≡ true
    → target_of x.pc i ≡ Some (pos (x.pc + 1) +ℤ distance) → Comes x (changed x (Go (target x distance)))
comes_along x i distance program stands jump to =
    comes_on x (target x distance) (Go (target x distance)) refl (jumped i (target x distance) stands jump (names x i distance program stands to))

comes_if : (x : State) (i : Insn) (distance : ℤ) (taken : Bool) → IsProgram x.program → insn_at x.program x.pc ≡ Some i → goes_on i ≡ true → jumps i ≡ true
    → slots_of i ≡ 1 → target_of x.pc i ≡ Some (pos (x.pc + 1) +ℤ distance) → Comes x (changed x (Go (if taken then target x distance else x.pc + 1)))
comes_if x i distance true program stands goes jump one to = comes_along x i distance program stands jump to
comes_if x i distance false program stands goes jump one to =
    comes_on x (x.pc + slots_of i) (Go (x.pc + 1)) (ap (λ (n : ℕ). x.pc + n) (sym one)) (on i stands goes)

-- Calls.
abbrev return_of : Frame → ℕ
return_of f = f.return_pc

one_more : (frames : List Frame) (f : Frame) → reverse (map return_of (frames ++ f ∷ [])) ≡ f.return_pc ∷ reverse (map return_of frames)
one_more frames f = ap reverse (map-append return_of frames (f ∷ [])) ∙ reverse-append (map return_of frames) (f.return_pc ∷ [])

pub as_deep : (x : State) → length (return_slots x) ≡ depth x
as_deep x = length-reverse (map return_of x.frames) ∙ length-map x.frames return_of

comes_in : (x : State) (i : Insn) (to : ℕ) (room : Bool) → nat_lt (depth x + 1) frame_count ≡ room → insn_at x.program x.pc ≡ Some i → calls i ≡ true
    → target_of x.pc i ≡ Some (pos to) → Comes x (changed x (if room then Call to else Stop (Faulted Depth)))
unfolding changed
comes_in x i to true room stands call names_it = record {
  program = refl;
  way = subst (λ (rs : List ℕ). Onward x.program x.pc (return_slots x) to rs) (sym (one_more x.frames (frame_of x (x.pc + 1)))) (called i to stands call names_it fits);
  runs = λ runs. runs;
}
  where
    fits : length (return_slots x) + 1 < frame_count
    fits = let deep = as_deep x in let low : depth x + 1 < frame_count = grind (arith, nat_tests) in omega (arith, deep, low)
comes_in x i to false room stands call names_it = record { program = refl; way = still; runs = faults x.status (Faulted Depth) refl }

-- Returns.
comes_out : (x : State) (found : Option Frame) → slice_get x.frames (depth x - 1) ≡ found → 0 < depth x → insn_at x.program x.pc ≡ Some insn.Exit
    → Comes x (option_map_or (back_at x) found x)
comes_out x None there some stands = record { program = refl; way = still; runs = λ runs. runs }
comes_out x (Some f) there some stands = record {
  program = refl;
  way = subst (λ (rs : List ℕ). Onward x.program x.pc rs f.return_pc (return_slots (back_at x f))) (sym before) (returned stands);
  runs = λ runs. runs;
}
  where
    before : return_slots x ≡ f.return_pc ∷ return_slots (back_at x f)
    before = ap (λ (frames : List Frame). reverse (map return_of frames)) (sym (push_pop x.frames f some there)) ∙ one_more (popped x) f

comes_end : (x : State) (outermost : Bool) → (depth x == 0) ≡ outermost → insn_at x.program x.pc ≡ Some insn.Exit
    → Comes x (changed x (if outermost then Stop Exited else Return))
unfolding changed
comes_end x true e stands = record { program = refl; way = still; runs = faults x.status Exited refl }
comes_end x false e stands = comes_out x (innermost x) refl some stands
  where
    some : 0 < depth x
    some = grind (arith, nat_tests)

plain_goes : (i : Insn) → IsPlain i → goes_on i ≡ true
plain_goes (insn.JumpIf condition width dst source offset) is = absurd is
plain_goes _ is = is

plain : (x : State) (i : Insn) → insn_at x.program x.pc ≡ Some i → IsPlain i → Comes x (changed x (change_by x i))
plain x i stands is = comes_on x (x.pc + slots_of i) (change_by x i) (on_plain x i is) (on i stands (plain_goes i is))

comes_by : (x : State) (i : Insn) → IsProgram x.program → insn_at x.program x.pc ≡ Some i → Comes x (changed x (change_by x i))
unfolding change_by
comes_by x (insn.JumpIf condition width dst source offset) program stands =
    comes_if x (insn.JumpIf condition width dst source offset) offset (is_taken x condition width dst source) program stands refl refl refl refl
comes_by x (insn.Jump offset) program stands = comes_along x (insn.Jump offset) offset program stands refl refl
comes_by x (insn.JumpLong distance) program stands = comes_along x (insn.JumpLong distance) distance program stands refl refl
comes_by x (insn.CallLocal distance) program stands =
    comes_in x (insn.CallLocal distance) (target x distance) (nat_lt (depth x + 1) frame_count) refl stands refl
    (names x (insn.CallLocal distance) distance program stands refl)
comes_by x insn.Exit program stands = comes_end x (depth x == 0) refl stands
comes_by x (insn.Binary op width dst source) program stands = plain x (insn.Binary op width dst source) stands refl
comes_by x (insn.Negate width dst) program stands = plain x (insn.Negate width dst) stands refl
comes_by x (insn.SignExtend extension dst src) program stands = plain x (insn.SignExtend extension dst src) stands refl
comes_by x (insn.SwapBytes order width dst) program stands = plain x (insn.SwapBytes order width dst) stands refl
comes_by x (insn.CallHelper number) program stands = plain x (insn.CallHelper number) stands refl
comes_by x (insn.Load size dst from) program stands = plain x (insn.Load size dst from) stands refl
comes_by x (insn.Store size to source) program stands = plain x (insn.Store size to source) stands refl
comes_by x (insn.Atomic op width to src) program stands = plain x (insn.Atomic op width to src) stands refl
comes_by x (insn.LoadWide dst value) program stands = plain x (insn.LoadWide dst value) stands refl

comes_there : (x : State) (found : Option Insn) → IsProgram x.program → insn_at x.program x.pc ≡ found → Comes x (changed x (option_map_or (change_by x) found (Stop x.status)))
comes_there x None program stands = comes_on x x.pc (Stop x.status) (λ runs. runs) still
comes_there x (Some i) program stands = comes_by x i program stands

pub comes : (x : State) → IsProgram x.program → Comes x (next x)
unfolding change
comes x program = comes_there x (insn_at x.program x.pc) program refl

-- What comes of some steps: they are of the same program, and were taken from states that had not ended if the last has not.
pub program_after : (n : ℕ) (x : State) → IsProgram x.program → (state_after n x).program ≡ x.program
program_after zero x program = refl
program_after (suc n) x program =
    let kept = program_after n x program in
    (comes (state_after n x) (subst IsProgram (sym kept) program)).program ∙ kept

pub comes_after : (n : ℕ) (x : State) → IsProgram x.program → Comes (state_after n x) (state_after (suc n) x)
comes_after n x program = comes (state_after n x) (subst IsProgram (sym (program_after n x program)) program)

pub ran_before : (n : ℕ) (x : State) → IsProgram x.program → has_ended (state_after n x).status ≡ false → has_ended x.status ≡ false
ran_before zero x program runs = runs
ran_before (suc n) x program runs = ran_before n x program ((comes_after n x program).runs runs)

-- Where the next step leads, in the program of the first state.
pub leads_after : (n : ℕ) (x : State) → IsProgram x.program
    → Onward x.program (state_after n x).pc (return_slots (state_after n x)) (state_after (suc n) x).pc (return_slots (state_after (suc n) x))
leads_after n x program =
    subst (λ (p : Checked). Onward p (state_after n x).pc (return_slots (state_after n x)) (state_after (suc n) x).pc (return_slots (state_after (suc n) x)))
    (program_after n x program) (comes_after n x program).way
