-- The bytes of the stack and their marks.
use Rattle.std.proofs.Common.{◌≡◌, ◌≢◌, ◌+◌, ◌-◌, ◌<◌, ◌≤◌, ℕ, zero, suc, min, Bool, true, false, not, List, [], ◌∷◌, Some, None, get_or, length, refl, sym, ap, ◌∙◌, arith, inl, inr}
use Rattle.std.specs.Prelude.{◌&&◌, ◌||◌, if◌then◌else◌, nat_le, nat_lt, replicate, slice_set}
use Rattle.std.specs.List.{list_any}
use Rattle.std.proofs.lemmas.Bool.{cases_eq, cases_lt}
use Rattle.std.proofs.lemmas.Bool.Decides.{nat_tests}
use Rattle.std.proofs.lemmas.List.{get_or-set_same, get_or-set_other, length-set}
use Rattle.bpf_steps.specs.Entries.{step_entry}
use Rattle.bpf_steps.specs.Next.{change, next}
use Rattle.bpf_steps.specs.Regions.{is_from_frame}
use Rattle.bpf_steps.specs.State.{IsState, State}
use Rattle.bpf_steps.specs.declared.change.Change.{Change}
use Rattle.bpf_steps.specs.declared.change.Change.TheVariants.{Set, Go, Store, Fetch, Call, Return, Cell, Trace, Stop}
use Rattle.bpf_origin.specs.Places.{has}
use Rattle.bpf_origin.specs.Writes.{writes}
use Rattle.bpf_origin.specs.declared.place.Part.{Part}
use Rattle.bpf_origin.specs.declared.place.Part.TheVariants as part
use Rattle.bpf_origin.specs.declared.place.Place.TheVariants.{Byte}
use Rattle.bpf_trace.specs.Taken.{Took, parts_by}
use Rattle.bpf_trace.specs.declared.taken.Taken.{Taken}
use Rattle.bpf_trace.proofs.Steps.{step_wrote}
use Rattle.bpf_trace.specs.Marks.{IsMarked, is_quiet, run_by, stack_base, stack_room}
use Rattle.bpf_trace.specs.Written.{first_in, is_call, is_unwritten, is_written}
use Rattle.bpf_trace.specs.declared.marks.Run.{Run}

-- the first byte of some that wasn't written
first-none : (before : List State) (a n : ℕ) → ((b : ℕ) → a ≤ b → b < a + n → is_unwritten before b ≡ false) → first_in before a n ≡ None
first-none before a zero isnt = refl
first-none before a (suc n) isnt =
    let here : is_unwritten before a ≡ false = isnt a (omega arith) (omega arith) in
    rw here (first-none before (suc a) n (λ b low high. isnt b (omega (arith, low)) (omega (arith, high))))

first-some : (before : List State) (a n b : ℕ) → a ≤ b → b < a + n → is_unwritten before b ≡ true
    → ((c : ℕ) → a ≤ c → c < b → is_unwritten before c ≡ false) → first_in before a n ≡ Some b
first-some before a zero b low high is isnt = absurd (omega (arith, low, high))
first-some before a (suc n) b low high is isnt = elim (cases_eq a b) [
  | inl here ↦
      let found : is_unwritten before a ≡ true = ap (is_unwritten before) here ∙ is in
      rw found (ap Some here)
  | inr apart ↦
      let skipped : is_unwritten before a ≡ false = isnt a (omega arith) (omega (arith, low, apart)) in
      rw skipped (first-some before (suc a) n b (omega (arith, low, apart)) (omega (arith, high)) is (λ c l h. isnt c (omega (arith, l)) h))
]

-- a byte of the stack, and another one
in-stack : (i : ℕ) → i < stack_room → is_from_frame 0 (stack_base + i) ≡ true
in-stack i within = grind (arith, nat_tests, within)

below-stack : (b : ℕ) → b < stack_base → is_from_frame 0 b ≡ false
below-stack b low = grind (arith, nat_tests, low)

past-stack : (b : ℕ) → stack_base + stack_room ≤ b → is_from_frame 0 b ≡ false
past-stack b high = grind (arith, nat_tests, high)

and-false : (s t : Bool) → s ≡ false → (s && t) ≡ false
and-false s t e = ap (λ (u : Bool). u && t) e

module _ (before : List State) (marks : List Bool) (m : IsMarked before marks) where
  marked-is : (i : ℕ) (v : Bool) → i < stack_room → get_or marks i false ≡ v → is_unwritten before (stack_base + i) ≡ not v
  marked-is i v within is =
      ap (λ (s : Bool). s && not (is_written before (stack_base + i))) (in-stack i within)
      ∙ ap not (sym (m.each i within) ∙ is)

  -- one that is read before the first unmarked one
  passed-is : (from at b : ℕ) → at ≤ stack_room → ((i : ℕ) → from ≤ i → i < at → get_or marks i false ≡ true)
      → (stack_base ≤ b → (from ≤ b - stack_base) × (b - stack_base < at)) → b < stack_base + stack_room → is_unwritten before b ≡ false
  passed-is from at b low all lies high = elim (cases_lt b stack_base) [
    | inl below ↦ and-false (is_from_frame 0 b) (not (is_written before b)) (below-stack b below)
    | inr there ↦
        let within = lies (omega (arith, there)) in
        let e : stack_base + (b - stack_base) ≡ b = omega (arith, there) in
        ap (is_unwritten before) (sym e)
        ∙ marked-is (b - stack_base) true (omega (arith, within.1, low)) (all (b - stack_base) within.0 within.1)
  ]

  module _ (a n from to at : ℕ) (e : from ≡ min (a - stack_base) stack_room) (f : to ≡ min (a + n - stack_base) stack_room)
      (all : (i : ℕ) → from ≤ i → i < at → get_or marks i false ≡ true) where
    pub span-some : from ≤ at → at < to → get_or marks at false ≡ false → Some (stack_base + at) ≡ first_in before a n
    span-some low less is =
        sym (first-some before a n (stack_base + at) (omega (arith, low, less, e, f)) (omega (arith, less, f))
        (marked-is at false (omega (arith, less, f)) is)
        (λ c l h. passed-is from at c (omega (arith, less, f)) all (λ s. (omega (arith, l, h, s, e), omega (arith, h, s))) (omega (arith, h, less, f))))

    pub span-none : to ≤ at → at ≤ stack_room → None ≡ first_in before a n
    span-none over low = sym (first-none before a n (λ b l h. elim (cases_lt b (stack_base + stack_room)) [
      | inl inside ↦ passed-is from at b low all (λ s. (omega (arith, l, s, e, inside), omega (arith, h, s, f, over, inside))) inside
      | inr past ↦ and-false (is_from_frame 0 b) (not (is_written before b)) (past-stack b past)
    ]))

-- what a step with a change wrote
or-false : (b : Bool) → (b || false) ≡ b
or-false true = refl
or-false false = refl

none-in : (b : ℕ) → (nat_le 0 b && nat_lt b 0) ≡ false
none-in b = grind (arith, nat_tests)

abbrev any-of : State → Change → ℕ → Bool
any-of y c b = list_any (λ (q : Part). has q (Byte b)) (parts_by y c)

abbrev in-run : Run → ℕ → Bool
in-run run b = has (part.Bytes run.address run.len) (Byte b)

-- with the same value behind both tests
same-test : (s t v w : Bool) → s ≡ t → (if s then v else w) ≡ (if t then v else w)
same-test s t v w e = ap (λ (u : Bool). if u then v else w) e

quiet-test : (s v w : Bool) → s ≡ false → w ≡ (if s then v else w)
quiet-test s v w e = ap (λ (t : Bool). if t then v else w) (sym e)

by-run : (y : State) (c : Change) (b : ℕ) (w : Bool)
    → (if in-run (run_by y c) b then (run_by y c).written else w) ≡ (if any-of y c b then not (is_call c) else w)
by-run y (Set r value after) b w = same-test _ false true w (none-in b)
by-run y (Go after) b w = same-test _ false true w (none-in b)
by-run y (Store a at size value after) b w = same-test _ _ true w (sym (or-false (in-run (run_by y (Store a at size value after)) b)))
by-run y (Fetch a at size value r after) b w = same-test _ _ true w (sym (or-false (in-run (run_by y (Fetch a at size value r after)) b)))
by-run y (Call to) b w = same-test _ _ false w (sym (or-false (in-run (run_by y (Call to)) b)))
by-run y Return b w = same-test _ false true w (none-in b)
by-run y (Cell a from n after) b w = same-test _ _ true w (sym (or-false (in-run (run_by y (Cell a from n after)) b)))
by-run y (Trace word after) b w = same-test _ false true w (none-in b)
by-run y (Stop status) b w = same-test _ false true w (none-in b)

wrote-is : (x y : State) (b : ℕ) → IsState x → writes y (step_entry x) (Byte b) ≡ any-of y (change x) b
wrote-is x y b is = ap (list_any (λ (q : Part). has q (Byte b))) (step_wrote x y is)

-- the marks behind a step
pub marks-taken : (before : List State) (x y : State) (taken : Taken) (run : Run) (old new : List Bool) → Took x y taken → IsMarked before old
    → run ≡ run_by y taken.change
    → ((i : ℕ) → i < stack_room → get_or new i false ≡ (if in-run run (stack_base + i) then run.written else get_or old i false))
    → IsMarked (x ∷ before) new
marks-taken before x y taken run old new t m e set = record {
  each = λ i within.
      let b = stack_base + i in
      let c : taken.change ≡ change x = t.change in
      set i within
      ∙ ap (λ (r : Run). if in-run r b then r.written else get_or old i false) (e ∙ ap (run_by y) c)
      ∙ by-run y (change x) b (get_or old i false)
      ∙ ap (λ (w : Bool). if any-of y (change x) b then not (is_call (change x)) else w) (m.each i within)
      ∙ ap (λ (s : Bool). if s then not (is_call (change x)) else is_written before b)
      (sym (wrote-is x y b t.is) ∙ ap (λ (z : State). writes z (step_entry x) (Byte b)) t.next);
}

-- none of a step that writes no memory
quiet-any : (y : State) (c : Change) (b : ℕ) → is_quiet c ≡ true → any-of y c b ≡ false
quiet-any y (Set r value after) b is = refl
quiet-any y (Go after) b is = refl
quiet-any y (Store a at size value after) b is = absurd cc
quiet-any y (Fetch a at size value r after) b is = absurd cc
quiet-any y (Call to) b is = absurd cc
quiet-any y Return b is = absurd cc
quiet-any y (Cell a from n after) b is = absurd cc
quiet-any y (Trace word after) b is = absurd cc
quiet-any y (Stop status) b is = absurd cc

pub marks-quiet : (before : List State) (x : State) (marks : List Bool) → IsMarked before marks → IsState x → is_quiet (change x) ≡ true
    → IsMarked (x ∷ before) marks
marks-quiet before x marks m is quiet = record {
  each = λ i within.
      let b = stack_base + i in
      m.each i within
      ∙ ap (λ (s : Bool). if s then not (is_call (change x)) else is_written before b)
      (sym (wrote-is x (next x) b is ∙ quiet-any (next x) (change x) b quiet));
}

-- at first nothing is marked
all-false : (n i : ℕ) → get_or (replicate n false) i false ≡ false
all-false zero i = refl
all-false (suc n) zero = refl
all-false (suc n) (suc i) = all-false n i

pub marks-none : (marks : List Bool) → marks ≡ replicate 8192 false → IsMarked [] marks
marks-none marks e = record { each = λ i within. ap (λ (ms : List Bool). get_or ms i false) e ∙ all-false 8192 i }

-- marks that are set one after another
pub record SetFrom (from to : ℕ) (value : Bool) (old new : List Bool) : Type 0 where
  pub size : length new ≡ length old
  pub each : (i : ℕ) → get_or new i false ≡ (if nat_le from i && nat_lt i to then value else get_or old i false)

pub SetFrom-start : (from : ℕ) (value : Bool) (old : List Bool) → SetFrom from from value old old
SetFrom-start from value old = record {
  size = refl;
  each = λ i.
      let none : (nat_le from i && nat_lt i from) ≡ false = grind (arith, nat_tests) in
      ap (λ (s : Bool). if s then value else get_or old i false) (sym none);
}

pub SetFrom-more : (from to : ℕ) (value : Bool) (old new : List Bool) → SetFrom from to value old new → from ≤ to → to < length old
    → SetFrom from (to + 1) value old (slice_set new to value)
SetFrom-more from to value old new s low within = record {
  size = length-set new to value ∙ s.size;
  each = λ i. elim (cases_eq i to) [
    | inl here ↦
        let yes : (nat_le from i && nat_lt i (to + 1)) ≡ true = grind (arith, nat_tests, here, low) in
        ap (λ (j : ℕ). get_or (slice_set new to value) j false) here
        ∙ get_or-set_same new to value false (omega (arith, within, s.size))
        ∙ ap (λ (b : Bool). if b then value else get_or old i false) (sym yes)
    | inr apart ↦
        let same : (nat_le from i && nat_lt i to) ≡ (nat_le from i && nat_lt i (to + 1)) = same-below from to i apart in
        get_or-set_other new to i value false apart
        ∙ s.each i
        ∙ ap (λ (b : Bool). if b then value else get_or old i false) same
  ];
} where
  same-below : (from to i : ℕ) → i ≢ to → (nat_le from i && nat_lt i to) ≡ (nat_le from i && nat_lt i (to + 1))
  same-below from to i apart = elim (cases_lt i to) [
    | inl less ↦ grind (arith, nat_tests, less)
    | inr more ↦ grind (arith, nat_tests, more, apart)
  ]

-- the marks of some bytes
span-has : (a n i from to : ℕ) → i < stack_room → from ≡ min (a - stack_base) stack_room → to ≡ min (a + n - stack_base) stack_room
    → (nat_le from i && nat_lt i to) ≡ has (part.Bytes a n) (Byte (stack_base + i))
span-has a n i from to within e f = elim (cases_lt (stack_base + i) a) [
  | inl below ↦
      let one : (nat_le from i && nat_lt i to) ≡ false = grind (arith, nat_tests, below, within, e) in
      let two : has (part.Bytes a n) (Byte (stack_base + i)) ≡ false = grind (arith, nat_tests, below) in
      one ∙ sym two
  | inr there ↦ elim (cases_lt (stack_base + i) (a + n)) [
    | inl inside ↦
        let one : (nat_le from i && nat_lt i to) ≡ true = grind (arith, nat_tests, there, inside, within, e, f) in
        let two : has (part.Bytes a n) (Byte (stack_base + i)) ≡ true = grind (arith, nat_tests, there, inside) in
        one ∙ sym two
    | inr past ↦
        let one : (nat_le from i && nat_lt i to) ≡ false = grind (arith, nat_tests, past, within, f) in
        let two : has (part.Bytes a n) (Byte (stack_base + i)) ≡ false = grind (arith, nat_tests, past) in
        one ∙ sym two
  ]
]

pub run-set : (a n from to : ℕ) (value : Bool) (old new : List Bool) → from ≡ min (a - stack_base) stack_room → to ≡ min (a + n - stack_base) stack_room
    → ((i : ℕ) → get_or new i false ≡ (if nat_le from i && nat_lt i to then value else get_or old i false))
    → (i : ℕ) → i < stack_room → get_or new i false ≡ (if has (part.Bytes a n) (Byte (stack_base + i)) then value else get_or old i false)
run-set a n from to value old new e f s i within =
    s i ∙ ap (λ (b : Bool). if b then value else get_or old i false) (span-has a n i from to within e f)

-- no bytes, no marks
no-bytes : (a b : ℕ) → has (part.Bytes a 0) (Byte b) ≡ false
no-bytes a b = grind (arith, nat_tests)

pub empty-run : (run : Run) (old : List Bool) → run.len ≡ 0
    → (i : ℕ) → i < stack_room → get_or old i false ≡ (if in-run run (stack_base + i) then run.written else get_or old i false)
empty-run run old none i within =
    let out : in-run run (stack_base + i) ≡ false =
    ap (λ (n : ℕ). has (part.Bytes run.address n) (Byte (stack_base + i))) none ∙ no-bytes run.address (stack_base + i) in
    quiet-test (in-run run (stack_base + i)) run.written (get_or old i false) out
