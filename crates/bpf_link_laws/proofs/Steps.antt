-- The steps of a setup, of a machine that is as at its opening but for pc, r3, r4 and memory.
use Rattle.std.proofs.Common.{◌≡◌, ◌≤◌, ◌<◌, ◌+◌, ◌%◌, ◌^◌, ◌==◌, ℕ, suc, ℤ, false, List, [], ◌∷◌, Some, None, length, inl, inr, refl, sym, ap, subst, ◌∙◌, arith}
use Rattle.std.specs.Prelude.{if◌then◌else◌}
use Rattle.std.specs.Int.{w32, cast_signed}
use Rattle.std.specs.Option.{option_map_or}
use Rattle.std.proofs.lemmas.Bool.{cases_lt}
use Rattle.bpf_isa.specs.declared.instruction.BinaryOp.TheVariants.{Mov}
use Rattle.bpf_isa.specs.declared.instruction.Address.{Address}
use Rattle.bpf_isa.specs.declared.instruction.Insn.TheVariants.{Binary, JumpLong, LoadWide, Store}
use Rattle.bpf_isa.specs.declared.instruction.Size.TheVariants.{Double}
use Rattle.bpf_isa.specs.declared.instruction.Source.TheVariants.{Immediate, Register}
use Rattle.bpf_isa.specs.declared.instruction.WideValue.{WideValue}
use Rattle.bpf_isa.specs.declared.instruction.Width.TheVariants.{Bits64}
use Rattle.bpf_isa.specs.Programs.{Checked, insn_at}
use Rattle.bpf_entries.specs.declared.status.Status.TheVariants.{Running}
use Rattle.bpf_entries.specs.Status.{has_ended}
use Rattle.bpf_steps.specs.declared.change.Change.TheVariants as change
use Rattle.bpf_steps.specs.Access.{address, accessible, fault}
use Rattle.bpf_steps.specs.Next.{wide, target, change_by, changed, next}
use Rattle.bpf_steps.specs.Numbers.{wrap}
use Rattle.bpf_steps.specs.Platform.{context_base}
use Rattle.bpf_steps.specs.Regions.{Image, index_of, is_from_frame, with_number, opened}
use Rattle.bpf_steps.specs.Runs.{state_after}
use Rattle.bpf_steps.specs.State.{State, initial}
use Rattle.bpf_machine.proofs.StepLaws.{change_at}

-- A machine within its setup.
abbrev pub within : Checked → List ℕ → ℕ → ℕ → ℕ → Image → State
within program context p a b m = record {
  program = program;
  pc = p;
  registers = 0 ∷ ((if length context == 0 then 0 else context_base) ∷ (length context ∷ (a ∷ (b ∷ (0 ∷ (0 ∷ (0 ∷ (0 ∷ (0 ∷ [])))))))));
  frames = [];
  memory = m;
  status = Running;
  trace = [];
}

pub at_opening : (program : Checked) (context : List ℕ) → initial program context ≡ within program context 0 0 0 (opened program.maps context)
at_opening program context = refl

pub step_place : (program : Checked) (context : List ℕ) (p a b : ℕ) (m : Image) (value : WideValue) → insn_at program p ≡ Some (LoadWide 3 value) → next (within program context p a b m) ≡ within program context (p + 2) (wide value) b m
unfolding change_by changed
step_place program context p a b m value here = ap (changed (within program context p a b m)) (change_at (within program context p a b m) (LoadWide 3 value) here)

pub step_number : (program : Checked) (context : List ℕ) (p a b : ℕ) (m : Image) (value : WideValue) → insn_at program p ≡ Some (LoadWide 4 value) → next (within program context p a b m) ≡ within program context (p + 2) a (wide value) m
unfolding change_by changed
step_number program context p a b m value here = ap (changed (within program context p a b m)) (change_at (within program context p a b m) (LoadWide 4 value) here)

pub step_clear : (program : Checked) (context : List ℕ) (p a b : ℕ) (m : Image) → insn_at program p ≡ Some (Binary Mov Bits64 3 (Immediate (cast_signed w32 0))) → next (within program context p a b m) ≡ within program context (p + 1) 0 b m
unfolding change_by changed
step_clear program context p a b m here = ap (changed (within program context p a b m)) (change_at (within program context p a b m) (Binary Mov Bits64 3 (Immediate (cast_signed w32 0))) here)

pub step_clear_both : (program : Checked) (context : List ℕ) (p a b : ℕ) (m : Image) → insn_at program p ≡ Some (Binary Mov Bits64 4 (Immediate (cast_signed w32 0))) → next (within program context p a b m) ≡ within program context (p + 1) a 0 m
unfolding change_by changed
step_clear_both program context p a b m here = ap (changed (within program context p a b m)) (change_at (within program context p a b m) (Binary Mov Bits64 4 (Immediate (cast_signed w32 0))) here)

pub step_jump : (program : Checked) (context : List ℕ) (p a b : ℕ) (m : Image) (distance : ℤ) → insn_at program p ≡ Some (JumpLong distance) → next (within program context p a b m) ≡ within program context (target (within program context p a b m) distance) a b m
unfolding change_by changed
step_jump program context p a b m distance here = ap (changed (within program context p a b m)) (change_at (within program context p a b m) (JumpLong distance) here)

pub step_store : (program : Checked) (context : List ℕ) (p a b : ℕ) (m : Image) (offset : ℤ) (to at : ℕ) → insn_at program p ≡ Some (Store Double (record { base = 3; offset = offset }) (Register 4))
    → (a + wrap 64 offset) % 2 ^ 64 ≡ to → is_from_frame 1 to ≡ false → index_of m to 8 ≡ Some at → next (within program context p a b m) ≡ within program context (p + 1) a b (with_number m at 8 (b % 2 ^ 64))
unfolding change_by changed
step_store program context p a b m offset to at here place outside there =
    let x : State = within program context p a b m in
    let where_to : Address = record { base = 3; offset = offset } in
    let same : address x where_to ≡ to = place in
    let found : accessible x (address x where_to) 8 ≡ Some at = ap (λ k. accessible x k 8) same ∙ ap (λ c. if c then None else index_of m to 8) outside ∙ there in
    ap (changed x) (change_at x (Store Double where_to (Register 4)) here)
    ∙ ap (λ o. changed x (option_map_or (λ k. change.Store (address x where_to) k Double (b % 2 ^ 64) (p + 1)) o (fault (address x where_to)))) found

-- The way from the opening: none of its states has ended, and each but the first and the last stands at a slot or past it.
pub record Gone (program : Checked) (context : List ℕ) (least p a b : ℕ) (m : Image) : Type 0 where
  pub steps : ℕ
  pub state : state_after steps (initial program context) ≡ within program context p a b m
  pub running : (k : ℕ) → k < steps → has_ended (state_after k (initial program context)).status ≡ false
  pub past : (k : ℕ) → 0 < k → k < steps → least ≤ (state_after k (initial program context)).pc

up_to : (P : ℕ → Type 0) (n : ℕ) → ((k : ℕ) → k < n → P k) → P n → (k : ℕ) → k < suc n → P k
up_to P n each here k low = elim (cases_lt k n) [
  | inl below ↦ each k below
  | inr from ↦ let same : n ≡ k = omega arith in subst P same here
]

pub still : (program : Checked) (context : List ℕ) (least : ℕ) → (g : Gone program context least 0 0 0 (opened program.maps context)) × (g.steps ≡ 0)
still program context least = (
  record {
    steps = 0;
    state = refl;
    running = λ k low. absurd (omega arith);
    past = λ k some low. absurd (omega arith);
  },
  refl,
)

pub once : (program : Checked) (context : List ℕ) (least p : ℕ) → next (initial program context) ≡ within program context p 0 0 (opened program.maps context) → (g : Gone program context least p 0 0 (opened program.maps context)) × (g.steps ≡ 1)
once program context least p moved = (
  record {
    steps = 1;
    state = moved;
    running = λ k low. let first : 0 ≡ k = omega arith in subst (λ i. has_ended (state_after i (initial program context)).status ≡ false) first refl;
    past = λ k some low. absurd (omega arith);
  },
  refl,
)

pub go : (program : Checked) (context : List ℕ) (least p a b q c d : ℕ) (m n : Image) (g : Gone program context least p a b m) → (0 < g.steps → least ≤ p) → next (within program context p a b m) ≡ within program context q c d n
    → Gone program context least q c d n
go program context least p a b q c d m n g low moved =
    let x = initial program context in
    record {
      steps = suc g.steps;
      state = ap next g.state ∙ moved;
      running = up_to (λ k. has_ended (state_after k x).status ≡ false) g.steps g.running (ap (λ (y : State). has_ended y.status) g.state);
      past = λ k some less. up_to (λ k. 0 < k → least ≤ (state_after k x).pc) g.steps (λ k less some. g.past k some less) (λ some. subst (λ (y : State). least ≤ y.pc) (sym g.state) (low some)) k less some;
    }
