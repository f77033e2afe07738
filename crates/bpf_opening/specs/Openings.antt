-- Openings: the state from which a program is run, which is the initial one with what is asked put in. bpfdb's own choice.
use Rattle.std.specs.Prelude.{◌≡◌, ◌≤◌, ℕ, List, [], ◌∷◌, length, replicate, Option, Some, None, unwrap_or, slice_set}
use Rattle.bpf_isa.specs.Programs.{Checked}
use Rattle.bpf_steps.specs.Platform.{context_limit}
use Rattle.bpf_steps.specs.State.{State, initial}
use Rattle.bpf_opening.specs.declared.opening.Opening.{Opening}

-- Nothing is asked.
abbrev pub bare : Opening
bare = record { registers = replicate 10 None }

-- Numbers, in place of those that have a value of their own these.
abbrev pub overlaid : List (Option ℕ) → List ℕ → List ℕ
overlaid [] numbers = numbers
overlaid (value ∷ values) [] = []
overlaid (value ∷ values) (number ∷ numbers) = unwrap_or value number ∷ overlaid values numbers

-- A state with what is asked put in: registers have the values that are asked for. All else is as it was.
abbrev pub with_opening : Opening → State → State
with_opening opening x = record x { registers = overlaid opening.registers x.registers }

-- The state from which a program is run on a context.
abbrev pub begun : Opening → Checked → List ℕ → State
begun opening program context = with_opening opening (initial program context)

-- A machine stands there.
abbrev pub Opens : Opening → Checked → List ℕ → State → Type 0
Opens opening program context x = (length context ≤ context_limit) × (x ≡ begun opening program context)

-- Where nothing is asked, that is the initial state (law).
abbrev pub BareIsInitial : Type 0
BareIsInitial = (program : Checked) (context : List ℕ) → begun bare program context ≡ initial program context

-- (Scaffolding: one number in its place, if there is one.)
abbrev pub with_value : ℕ → Option ℕ → List ℕ → List ℕ
with_value r None numbers = numbers
with_value r (Some value) numbers = slice_set numbers r value
