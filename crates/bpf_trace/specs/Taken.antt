-- A step that was taken, and what it wrote.
use Rattle.std.specs.Prelude.{◌≡◌, ℕ, ◌-◌, List, [], ◌∷◌, length}
use Rattle.bpf_entries.specs.Frames.{frame_base, frame_len}
use Rattle.bpf_isa.specs.Sizes.{size_len}
use Rattle.bpf_steps.specs.Next.{next, change as change_in}
use Rattle.bpf_steps.specs.State.{IsState, State, depth}
use Rattle.bpf_steps.specs.declared.change.Change.{Change}
use Rattle.bpf_steps.specs.declared.change.Change.TheVariants.{Set, Go, Store, Fetch, Call, Return, Cell, Trace, Stop}
use Rattle.bpf_origin.specs.Places.{depth_for}
use Rattle.bpf_origin.specs.declared.place.Part.{Part}
use Rattle.bpf_origin.specs.declared.place.Part.TheVariants as part
use Rattle.bpf_trace.specs.declared.taken.Taken.{Taken}

-- What the step with this change wrote, which led to y.
abbrev pub register_by : State → ℕ → Part
register_by y r = part.Register (depth_for (depth y) r) r

abbrev pub parts_by : State → Change → List Part
parts_by y (Set r value next) = register_by y r ∷ []
parts_by y (Go next) = []
parts_by y (Store a at size value next) = part.Bytes a (size_len size) ∷ []
parts_by y (Fetch a at size value r next) = register_by y r ∷ part.Bytes a (size_len size) ∷ []
parts_by y (Call to) = part.Bytes (frame_base (depth y)) frame_len ∷ []
parts_by y Return = []
parts_by y (Cell a from n next) = register_by y 0 ∷ part.Bytes a n ∷ []
parts_by y (Trace word next) = register_by y 0 ∷ part.Word (length y.trace - 1) ∷ []
parts_by y (Stop status) = []

-- The step led from x to y.
pub record Took (x y : State) (taken : Taken) : Type 0 where
  pub is : IsState x
  pub slot : taken.slot ≡ x.pc
  pub change : taken.change ≡ change_in x
  pub next : y ≡ next x
