-- Scaffolding: no public contract cites this. What rows are put together from.
use Rattle.std.specs.Prelude.{◌≡◌, ℕ, Bool, if◌then◌else◌, List, [], Vec, slice_get}
use Rattle.std.specs.Option.{option_map_or}
use Rattle.std.specs.declared.alloc.Global.{Global}
use Rattle.bpf_cover.specs.Texts.{texts_of}
use Rattle.bpf_isa.specs.Programs.{Checked}
use Rattle.bpf_steps.specs.State.{State}
use Rattle.bpfdb_script.specs.SlotTexts.{text_of_slot}
use Rattle.bpf_trace.specs.Objects.{place_members}
use Rattle.bpf_trace.specs.Rows.{branch_text, step_text}
use Rattle.bpf_trace.specs.declared.form.Form.{Form}
use Rattle.bpf_trace.specs.declared.form.Form.TheVariants.{Json}
use Rattle.bpf_trace.specs.declared.trace.Shown.{Shown}
use Rattle.bpf_trace.specs.declared.words.Words.{Words}

-- The row of a step, with what is told of its slot in the row's form.
abbrev pub line_in : Bool → Form → List ℕ → ℕ → State → List ℕ
line_in only_branches form told k x = if only_branches then branch_text form told k x else step_text form told k x

-- What is told of a program's slots: their instructions, and for objects the members that say where they stand.
abbrev pub members_at : List (Vec ℕ Global) → ℕ → List ℕ
members_at members slot = option_map_or (λ text. text.items) (slice_get members slot) []

pub record AreWords (shown : Shown) (program : Checked) (words : Words) : Type 0 where
  pub texts : words.texts ≡ texts_of program
  pub members : shown.form ≡ Json → (slot : ℕ) → members_at words.members.items slot ≡ place_members (text_of_slot shown.places slot)
