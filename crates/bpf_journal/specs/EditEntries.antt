-- Scaffolding: keepers that hold some list, and which entries are of steps.
use Rattle.std.specs.Prelude.{List}
pub use Rattle.bpf_entries.specs.Past.{is_of_step}
use Rattle.bpf_entries.specs.Keeping.{Kept}

-- A keeper holds some list.
pub record HoldsSome {K : Type 0} (holds : K → List Kept → Type 0) (keeper : K) : Type 0 where
  pub es : List Kept
  pub held : holds keeper es
