-- Scaffolding: how the tables are made, one depth after another, the deepest first. No public contract cites this.
use Rattle.std.specs.Prelude.{◌≡◌, ◌<◌, ℕ, zero, suc, ◌||◌, Bool, List, length}
use Rattle.bpf_isa.specs.Programs.{Checked}
use Rattle.bpf_whynot.specs.Flows.{behind, ends, enters, jump}
use Rattle.bpf_whynot.specs.Tables.{Table, is_in, no_table, table_at}
use Rattle.bpf_whynot.specs.Walks.{AreBack}
use Rattle.bpf_whynot.specs.declared.level.Level.{Level}

abbrev pub table_of : Level → Table
table_of level = record { hits = level.hits.items; returns = level.returns.items }

-- Seeds, one flag a slot.
pub record AreSeeds (seed : ℕ → Bool) (n : ℕ) (seeds : List Bool) : Type 0 where
  pub size : length seeds ≡ n
  pub each : (p : ℕ) → p < n → is_in seeds p ≡ seed p

-- A slot is a goal, or calls a function from whose first slot one can be come to before it returns.
abbrev pub is_seed : Checked → List Bool → List Bool → ℕ → Bool
is_seed program goals above p = is_in goals p || enters program above p

-- What is known at one depth, by what is known at the depth of the functions that are called there.
pub record IsLevel (program : Checked) (goals : List Bool) (above level : Table) : Type 0 where
  pub hit : AreBack (behind program above.returns) (jump program) (is_seed program goals above.hits) (length program.insns) level.hits
  pub return : AreBack (behind program above.returns) (jump program) (ends program) (length program.insns) level.returns

-- Nothing is known of functions that can't be called for want of a frame.
abbrev pub table_above : List Table → ℕ → Table
table_above tables zero = no_table
table_above tables (suc j) = table_at tables j

-- The first k of them.
pub record AreLevels (program : Checked) (goals : List Bool) (k : ℕ) (tables : List Table) : Type 0 where
  pub size : length tables ≡ k
  pub each : (j : ℕ) → j < k → IsLevel program goals (table_above tables j) (table_at tables j)
