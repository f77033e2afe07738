-- From where goals can be come to, as tables of each slot at each depth of calls tell it.
use Rattle.std.specs.Prelude.{◌≡◌, ℕ, zero, suc, ◌-◌, ◌||◌, ◌&&◌, Bool, false, List, [], ◌∷◌, get_or, length}
use Rattle.bpf_isa.specs.Programs.{Checked}
use Rattle.bpf_steps.specs.Platform.{frame_count}
use Rattle.bpf_whynot.specs.Reach.{is_goal}

-- What is held of each slot. Behind the last one nothing is.
abbrev pub is_in : List Bool → ℕ → Bool
is_in flags p = get_or flags p false

-- From which slots a goal can be come to before the function returns, and from which it can return.
pub record Table : Type 0 where
  pub hits : List Bool
  pub returns : List Bool

abbrev pub no_table : Table
no_table = record { hits = []; returns = [] }

-- The tables stand deepest first: that of depth d at 7 - d.
abbrev pub table_at : List Table → ℕ → Table
table_at [] j = no_table
table_at (table ∷ tables) zero = table
table_at (table ∷ tables) (suc j) = table_at tables j

abbrev pub table_of_depth : List Table → ℕ → Table
table_of_depth tables d = table_at tables (frame_count - 1 - d)

-- What they tell of a slot, with the slots to which the functions that stand return: a goal can be come to before the function returns, or it
-- returns, and one can from there.
abbrev pub told_by : List Table → ℕ → List ℕ → Bool
told_by tables p [] = is_in (table_of_depth tables 0).hits p
told_by tables p (q ∷ returns) =
    is_in (table_of_depth tables (length (q ∷ returns))).hits p
    || (is_in (table_of_depth tables (length (q ∷ returns))).returns p && told_by tables q returns)

-- The goals, one flag a slot.
pub record AreGoals (program : Checked) (goals : List ℕ) (flags : List Bool) : Type 0 where
  pub size : length flags ≡ length program.insns
  pub each : (p : ℕ) → is_in flags p ≡ is_goal goals p
