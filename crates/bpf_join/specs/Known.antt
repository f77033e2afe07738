-- Scaffolding: which helpers were asked for, and the functions that answer them.
use Rattle.std.specs.Prelude.{◌≡◌, ⊤, ℕ, List, Option, Some, None, get_or, length}
use Rattle.bpf_link.specs.declared.plan.Plan.{Plan}
use Rattle.bpf_join.specs.Functions.{callee}

-- What is known of a helper: nothing, or the slot at which the function begins that answers it, if one does.
abbrev pub IsKnown : Plan → ℕ → Option (Option ℕ) → Type 0
IsKnown functions number None = ⊤
IsKnown functions number (Some to) = to ≡ callee functions number

-- The same of each helper that has a name in the kernel's list, 1 to 211, by its number.
pub record AreKnown (functions : Plan) (known : List (Option (Option ℕ))) : Type 0 where
  pub count : length known ≡ 212
  pub each : (number : ℕ) → IsKnown functions number (get_or known number None)
