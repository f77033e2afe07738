-- What the words of a command line come to.
use Rattle.std.specs.Prelude.{ℕ, ◌≡◌, ◌<◌, ◌⊎◌, List, length}
use Rattle.bpfdb_cli.specs.Plans.{IsFaultOf, IsPlan, status_of}
use Rattle.bpfdb_cli.specs.declared.plans.Plan.{Plan}
use Rattle.bpfdb_cli.specs.declared.plans.PlanFault.{PlanFault}
use Rattle.bpfdb.specs.Done.{EndsPlanWith}

-- An exit status other than 2: no word follows the program's name, and it is 0; or the words are a plan, and it is that of the plan's job; or
-- it is that of a fault that the words have.
abbrev pub IsStatusOf : List (List ℕ) → ℕ → Type 0
IsStatusOf words status = ((length words < 2) × (status ≡ 0)) ⊎ ((plan : Plan) × IsPlan words plan × EndsPlanWith plan status)
    ⊎ ((fault : PlanFault) × IsFaultOf words fault × (status ≡ status_of fault))
