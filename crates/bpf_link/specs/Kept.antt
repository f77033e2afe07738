-- The relocations of a plan that count, as they stand in the object.
use Rattle.std.specs.Prelude.{◌≡◌, Bool, List, filter}
use Rattle.bpf_link.specs.declared.parts.Side.TheVariants.{Text}
use Rattle.bpf_link.specs.declared.plan.Plan.{Plan}
use Rattle.bpf_link.specs.declared.pruned.Kept.{Kept}
use Rattle.bpf_link.specs.Parts.{first_of}
use Rattle.bpf_link.specs.Pruned.{is_kept}
use Rattle.bpf_link.specs.Tables.{relocations_in}

-- Those of both parts that name slots that are reached.
pub record IsKeptOf (plan : Plan) (reach : List Bool) (kept : Kept) : Type 0 where
  pub code : relocations_in kept.code.items ≡ filter (is_kept reach 0) plan.parts.code.relocations
  pub text : relocations_in kept.text.items ≡ filter (is_kept reach (first_of plan.parts Text)) plan.parts.text.relocations
