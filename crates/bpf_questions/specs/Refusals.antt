-- The line of a refusal of slots that a question asks about. bpfdb's own choice.
use Rattle.std.specs.Prelude.{ℕ, Bool, true, false, List}
use Rattle.bpf_lines.specs.DebugInfos.{no_place_line}
use Rattle.bpf_lines.specs.Places.{is_place}
use Rattle.bpf_remote.specs.Whynots.{aim_refusal}
use Rattle.bpf_whynot.specs.declared.fault.AimFault.TheVariants.{Goal}
use Rattle.bpf_whynot.specs.declared.fault.GoalFault.{GoalFault}
use Rattle.bpf_whynot.specs.declared.fault.GoalFault.TheVariants.{NoSlot}

-- A place that has no slot is refused by its name.
abbrev pub lacks_place : GoalFault → List ℕ → Bool
lacks_place NoSlot what = is_place what
lacks_place fault what = false

abbrev pub refusal_by : Bool → GoalFault → List ℕ → List ℕ
refusal_by true fault what = no_place_line what
refusal_by false fault what = aim_refusal (Goal fault)

abbrev pub goal_refusal : GoalFault → List ℕ → List ℕ
goal_refusal fault what = refusal_by (lacks_place fault what) fault what
