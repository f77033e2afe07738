use Rattle.std.proofs.Common.{◌≡◌, ℕ, List, Ok, length, take}
use Rattle.bpf_isa.specs.Maps.{items_of}
use Rattle.bpf_whynot.specs.Asked.{goals_of}
use Rattle.bpf_whynot.specs.Tables.{AreGoals}
use Rattle.bpf_whynot.proofs.goals.flag_goals.Given as goal

abbrev pub invariant-loop-item : goal.invariant-loop-item
invariant-loop-item l = (goals : List ℕ) × (goals_of l.program (take (length l.yielded) (items_of l.text)) ≡ Ok goals) × AreGoals l.program goals l.flags
