use Rattle.std.proofs.Common.{◌≡◌}
use Rattle.bpf_whynot.specs.Constants.{makers}
use Rattle.bpf_whynot.specs.Tables.{AreGoals}
use Rattle.bpf_whynot.proofs.Making.{has_some}
use Rattle.bpf_whynot.proofs.goals.flag_makers.Given as goal

abbrev pub invariant-loop-slot : goal.invariant-loop-slot
invariant-loop-slot l = record {
  found : l.found ≡ has_some (makers l.program l.maker l.slot);
  flags : AreGoals l.program (makers l.program l.maker l.slot) l.flags;
}
