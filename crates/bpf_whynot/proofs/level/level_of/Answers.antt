use Rattle.std.proofs.Common.{length}
use Rattle.bpf_whynot.specs.Flows.{behind, ends, jump}
use Rattle.bpf_whynot.specs.Levels.{is_seed}
use Rattle.bpf_whynot.proofs.Leveling.{back_all, back_by}
use Rattle.bpf_whynot.proofs.level.level_of.Goals as goal

pub returns-in-Ok-come_back-2 : goal.returns-in-Ok-come_back-2
returns-in-Ok-come_back-2 c = record {
  hit = back_by (behind c.args.program.now c.args.above.now.returns.items) (jump c.args.program.now) (is_seed c.args.program.now c.args.goals.now c.args.above.now.hits.items)
      (length c.args.program.now.insns) c.in-Ok.seeds.items c.in-Ok-come_back.hits.items
      (rw c.as_slice.ensures.value at c.in-Ok.ensures)
      (back_all _ _ _ _ _ _ c.len.ensures (rw (c.as_slice-2.ensures.value, c.as_slice-3.ensures.value) at c.in-Ok-come_back.ensures));
  return = back_by (behind c.args.program.now c.args.above.now.returns.items) (jump c.args.program.now) (ends c.args.program.now)
      (length c.args.program.now.insns) c.in-Ok-end_seeds.exits.items c.in-Ok-come_back-2.returns.items
      c.in-Ok-end_seeds.ensures
      (back_all _ _ _ _ _ _ c.len-2.ensures (rw (c.as_slice-4.ensures.value, c.as_slice-5.ensures.value) at c.in-Ok-come_back-2.ensures));
}
