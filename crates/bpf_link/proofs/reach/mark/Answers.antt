use Rattle.std.proofs.Common.{refl, arith, rules, tests}
use Rattle.bpf_link.proofs.Reached.{marks}
use Rattle.bpf_link.proofs.reach.mark.Goals as goal

pub returns-in-Ok-clause-ok : goal.returns-in-Ok-clause-ok
returns-in-Ok-clause-ok c =
    marks c.args.walk _ c.args.slot (record {
      inside = omega (arith, c.if-slot-len.false, c.len.ensures);
      fresh = search (rules, tests);
      reach = refl;
      queue = c.in-Ok.ensures.items;
    })
