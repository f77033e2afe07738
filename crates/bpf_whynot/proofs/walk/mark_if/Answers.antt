use Rattle.std.proofs.Common.{refl, arith, rules}
use Rattle.bpf_whynot.proofs.Walking.{marks}
use Rattle.bpf_whynot.proofs.walk.mark_if.Goals as goal

pub returns-in-Ok : goal.returns-in-Ok
returns-in-Ok c =
    marks c.args.walk _ c.args.test c.args.slot c.if-not-test.false (record {
      inside = omega (arith, c.if-slot-len.false, c.len.ensures);
      fresh = search rules;
      marks = refl;
      queue = c.in-Ok.ensures.items;
    })
