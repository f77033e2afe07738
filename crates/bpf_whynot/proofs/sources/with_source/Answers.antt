use Rattle.std.proofs.Common.{◌∙◌, arith}
use Rattle.bpf_whynot.proofs.Sourced.{stays_none, stays_far, puts}
use Rattle.bpf_whynot.proofs.sources.with_source.Goals as goal

pub returns-else-target-len : goal.returns-else-target-len
returns-else-target-len c =
    λ program within leads a. stays_far program c.args.slot c.in-Some.target c.args.sources (leads ∙ c.in-Some.is) (omega (arith, c.if-target-len.false, c.len.ensures)) a

pub returns-then-target-len : goal.returns-then-target-len
returns-then-target-len c =
    λ program within leads a. puts program c.args.slot c.in-Some.target c.args.sources c.put_source.result (leads ∙ c.in-Some.is) (omega (arith, c.if-target-len.true, c.len.ensures)) c.requires c.put_source.ensures a

pub returns-in-None : goal.returns-in-None
returns-in-None c = λ program within leads a. stays_none program c.args.slot c.args.sources (leads ∙ c.in-None.is) a
