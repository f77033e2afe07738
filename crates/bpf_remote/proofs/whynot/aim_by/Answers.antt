use Rattle.std.proofs.Common.{arith, refl}
use Rattle.std.proofs.lemmas.Grind.{common_steps}
use Rattle.bpf_remote.proofs.WhyTexts.{spelled}
use Rattle.bpf_remote.proofs.whynot.aim_by.Goals as goal

pub returns-in-Ok-clause-some : goal.returns-in-Ok-clause-some
returns-in-Ok-clause-some g c =
    let short = c.requires in (
      _,
      spelled c.args.digits.now _ _ _ (grind (arith, common_steps, short)) c.in-Ok.ensures.value refl,
      c.aim_at.ensures,
    )
