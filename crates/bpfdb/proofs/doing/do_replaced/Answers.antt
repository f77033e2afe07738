use Rattle.std.proofs.Common.{◌∙◌, Option, refl, subst, sym}
use Rattle.bpfdb.specs.Done.{Replaced}
use Rattle.bpfdb.specs.Files.{world_of}
use Rattle.bpfdb.specs.Tests.{TestsIn}
use Rattle.bpfdb_options.specs.declared.ask.TestAsk.{TestAsk}
use Rattle.bpfdb.proofs.doing.do_replaced.Goals as goal

pub returns-in-None-clause-does : goal.returns-in-None-clause-does
returns-in-None-clause-does g c =
    let file = c.args.bytes.now.file.now in
    let world = world_of g.F.Opener.bytes_at c.args.host.now in
    let does = c.do_job.ensures.does in
    Replaced file (subst (λ (ask : Option TestAsk). TestsIn ask world c.args.plan.now file file) (sym c.in-None.is ∙ c.asks_tests.ensures) refl) does.0 does.1 does.2
