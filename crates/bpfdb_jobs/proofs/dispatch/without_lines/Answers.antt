use Rattle.std.proofs.Common.{◌∙◌, refl, sym}
use Rattle.bpfdb_jobs.specs.Objects.{Said}
use Rattle.bpfdb_jobs.proofs.Knowing.{nothing-known}
use Rattle.bpfdb_jobs.proofs.dispatch.without_lines.Goals as goal

pub returns-clause-some : goal.returns-clause-some
returns-clause-some g c =
    let known = nothing-known c.args.job.now c.args.object.now c.args.fault.now c.nowhere.result c.requires.0 c.requires.1 (sym c.insists.ensures ∙ c.if-insists.false) c.nowhere.ensures.texts c.nowhere.ensures.own c.nowhere.ensures.goals c.nowhere.ensures.functions in
    (known.0, Said c.args.object.now refl c.requires.0 known.1 c.try_note.ensures)
