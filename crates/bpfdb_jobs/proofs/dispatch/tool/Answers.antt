use Rattle.std.proofs.Common.{◌∙◌, sym}
use Rattle.bpfdb_jobs.specs.Done.{Does}
use Rattle.bpfdb_jobs.proofs.dispatch.tool.Goals as goal

pub returns-else-is_check-clause-does : goal.returns-else-is_check-clause-does
returns-else-is_check-clause-does g c = Does (sym c.is_check.ensures ∙ c.if-is_check.false) c.file_tool.ensures.does
