use Rattle.std.proofs.Common.{◌∙◌}
use Rattle.suite_files.proofs.Strings.{fits-texts}
use Rattle.suite_files.specs.Asks.{has_offset, most_texts}
use Rattle.suite_files.proofs.asked.entries_fit.Goals as goal

pub returns : goal.returns
returns c = c.are_programs.ensures ∙ fits-texts most_texts has_offset c.args.entries.now
