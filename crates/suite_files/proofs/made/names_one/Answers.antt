use Rattle.std.proofs.Common.{◌∙◌}
use Rattle.std.specs.Prelude.{not}
use Rattle.input_texts.specs.Turns.{has_place}
use Rattle.suite_files.proofs.Strings.{fits-texts}
use Rattle.suite_files.proofs.made.names_one.Goals as goal

pub returns : goal.returns
returns c = c.is_one.ensures ∙ fits-texts 1 (λ text. not (has_place text)) c.args.entries.now
