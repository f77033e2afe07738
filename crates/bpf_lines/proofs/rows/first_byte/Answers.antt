use Rattle.std.proofs.Common.{arith}
use Rattle.bpf_lines.proofs.Texts.{behind_words}
use Rattle.bpf_lines.proofs.rows.first_byte.Goals as goal

pub returns-then-number-words : goal.returns-then-number-words
returns-then-number-words c = behind_words c.args.words.now c.args.number (omega arith)
