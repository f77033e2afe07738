use Rattle.std.proofs.Common.{◌∙◌, rules, sym}
use Rattle.bpfdb_script.proofs.Seen.{seen-shown}
use Rattle.bpfdb_script.proofs.shown.put_shown.Goals as goal

pub returns-then-is_ascii_seen : goal.returns-then-is_ascii_seen
returns-then-is_ascii_seen g c = rw (seen-shown c.args.name.now (sym c.is_ascii_seen.ensures ∙ c.if-is_ascii_seen.true)) c.put.ensures
