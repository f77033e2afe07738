-- A listing that is assembled has no fault.
use Rattle.std.proofs.Common.{subst, sym}
use Rattle.bpf_text.specs.LineTable.{IsLineTable}
use Rattle.bpf_text.proofs.LineTables.{is-line-table}
use Rattle.bpf_text.proofs.read.rows.line_table.Goals as goal

pub returns-in-Ok-rows_of-clause-ok : goal.returns-in-Ok-rows_of-clause-ok
returns-in-Ok-rows_of-clause-ok c =
    subst (IsLineTable c.args.text.now) (sym c.in-Ok-rows_of.ensures) (is-line-table c.args.text.now c.in-Ok.field-0.items c.in-Ok.ensures.ok)
