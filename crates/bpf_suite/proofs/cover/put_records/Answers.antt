use Rattle.std.proofs.Common.{◌≡◌, false, rules, tests, true}
use Rattle.bpf_suite.specs.Faults.{has_part}
use Rattle.bpf_suite.specs.declared.kind.Part.TheVariants as part
use Rattle.bpf_suite.proofs.Covering.{if-ok, records-other, records-placed}
use Rattle.bpf_suite.proofs.cover.put_records.Goals as goal

pub returns-then-has : goal.returns-then-has
returns-then-has g c =
    let test = c.args.test.now in
    let placed : has_part part.Lines test ≡ true = search (rules, tests) in
    if-ok c.put_records.result _ _
    (λ told p. (p.0, records-placed (has_part part.Lines test) c.args.file.now test c.args.coverage.now p.0 placed p.1, p.2))
    (rw c.text.ensures at c.put_records.ensures)

pub returns-else-has : goal.returns-else-has
returns-else-has g c =
    let test = c.args.test.now in
    let other : has_part part.Lines test ≡ false = search (rules, tests) in
    if-ok c.put_record.result _ _
    (λ told p. (p.0, records-other (has_part part.Lines test) c.args.file.now test c.args.coverage.now p.0 other p.1, p.2))
    c.put_record.ensures
