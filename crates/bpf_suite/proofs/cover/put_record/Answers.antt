use Rattle.std.proofs.Common.{◌≡◌, false, rules, tests, true}
use Rattle.counted_io.specs.Lines.{lines}
use Rattle.bpf_cover.specs.Tracefiles.{record_text}
use Rattle.bpf_suite.specs.Covers.{unlined_text}
use Rattle.bpf_suite.specs.Tests.{has_listing, program_line}
use Rattle.bpf_suite.proofs.Covering.{record-listed, record-unlined}
use Rattle.bpf_suite.proofs.cover.put_record.Goals as goal

pub returns-then-not-has_listing : goal.returns-then-not-has_listing
returns-then-not-has_listing g c =
    let test = c.args.test.now in
    let none : has_listing test ≡ false = search (rules, tests) in (
      unlined_text (program_line test),
      record-unlined (has_listing test) c.args.file.now test c.args.coverage.now none,
      rw c.program_line-line.ensures at c.put_unlined.ensures,
    )

pub returns-in-Ok : goal.returns-in-Ok
returns-in-Ok g c =
    let test = c.args.test.now in
    let file = c.args.file.now in
    let found = c.args.coverage.now in
    let table = c.in-Ok.table.items in
    let listed : has_listing test ≡ true = search (rules, tests) in (
      record_text file (program_line test) (lines table) found.marks,
      record-listed (has_listing test) file test found table listed
          (rw (c.as_slice.ensures.value, c.in_ok-program.ensures) at c.in-Ok.ensures.ok),
      rw (c.program_line-line.ensures, c.as_slice-in-Ok.ensures.value) at c.put_record.ensures,
    )
