use Rattle.std.proofs.Common.{◌≡◌, ap₂, arith, false, nat_lt, true}
use Rattle.std.proofs.lemmas.Bool.Decides.{nat_tests}
use Rattle.counted_io.proofs.Appending.{WritesAfter-text}
use Rattle.bpf_diff.specs.Writers.{writer_text}
use Rattle.bpf_diff.proofs.against_ending.put_behind.Goals as goal

pub returns-then-entry-gt10 : goal.returns-then-entry-gt10
returns-then-entry-gt10 g c = λ before are.
    let past = c.if-entry-gt10.true in
    let isnt : nat_lt c.args.entry 11 ≡ false = grind (arith, nat_tests, past) in
    rw isnt c.put.ensures

pub returns-else-entry-gt10 : goal.returns-else-entry-gt10
returns-else-entry-gt10 g c = λ before are.
    let within = c.if-entry-gt10.false in
    let is : nat_lt c.args.entry 11 ≡ true = grind (arith, nat_tests, within) in
    rw is
    (WritesAfter-text g.W.Write.contents _ _ _ _ _ _ c.put_writer.ensures (ap₂ writer_text c.program.ensures (c.writer_in.ensures before are)))
