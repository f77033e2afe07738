use Rattle.std.proofs.Common.{◌≡◌, ◌∙◌, [], arith, refl, sym}
use Rattle.counted_io.proofs.Appending.{WritesAfter-WritesAfter}
use Rattle.bpfdb_script.proofs.Telling.{WritesAfter-nothing}
use Rattle.bpf_diff.proofs.AgainstTelling.{registers-end, registers-more}
use Rattle.bpf_diff.proofs.against_ending.put_registers.Goals as goal

pub loop-number-init : goal.loop-number-init
loop-number-init g c = ([], refl, WritesAfter-nothing g.W.Write.contents c.args.writer.now c.args.so_far)

pub loop-number-preserved : goal.loop-number-preserved
loop-number-preserved g c =
    let done = c.loop-number.invariant in (
      _,
      registers-more c.args.cpu.now c.loop-number.number done.0 c.loop-number-test.true ∙ done.1,
      WritesAfter-WritesAfter g.W.Write.contents _ _ _ _ _ _ _ _ _ done.2 c.put_register-told.ensures refl,
    )

pub returns : goal.returns
returns g c =
    let done = c.loop-number.invariant in
    let all : c.loop-number.number ≡ 11 = omega (arith, c.loop-number-test.false, c.loop-number.auto.number-end) in
    WritesAfter-WritesAfter g.W.Write.contents _ _ _ _ _ _ _ _ _ done.2 c.put.ensures
    (sym (registers-end c.args.cpu.now c.loop-number.number done.0 all) ∙ done.1)
