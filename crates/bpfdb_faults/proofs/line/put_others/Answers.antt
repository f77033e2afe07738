use Rattle.std.proofs.Common.{◌≡◌, ap, sym, length, add-one, arith}
use Rattle.counted_io.proofs.Appending.{WritesAfter-WritesAfter, WritesAfter-text}
use Rattle.bpf_link.specs.Names.{built}
use Rattle.bpfdb_script.proofs.Telling.{WritesAfter-nothing}
use Rattle.bpfdb_faults.specs.Faults.{with_other}
use Rattle.bpfdb_faults.proofs.line.put_others.Goals as goal

pub loop-helper-init : goal.loop-helper-init
loop-helper-init g c = WritesAfter-nothing g.E.Write.contents c.args.errors.now c.args.so_far

pub loop-helper-preserved : goal.loop-helper-preserved
loop-helper-preserved g c =
    WritesAfter-WritesAfter g.E.Write.contents _ _ _ _ _ _ _ _ _ c.loop-helper.invariant
    c.put_other-told.ensures
    (ap (built (with_other c.args.others.now)) (sym (add-one c.loop-helper.helper)))

pub returns : goal.returns
returns g c =
    let end : c.loop-helper.helper ≡ length c.args.others.now = omega arith in
    WritesAfter-text g.E.Write.contents _ _ _ _ _ _ c.loop-helper.invariant (ap (built (with_other c.args.others.now)) end)
