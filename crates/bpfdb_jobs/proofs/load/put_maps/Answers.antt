use Rattle.std.proofs.Common.{◌≡◌, ap, sym, length, add-one, arith}
use Rattle.counted_io.proofs.Appending.{WritesAfter-WritesAfter, WritesAfter-text}
use Rattle.bpf_link.specs.Names.{built}
use Rattle.bpfdb_script.proofs.Telling.{WritesAfter-nothing}
use Rattle.bpfdb_jobs.specs.Programs.{with_row}
use Rattle.bpfdb_jobs.proofs.load.put_maps.Goals as goal

pub loop-number-init : goal.loop-number-init
loop-number-init g c = WritesAfter-nothing g.W.Write.contents c.args.writer.now c.args.so_far

pub loop-number-preserved : goal.loop-number-preserved
loop-number-preserved g c =
    WritesAfter-WritesAfter g.W.Write.contents _ _ _ _ _ _ _ _ _ c.loop-number.invariant c.put_row-told.ensures
    (ap (built (with_row c.args.loaded.now)) (sym (add-one c.loop-number.number)))

pub returns : goal.returns
returns g c =
    let maps = ap length c.maps.ensures in
    let end : c.loop-number.number ≡ length c.args.loaded.now.program.maps = omega (arith, maps, c.len-number-end.ensures.value) in
    WritesAfter-text g.W.Write.contents _ _ _ _ _ _ c.loop-number.invariant (ap (built (with_row c.args.loaded.now)) end)
