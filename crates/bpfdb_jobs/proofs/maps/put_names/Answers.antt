use Rattle.std.proofs.Common.{◌≡◌, ap, sym, length, add-one, arith}
use Rattle.counted_io.proofs.Appending.{WritesAfter-WritesAfter, WritesAfter-text}
use Rattle.bpf_link.specs.Names.{built}
use Rattle.bpfdb_script.proofs.Telling.{WritesAfter-nothing}
use Rattle.bpfdb_jobs.specs.MapLines.{with_name}
use Rattle.bpfdb_jobs.proofs.maps.put_names.Goals as goal

pub loop-number-init : goal.loop-number-init
loop-number-init g c = WritesAfter-nothing g.E.Write.contents c.args.errors.now c.args.so_far

pub loop-number-preserved : goal.loop-number-preserved
loop-number-preserved g c =
    WritesAfter-WritesAfter g.E.Write.contents _ _ _ _ _ _ _ _ _ c.loop-number.invariant
    (rw c.short_at.ensures.value at c.put_name-told.ensures)
    (ap (built (with_name c.args.object.now c.args.places.now)) (sym (add-one c.loop-number.number)))

pub returns : goal.returns
returns g c =
    let end : c.loop-number.number ≡ length c.args.places.now = omega arith in
    WritesAfter-text g.E.Write.contents _ _ _ _ _ _ c.loop-number.invariant (ap (built (with_name c.args.object.now c.args.places.now)) end)
