use Rattle.std.proofs.Common.{◌≡◌, ◌∙◌, ◌++◌, ◌/◌, List, Option, ℕ, ap, sym, length, add-one, arith}
use Rattle.counted_io.proofs.Appending.{WritesAfter-WritesAfter, WritesAfter-text}
use Rattle.bpf_link.specs.Names.{built}
use Rattle.bpfdb_script.proofs.Telling.{WritesAfter-nothing}
use Rattle.bpfdb_jobs.specs.Differences.{difference_line, with_difference}
use Rattle.bpfdb_jobs.proofs.differences.put_differences.Goals as goal

pub loop-k-init : goal.loop-k-init
loop-k-init g c = WritesAfter-nothing g.W.Write.contents c.args.writer.now c.args.so_far

pub loop-k-preserved : goal.loop-k-preserved
loop-k-preserved g c =
    WritesAfter-WritesAfter g.W.Write.contents _ _ _ _ _ _ _ _ _ c.loop-k.invariant c.put_difference-told.ensures
    (ap (λ (text : Option (List ℕ)). built (with_difference c.args.notes.now) c.loop-k.k ++ difference_line text) c.difference.ensures
    ∙ ap (built (with_difference c.args.notes.now)) (sym (add-one c.loop-k.k)))

pub returns : goal.returns
returns g c =
    let end : c.loop-k.k ≡ length c.args.notes.now.rows.now / 64 = omega arith in
    WritesAfter-text g.W.Write.contents _ _ _ _ _ _ c.loop-k.invariant (ap (built (with_difference c.args.notes.now)) end)
