use Rattle.std.proofs.Common.{ap}
use Rattle.counted_io.proofs.Appending.{Writes-none, Writes-text}
use Rattle.bpf_lines.specs.Objects.{rows_of_all}
use Rattle.bpf_lines.proofs.objects.write_table.Goals as goal

pub returns : goal.returns
returns g c =
    let known = c.put_objects.ensures _ _ (Writes-none g.W.Write.contents c.args.writer.now _) in
    Writes-text g.W.Write.contents _ _ _ _ _ known (ap (rows_of_all c.args.all.now c.args.words.now) c.begin_of-first.ensures.value)
