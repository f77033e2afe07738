use Rattle.std.proofs.Common.{append_assoc}
use Rattle.counted_io.proofs.Appending.{Writes-none}
use Rattle.bpf_suite.proofs.shown.write_script.Goals as goal

pub returns : goal.returns
returns g c =
    let begun = c.in_ok-begun.ensures _ _ (Writes-none g.W.Write.contents c.args.writer.now _) in
    let told = c.put_reg_commands-told.ensures _ _ begun in
    simp append_assoc (simp append_assoc at (c.put.ensures _ _ told))
