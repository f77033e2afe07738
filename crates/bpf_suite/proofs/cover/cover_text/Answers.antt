use Rattle.std.proofs.Common.{◌∙◌}
use Rattle.counted_io.proofs.Appending.{Writes-none}
use Rattle.bpf_suite.proofs.cover.cover_text.Goals as goal

pub returns-in-Ok : goal.returns-in-Ok
returns-in-Ok c =
    let later = c.cover_shared.ensures.sections ∙ c.in_ok-bench.ensures in
    let found = c.in_ok-found.found in
    let each = rw later at c.in_ok-all.ensures in
    let first = c.in_ok-told.ensures in
    let written = rw c.in-Ok.is at (each.2 _ _ (first.2 _ _ (Writes-none _ c.new-writer.result _))) in
    record {
      front = first.0;
      back = each.0;
      sharing = (found, rw c.in_ok-bench.ensures at c.in_ok-found.ensures.found, first.1);
      alone = each.1;
      whole = rw c.into_inner.ensures (rw (c.new-writer.ensures, c.new.ensures.items) at written.ok);
    }
