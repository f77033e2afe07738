use Rattle.std.proofs.Common.{refl}
use Rattle.bpf_cover.specs.Sources.{records_text}
use Rattle.bpf_cover.proofs.sources.put_records.Goals as goal

pub returns : goal.returns
returns g c =
    let ordered = c.in_ok-ordered.ordered.items in (
      records_text c.args.marks.now ordered,
      (ordered, rw (c.as_slice.ensures.value, c.in_ok-spots.ensures) at c.in_ok-ordered.ensures, refl),
      rw c.as_slice-2.ensures.value at c.put_files.ensures,
    )
