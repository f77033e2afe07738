use Rattle.std.proofs.Common.{append_assoc}
use Rattle.bpf_suite.specs.Reports.{wanted}
use Rattle.bpf_suite.proofs.report.put_wanted.Goals as goal

pub returns : goal.returns
unfolding wanted
returns g c = λ first front known.
    let begun = c.put_wanted_outcome-begun.ensures first front known in
    let told = rw (
      c.also-context.ensures,
      c.also-cells.ensures,
      c.has.ensures,
      c.has-2.ensures,
      c.sections-sections.ensures,
    ) at (c.put_all.ensures first _ begun) in
    simp append_assoc (simp append_assoc at told)
