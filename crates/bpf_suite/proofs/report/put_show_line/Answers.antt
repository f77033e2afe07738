use Rattle.std.proofs.Common.{append_assoc}
use Rattle.bpf_suite.specs.Reports.{show_line}
use Rattle.bpf_suite.proofs.report.put_show_line.Goals as goal

pub returns : goal.returns
unfolding show_line
returns g c = λ first front known.
    let begun = c.put-begun.ensures first front known in
    let named = c.put_quoted-named.ensures first _ begun in
    let parted = c.put-parted.ensures first _ named in
    let filed = c.put_quoted-filed.ensures first _ parted in
    simp append_assoc (simp append_assoc at (c.put.ensures first _ filed))
