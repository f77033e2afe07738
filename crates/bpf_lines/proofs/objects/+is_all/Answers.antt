use Rattle.std.proofs.Common.{◌∙◌, arith}
use Rattle.bpf_lines.proofs.Chains.{left_over, too_few}
use Rattle.bpf_lines.proofs.objects.+is_all.Goals as goal

pub returns-then-bytes-own : goal.returns-then-bytes-own
returns-then-bytes-own t c =
    too_few c.args.all.now c.in-Some.lines.now c.in-Some.rest.now c.args.bytes c.len-own.result c.in-Some.ensures.cases.0 c.len-own.ensures.value (omega arith)

pub returns-else-bytes-own : goal.returns-else-bytes-own
returns-else-bytes-own t c =
    c.is_all.ensures
    ∙ left_over c.args.all.now c.in-Some.lines.now c.in-Some.rest.now c.args.bytes c.len-own.result c.in-Some.ensures.cases.0 c.len-own.ensures.value (omega arith)
