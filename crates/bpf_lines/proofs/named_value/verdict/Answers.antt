use Rattle.std.proofs.Common.{◌≡◌, ◌∙◌, ℕ, ap, arith}
use Rattle.std.specs.Prelude.{if◌then◌else◌}
use Rattle.bpf_lines.specs.NamedValues.{is_verdict, verdict_below}
use Rattle.bpf_lines.specs.declared.enumerators.Enumerator.{Enumerator}
use Rattle.bpf_lines.specs.declared.enumerators.Enumerator.TheVariants.{Value}
use Rattle.bpf_lines.proofs.Verdicts.{one_more}
use Rattle.bpf_lines.proofs.named_value.verdict.Goals as goal

pub loop-value-preserved : goal.loop-value-preserved
loop-value-preserved c =
    let name = c.args.name.now in
    let v = c.loop-value.value in
    c.with_verdict-found.ensures ∙ ap (λ (f : Enumerator). if is_verdict v name then Value v else f) c.loop-value.invariant ∙ one_more name v

pub returns : goal.returns
returns c =
    let name = c.args.name.now in
    let here = c.loop-value-test.false in
    let end = c.loop-value.auto.value-end in
    let at : c.loop-value.value ≡ 9 = omega (arith, here, end) in
    c.with_verdict.ensures
    ∙ ap (λ (f : Enumerator). if is_verdict 0xffffffff name then Value 0xffffffff else f) (c.loop-value.invariant ∙ ap (verdict_below name) at)
