use Rattle.input_texts.specs.declared.trace_form.Form.TheVariants.{Steps}
use Rattle.bpf_diff.specs.Noted.{Along}
use Rattle.bpf_diff.proofs.along.follow_steps.Given as goal

abbrev pub invariant-loop-k : goal.invariant-loop-k
invariant-loop-k l = Along Steps l.limit l.fn.cpu l.fn.told l.cpu l.told l.k
