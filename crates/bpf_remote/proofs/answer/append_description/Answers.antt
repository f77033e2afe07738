use Rattle.std.proofs.Common.{ℕ, List, ◌++◌, ap, drop, ◌∙◌}
use Rattle.bpf_remote.specs.Answers.{part_of}
use Rattle.bpf_remote.proofs.Telling.{Holds-text}
use Rattle.bpf_remote.proofs.answer.append_description.Goals as goal

pub returns : goal.returns
returns c = λ text held.
    Holds-text _ _ _ (c.append_part.ensures text held)
    (ap (λ (rest : List ℕ). text ++ part_of rest c.args.count)
    (c.behind_offset.ensures ∙ ap (drop c.args.offset) (c.as_bytes.ensures.value ∙ c.described.ensures)))
