use Rattle.std.proofs.Common.{ℕ, List, ◌++◌, ap, sym, ◌∙◌}
use Rattle.bpf_remote.proofs.Telling.{Holds-text, other-count, other-none}
use Rattle.bpf_remote.proofs.answer.append_other.Goals as goal

pub returns-then-is_count : goal.returns-then-is_count
returns-then-is_count c = λ text held.
    Holds-text _ _ _ (c.append_word.ensures text held) (ap (λ (v : List ℕ). text ++ v) (other-count c.args.moves c.args.n (sym c.is_count.ensures ∙ c.if-is_count.true)))

pub returns-else-is_count : goal.returns-else-is_count
returns-else-is_count c = λ text held.
    Holds-text _ _ _ (c.append.ensures text held) (ap (λ (v : List ℕ). text ++ v) (other-none c.args.moves c.args.n (sym c.is_count.ensures ∙ c.if-is_count.false)))
