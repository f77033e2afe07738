use Rattle.std.proofs.Common.{ℕ, Option, sym, subst, ◌∙◌}
use Rattle.bpf_whynot.specs.Makings.{without}
use Rattle.bpf_whynot.specs.Tables.{AreGoals}
use Rattle.bpf_whynot.proofs.made.take_notice.Goals as goal

pub returns-then-not-unflag-clause-left : goal.returns-then-not-unflag-clause-left
returns-then-not-unflag-clause-left c = λ program goals are.
    subst (λ (s : Option ℕ). AreGoals program (without s goals) c.unflag.new.flags) (sym c.in-Some.is ∙ c.made_at.ensures) (c.unflag.ensures.left program goals are)

pub returns-clause-left : goal.returns-clause-left
returns-clause-left c = λ program goals are.
    subst (λ (s : Option ℕ). AreGoals program (without s goals) c.unflag.new.flags) (sym c.in-Some.is ∙ c.made_at.ensures) (c.unflag.ensures.left program goals are)
