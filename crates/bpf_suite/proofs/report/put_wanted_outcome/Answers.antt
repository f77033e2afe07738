use Rattle.std.proofs.Common.{◌∙◌, sym}
use Rattle.bpf_suite.proofs.report.put_wanted_outcome.Goals as goal

pub returns-in-Some : goal.returns-in-Some
returns-in-Some g c = λ first front known.
    rw (sym c.expected.ensures ∙ c.in-Some.is) (c.put_expected.ensures first front known)
