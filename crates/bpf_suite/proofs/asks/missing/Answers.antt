use Rattle.std.proofs.Common.{Some, None, sym, ◌∙◌}
use Rattle.bpf_suite.proofs.Asking.{is-missing}
use Rattle.bpf_suite.proofs.asks.missing.Goals as goal

pub returns-in-Some : goal.returns-in-Some
returns-in-Some c = λ cells of.
    is-missing c.args.maps.now c.args.asks.now cells (Some c.in-Some.spot) c.first_lacking.ensures.maps (λ lines asked. sym c.in-Some.is ∙ c.first_lacking.ensures.lines lines asked) of

pub returns-in-None : goal.returns-in-None
returns-in-None c = λ cells of.
    is-missing c.args.maps.now c.args.asks.now cells None c.first_lacking.ensures.maps (λ lines asked. sym c.in-None.is ∙ c.first_lacking.ensures.lines lines asked) of
