use Rattle.std.proofs.Common.{sym, ◌∙◌}
use Rattle.bpf_suite.proofs.Asking.{firsts-skipped, is-other, is-same, no-value, noted, other-map}
use Rattle.bpf_suite.proofs.asks.note.Goals as goal

pub returns-then-map_of-map : goal.returns-then-map_of-map
returns-then-map_of-map c = λ before at h.
    let line = c.args.line.now in
    firsts-skipped before line c.args.map c.args.ask.now.size c.args.ask.now.firsts.items
    (λ shape. other-map line c.args.map shape (is-other line c.map_of.result c.args.map c.map_of.ensures c.if-map_of-map.true)) h

pub returns-in-Some : goal.returns-in-Some
returns-in-Some c =
    noted c.note_value.result c.args.line.now c.args.map c.args.place c.len.result c.args.ask.now.size c.note_value.new.ask.size c.args.ask.now.firsts.items
    c.note_value.new.ask.firsts.items c.in-Some.value (is-same c.args.line.now c.map_of.result c.args.map c.map_of.ensures c.if-map_of-map.false)
    (sym c.in_ok-value.ensures ∙ c.in-Some.is) c.len.ensures.value c.note_value.ensures.size c.note_value.ensures.firsts

pub returns-in-None : goal.returns-in-None
returns-in-None c = λ before at h.
    let line = c.args.line.now in
    firsts-skipped before line c.args.map c.args.ask.now.size c.args.ask.now.firsts.items
    (λ shape. no-value line c.args.map shape (sym c.in_ok-value.ensures ∙ c.in-None.is)) h
