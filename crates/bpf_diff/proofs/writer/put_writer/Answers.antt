use Rattle.std.proofs.Common.{◌-◌, ap, arith, ◌∙◌}
use Rattle.counted_io.proofs.Appending.{WritesAfter-WritesAfter, WritesAfter-text}
use Rattle.bpf_diff.specs.Differences.{side}
use Rattle.bpf_diff.proofs.Leaving.{line-none, line-of, steps-behind, taken-up}
use Rattle.bpf_diff.proofs.writer.put_writer.Goals as goal

pub returns-then-number-eq0-clause-text : goal.returns-then-number-eq0-clause-text
returns-then-number-eq0-clause-text g c =
    WritesAfter-WritesAfter g.W.Write.contents _ _ _ _ _ _ _ _ _ c.put-marked.ensures c.put.ensures
    (line-none c.args.mark.now c.args.texts c.args.number _ c.if-number-eq0.true)

pub returns-clause-text : goal.returns-clause-text
returns-clause-text g c =
    let within = c.requires in
    let cut = steps-behind c.args.limit (c.args.number - 1) c.run-passed.result c.args.cpu.now c.run-passed.new.self (omega (arith, within)) c.run-passed.ensures in
    WritesAfter-text g.W.Write.contents _ _ _ _ _ _ c.put_rest.ensures.text
    (ap (side c.args.mark.now c.args.texts c.args.number) cut ∙ line-of c.args.mark.now c.args.texts c.args.number _ c.if-number-eq0.false)

pub returns-clause-end : goal.returns-clause-end
returns-clause-end g c =
    let within = c.requires in
    let rest = c.put_rest.ensures.end in
    (_, taken-up c.args.limit (c.args.number - 1) c.run-passed.result rest.0 c.args.cpu.now c.run-passed.new.self c.put_rest.new.cpu (omega (arith, within)) c.run-passed.ensures rest.1)
