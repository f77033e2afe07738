use Rattle.std.proofs.Common.{◌≡◌, ◌∙◌, not, length, sym, true}
use Rattle.std.specs.Prelude.{◌==◌}
use Rattle.counted_io.proofs.Appending.{WritesAfter-text}
use Rattle.bpf_trace.specs.Runs.{steps_of}
use Rattle.bpf_diff.proofs.Following.{step-rest, took-start}
use Rattle.bpf_diff.proofs.Telling.{goes-on, side-there}
use Rattle.bpf_diff.proofs.parting.put_rest.Goals as goal

pub put_side-told-requires : goal.put_side-told-requires
put_side-told-requires g c = took-start c.args.cpu.now c.take_step-taken.new.cpu c.take_step-taken.result c.take_step-taken.ensures

pub returns-clause-text : goal.returns-clause-text
returns-clause-text g c =
    let goes : not (length (steps_of c.args.left c.args.cpu.now) == 0) ≡ true = sym c.goes_on.ensures ∙ c.if-not-goes_on.false in
    WritesAfter-text g.W.Write.contents _ _ _ _ _ _ (c.put_side-told.ensures c.args.cpu.now c.take_step-taken.ensures)
    (side-there c.args.mark.now c.args.texts c.args.number c.args.left c.args.cpu.now goes)

pub returns-clause-end : goal.returns-clause-end
returns-clause-end g c =
    let goes : not (length (steps_of c.args.left c.args.cpu.now) == 0) ≡ true = sym c.goes_on.ensures ∙ c.if-not-goes_on.false in
    let parts = goes-on c.args.left c.args.cpu.now goes in
    (_, step-rest c.args.left _ c.args.cpu.now c.take_step-taken.new.cpu c.run-rest.new.self c.take_step-taken.result c.take_step-taken.ensures parts.0 parts.1 c.run-rest.ensures)
