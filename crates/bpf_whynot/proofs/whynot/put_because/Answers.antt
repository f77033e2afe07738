use Rattle.std.proofs.Common.{◌<◌, ◌++◌, ◌∙◌, length, refl, ap, arith}
use Rattle.std.specs.Prelude.{codes}
use Rattle.std.proofs.lemmas.Bool.Decides.{nat_tests}
use Rattle.counted_io.proofs.Appending.{WritesAfter-WritesAfter}
use Rattle.bpf_journal.specs.Tracks.{Track}
use Rattle.bpf_steps.specs.State.{State}
use Rattle.bpf_origin.specs.Asked.{answer_about}
use Rattle.bpf_origin.specs.Reads.{conditions}
use Rattle.bpfdb_script.specs.Texts.{place}
use Rattle.bpf_whynot.specs.Answers.{because}
use Rattle.bpf_whynot.specs.Asking.{query}
use Rattle.bpf_whynot.proofs.Going.{because_is, some_parts, told_line}
use Rattle.bpf_whynot.proofs.whynot.put_because.Goals as goal

pub returns-clause-tells : goal.returns-clause-tells
returns-clause-tells g c = λ goals r at step.
    let x = g.P.Past.state c.args.history.now in
    let some : 0 < length c.compared-parts.result.items = grind (arith, nat_tests, c.is_empty.ensures, c.if-is_empty.false) in
    let is = c.compared-parts.ensures r.move step ∙ ap (λ (z : State). conditions z r.move) (c.machine.ensures ∙ at) in
    told_line g.P.Past.state g.P.Past.follows g.P.Past.room g.P.Past.refused g.W.Write.contents
    (λ (t : Track). because (query c.args.search.now goals) r t.history)
    (λ (t : Track). answer_about c.args.search.now.question c.compared-parts.result.items t.history x)
    c.args.history.now c.put_answer.new.history c.args.writer.now c.put-ended.new.writer c.put_answer.new.writer c.args.so_far c.put-ended.result (place x ++ codes "\n") c.put_answer.result
    (WritesAfter-WritesAfter g.W.Write.contents _ _ _ _ _ _ _ _ _ (rw c.machine-2.ensures at c.put_place-placed.ensures) c.put-ended.ensures refl)
    (rw c.as_slice.ensures.value at c.put_answer.ensures)
    (λ t stands. because_is (query c.args.search.now goals) r t.history x c.compared-parts.result.items c.if-search.false (some_parts c.compared-parts.result.items some) is at)
