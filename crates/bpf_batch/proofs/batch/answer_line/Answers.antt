use Rattle.std.proofs.Common.{refl}
use Rattle.bpf_batch.proofs.Begun.{ran-err, ran-ok, refused-err, refused-ok, suits-after}
use Rattle.bpf_batch.proofs.batch.answer_line.Goals as goal

pub returns-in-Err-clause-value : goal.returns-in-Err-clause-value
returns-in-Err-clause-value g c = λ text held. refl

pub returns-in-Ok-put_refusal_line-clause-value : goal.returns-in-Ok-put_refusal_line-clause-value
returns-in-Ok-put_refusal_line-clause-value g c = λ text held.
    refused-ok g.W.Write.contents c.args.batch.now text _ _ _ _ c.in-Err-begun.refusal
    (rw c.in-Err-begun.is at (c.in-Ok.ensures.begins text held)) (rw c.in-Ok-put_refusal_line.is at c.put_refusal_line.ensures)

pub returns-in-Err-put_refusal_line-clause-value : goal.returns-in-Err-put_refusal_line-clause-value
returns-in-Err-put_refusal_line-clause-value g c = λ text held.
    refused-err g.W.Write.contents c.args.batch.now text _ _ _ _ c.in-Err-begun.refusal
    (rw c.in-Err-begun.is at (c.in-Ok.ensures.begins text held)) (rw c.in-Err-put_refusal_line.is at c.put_refusal_line.ensures)

pub returns-in-Ok-run_case-clause-value : goal.returns-in-Ok-run_case-clause-value
returns-in-Ok-run_case-clause-value g c = λ text held.
    ran-ok g.W.Write.contents c.args.batch.now text _ _ _ _ c.in-Ok-begun.cpu _
    (rw c.in-Ok-begun.is at (c.in-Ok.ensures.begins text held)) c.run_case.ensures.next (rw c.in-Ok-run_case.is at c.run_case.ensures.told)

pub returns-in-Ok-run_case-clause-kept : goal.returns-in-Ok-run_case-clause-kept
returns-in-Ok-run_case-clause-kept g c =
    suits-after c.args.batch.now c.in-Ok-begun.cpu _ (rw c.in-Ok-begun.is at c.in-Ok.ensures.suits) c.run_case.ensures.next

pub returns-in-Err-run_case-clause-value : goal.returns-in-Err-run_case-clause-value
returns-in-Err-run_case-clause-value g c = λ text held.
    ran-err g.W.Write.contents c.args.batch.now text _ _ _ _ c.in-Ok-begun.cpu _
    (rw c.in-Ok-begun.is at (c.in-Ok.ensures.begins text held)) c.run_case.ensures.next (rw c.in-Err-run_case.is at c.run_case.ensures.told)
