use Rattle.bpf_remote.proofs.Telling.{Holds-text, part-last, part-more}
use Rattle.bpf_remote.proofs.answer.append_part.Goals as goal

pub returns-then-rest-count : goal.returns-then-rest-count
returns-then-rest-count c = λ text held.
    Holds-text _ _ _ (c.append-then-rest-count.ensures _ (c.append.ensures text held)) (part-last text c.args.rest.now c.args.count c.if-rest-count.true)

pub returns-else-rest-count : goal.returns-else-rest-count
returns-else-rest-count c = λ text held.
    Holds-text _ _ _ (c.append-else-rest-count-2.ensures _ (c.append-else-rest-count.ensures text held)) (part-more text c.args.rest.now c.args.count c.if-rest-count.false)
