use Rattle.bpf_remote.proofs.Telling.{Holds-text, stop-parts}
use Rattle.bpf_remote.proofs.answer.append_stop.Goals as goal

pub returns : goal.returns
returns c = λ text held.
    Holds-text _ _ _ (c.append_moves.ensures _ (c.append-3.ensures _ (c.append_word-2.ensures _ (c.append-2.ensures _ (c.append_word.ensures _ (c.append.ensures text held))))))
    (stop-parts text c.args.manners c.args.cpu.now _ _ c.value_of.ensures c.value_of-2.ensures)
