use Rattle.std.proofs.Common.{sym, ◌∙◌}
use Rattle.bpf_remote.proofs.Telling.{Holds-text, moves-absent, moves-there}
use Rattle.bpf_remote.proofs.answer.append_moves.Goals as goal

pub returns-then-not-has_moves : goal.returns-then-not-has_moves
returns-then-not-has_moves c = λ text held.
    Holds-text _ _ _ held (moves-absent text c.args.layout c.args.moves (sym c.has_moves.ensures ∙ c.if-not-has_moves.true))

pub returns : goal.returns
returns c = λ text held.
    Holds-text _ _ _ (c.append-2.ensures _ (c.append_word.ensures _ (c.append.ensures text held)))
    (moves-there text c.args.layout c.args.moves (sym c.has_moves.ensures ∙ c.if-not-has_moves.false))
