use Rattle.std.proofs.Common.{ℕ, ◌≡◌, List, ap, ◌∙◌}
use Rattle.counted_io.specs.Lines.{trim_start}
use Rattle.bpf_suite.specs.Cells.{behind_word, line_of, word}
use Rattle.bpf_suite.proofs.cells.cell_line.Goals as goal

-- three texts in other words
same : (a a' b b' d d' : List ℕ) → a ≡ a' → b ≡ b' → d ≡ d' → line_of a b d ≡ line_of a' b' d'
same a a' b b' d d' p q r = ap (λ x. line_of x b d) p ∙ ap (λ x. line_of a' x d) q ∙ ap (line_of a' b') r

pub returns : goal.returns
returns c =
    let line = c.args.line.now in
    let rest : c.behind_word-rest.result.now ≡ behind_word (trim_start line) = c.behind_word-rest.ensures ∙ ap behind_word c.trim_start-text.ensures in
    c.line_of.ensures
    ∙ same c.word.result.now (word (trim_start line)) c.word-2.result.now (word (behind_word (trim_start line))) c.behind_word.result.now
    (behind_word (behind_word (trim_start line)))
    (c.word.ensures ∙ ap word c.trim_start-text.ensures) (c.word-2.ensures ∙ ap word rest) (c.behind_word.ensures ∙ ap behind_word rest)
