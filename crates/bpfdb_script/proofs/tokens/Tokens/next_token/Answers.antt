use Rattle.std.proofs.Common.{◌≡◌, ◌<◌, ap, sym, ◌∙◌, length, refl, rules, tests}
use Rattle.bpfdb_script.specs.Lines.{tokens}
use Rattle.bpfdb_script.proofs.Cuts.{tokens-drop_blanks, tokens-first, first-token_byte, tokens-empty}
use Rattle.bpfdb_script.proofs.tokens.Tokens.next_token.Goals as goal

pub returns-then-is_empty-clause-next : goal.returns-then-is_empty-clause-next
returns-then-is_empty-clause-next c =
    let empty : length c.trim_start-line.result.now ≡ 0 = search (rules, tests) in
    sym c.self.view_is ∙ sym (tokens-drop_blanks c.self.inside.line.now) ∙ ap tokens (sym c.trim_start-line.ensures) ∙ tokens-empty _ empty

pub split_at-requires : goal.split_at-requires
split_at-requires c = c.find_blank.ensures.within

pub returns-clause-next : goal.returns-clause-next
returns-clause-next c =
    let line = c.trim_start-line.result.now in
    let some : 0 < length line = search (rules, tests) in
    let first = tokens-first line (first-token_byte line c.self.inside.line.now c.trim_start-line.ensures some) in
    sym c.self.view_is ∙ sym (tokens-drop_blanks c.self.inside.line.now) ∙ ap tokens (sym c.trim_start-line.ensures) ∙ first
    ∙ rw (c.split_at.ensures.front, c.split_at.ensures.back, c.find_blank.ensures.value) refl
