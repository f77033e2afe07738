use Rattle.std.proofs.Common.{◌∙◌, Bool, cond, [], ap, sym}
use Rattle.std.proofs.lemmas.List.{append-nil}
use Rattle.bpf_entries.specs.Texts.{text}
use Rattle.bpf_journal.proofs.item.Item.marks.Goals as goal

pub returns-then-is_marked : goal.returns-then-is_marked
returns-then-is_marked c =
    let k = c.args.self.now in
    ap (λ (mark : Bool). cond mark 1 0) (sym c.if-is_marked.true ∙ c.is_marked.ensures k.0 k.1 [] (c.text.ensures.text ∙ sym (append-nil (text k.0 k.1))))

pub returns-else-is_marked : goal.returns-else-is_marked
returns-else-is_marked c =
    let k = c.args.self.now in
    ap (λ (mark : Bool). cond mark 1 0) (sym c.if-is_marked.false ∙ c.is_marked.ensures k.0 k.1 [] (c.text.ensures.text ∙ sym (append-nil (text k.0 k.1))))
