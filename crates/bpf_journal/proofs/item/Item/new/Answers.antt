use Rattle.std.proofs.Common.{◌≡◌, ◌∙◌, take, ap, sym}
use Rattle.std.proofs.lemmas.List.{take_at}
use Rattle.bpf_entries.specs.Texts.{text}
use Rattle.bpf_entries.proofs.Texts.{length-text}
use Rattle.bpf_journal.proofs.Items.{is_text, read_back}
use Rattle.bpf_journal.proofs.item.Item.new.Goals as goal

pub invariant_of-result : goal.invariant_of-result
invariant_of-result c =
    let e = c.args.entry.now in
    let m = c.args.mark in
    let count = c.write-weight.result in
    let written : take count c.write-weight.new.room ≡ text e m =
    ap (take count) c.write-weight.ensures.text ∙ take_at (text e m) _ count (length-text e m c.requires ∙ sym c.write-weight.ensures.weight) in
    is_text e m c.in-Ok.text.items c.requires (c.in-Ok.ensures.items ∙ written)

pub returns-in-Ok : goal.returns-in-Ok
returns-in-Ok c =
    let e = c.args.entry.now in
    let m = c.args.mark in
    let count = c.write-weight.result in
    let written : take count c.write-weight.new.room ≡ text e m =
    ap (take count) c.write-weight.ensures.text ∙ take_at (text e m) _ count (length-text e m c.requires ∙ sym c.write-weight.ensures.weight) in
    read_back e m c.in-Ok.text.items c.requires (c.in-Ok.ensures.items ∙ written)
