use Rattle.counted_io.proofs.Appending.{Writes-text}
use Rattle.bpf_lines.proofs.Texts.{entry_text, not_zero}
use Rattle.bpf_lines.proofs.rows.put_entry.Goals as goal

pub returns : goal.returns
returns g c = λ first front known.
    let named = (rw c.short_at.ensures.value at c.put_word-named.ensures) first front known in
    let parted = c.put-parted.ensures first _ named in
    Writes-text g.W.Write.contents _ _ _ _ _ ((rw c.from.ensures at c.put_decimal.ensures) first _ parted)
    (entry_text c.args.strings.now front c.args.entry.now (not_zero c.args.entry.now.line c.if-entry-eq0.false))
