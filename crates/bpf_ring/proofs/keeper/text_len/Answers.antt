use Rattle.std.proofs.Common.{length, ap, arith}
use Rattle.bpf_entries.proofs.Texts.{length-text, weight_low, weight_high}
use Rattle.bpf_ring.proofs.keeper.text_len.Goals as goal

pub returns-clause-within : goal.returns-clause-within
returns-clause-within c =
    let h = c.requires in
    let long = length-text h.entry h.mark h.fits in
    let low = weight_low h.entry h.fits in
    let high = weight_high h.entry in
    (omega (arith, ap length h.held, long, high), omega (arith, ap length h.held, long, low))
