use Rattle.std.proofs.Common.{◌≡◌, ◌≤◌, ◌+◌, ◌-◌, ◌∙◌, length, take, drop, ap, sym, arith}
use Rattle.std.proofs.lemmas.List.{length-append, length-drop, length-take}
use Rattle.byteorder.specs.Endian.{little_bytes}
use Rattle.bpf_ring.specs.Blocks.{Content, behind}
use Rattle.bpf_ring.proofs.Arounds.{back_place, last_two, length-around, newest_piece}
use Rattle.bpf_ring.proofs.ring.Ring.newest_text.Goals as goal

pub returns-clause-newest : goal.returns-clause-newest
returns-clause-newest c =
    let items = c.self.inside.buffer.items in
    let bytes = c.args.self.now.bytes in
    let first = c.self.inside.first in
    let end = c.place-end.result in
    let n = c.number-count.result in
    let front = c.as_slices.result.0.now in
    let at : end ≡ behind (length items) first (length bytes) = rw (← c.len.ensures.len, ← c.len-2.ensures.value) c.place-end.ensures.value in
    let same : c.self.inside.len ≡ length bytes = sym (length-around items first c.self.inside.len (omega (arith, c.self.invariant.within)) c.self.invariant.fits) ∙ ap (λ (j : Content). length j.bytes) c.self.view_is in
    let piece : take (end - n + n - (end - n)) (drop (end - n) front) ≡ drop (length bytes - n) bytes =
    newest_piece items front c.as_slices.result.1.now bytes first c.self.inside.len n (end - n)
    (ap (λ (j : Content). j.bytes) c.self.view_is)
    (back_place (length items) first (length bytes) n end at (omega (arith, c.if-count-end.false)) (omega (arith, same, c.if-count-self.false)) c.self.invariant.within (omega (arith, same, c.self.invariant.fits)))
    c.self.invariant.within c.self.invariant.fits (omega (arith, same, c.if-count-self.false)) c.as_slices.ensures (omega (arith, c.if-end-block.false, c.if-count-end.false)) in
    let long : length (take (end - n + n - (end - n)) (drop (end - n) front)) ≡ n = ap length piece ∙ length-drop (length bytes - n) bytes ∙ omega (arith, same, c.if-count-self.false) in
    piece ∙ ap (λ k. drop (length bytes - k) bytes) (sym long)

pub returns-clause-len : goal.returns-clause-len
returns-clause-len c = λ w before small is.
    let items = c.self.inside.buffer.items in
    let bytes = c.args.self.now.bytes in
    let first = c.self.inside.first in
    let end = c.place-end.result in
    let n = c.number-count.result in
    let front = c.as_slices.result.0.now in
    let at : end ≡ behind (length items) first (length bytes) = rw (← c.len.ensures.len, ← c.len-2.ensures.value) c.place-end.ensures.value in
    let same : c.self.inside.len ≡ length bytes = sym (length-around items first c.self.inside.len (omega (arith, c.self.invariant.within)) c.self.invariant.fits) ∙ ap (λ (j : Content). length j.bytes) c.self.view_is in
    let two : 2 ≤ length bytes = omega (arith, ap length is, length-append before (little_bytes 2 w)) in
    let last : take (end - 2 + 2 - (end - 2)) (drop (end - 2) front) ≡ drop (length bytes - 2) bytes =
    newest_piece items front c.as_slices.result.1.now bytes first c.self.inside.len 2 (end - 2)
    (ap (λ (j : Content). j.bytes) c.self.view_is)
    (back_place (length items) first (length bytes) 2 end at (omega (arith, c.if-end-lt2.false)) two c.self.invariant.within (omega (arith, same, c.self.invariant.fits)))
    c.self.invariant.within c.self.invariant.fits two c.as_slices.ensures (omega (arith, c.if-end-block.false, c.if-end-lt2.false)) in
    let count : n ≡ w = c.number-count.ensures w small (last ∙ last_two bytes before w is) in
    let tail : length (drop (end - n) front) ≡ length front - (end - n) = length-drop (end - n) front in
    let long : length (take (end - n + n - (end - n)) (drop (end - n) front)) ≡ n = length-take (end - n + n - (end - n)) (drop (end - n) front) ∙ omega (arith, tail, c.if-count-end.false, c.if-end-block.false) in
    long ∙ count
