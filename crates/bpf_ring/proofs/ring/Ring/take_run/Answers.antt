use Rattle.std.proofs.Common.{◌≡◌, ◌≤◌, ◌<◌, ◌+◌, ◌-◌, ◌++◌, ◌∙◌, ℕ, List, length, take, refl, sym, ap, subst, arith}
use borrow.Rule.Slice.PartMut.{put_mid}
use Rattle.std.specs.List.{refill}
use Rattle.std.proofs.lemmas.List.{length-drop, length-take}
use Rattle.bpf_ring.specs.Blocks.{Content, around, behind, pasted}
use Rattle.bpf_ring.specs.Ways.{HasText}
use Rattle.bpf_ring.proofs.Arounds.{length-around, length-pasted, put_pasted}
use Rattle.bpf_ring.proofs.Spans.{has_room}
use Rattle.bpf_ring.proofs.Ways.{hands_as, run_behind}
use Rattle.bpf_ring.proofs.ring.Ring.take_run.Goals as goal

pub returns-clause-handed : goal.returns-clause-handed
returns-clause-handed c = λ ws ls front way held.
    let inside = c.self.inside in
    let items = inside.buffer.items in
    let first = inside.first in
    let len = inside.len in
    let bytes = c.args.self.now.bytes in
    let lent = c.make_contiguous-block.ensures in
    let block = c.make_contiguous-block.result.now in
    let new = c.hand_texts-handed.new.room in
    let n = c.hand_texts-handed.result.len in
    let end = c.place-end.result in
    let room = c.min-room.result in
    let is : around items first len ≡ bytes = ap (λ (j : Content). j.bytes) c.self.view_is in
    let same : len ≡ length bytes = sym (length-around items first len (omega (arith, c.self.invariant.within)) c.self.invariant.fits) ∙ ap length is in
    let at : end ≡ behind (length items) first len = (rw (← c.len-2.ensures.len, ← c.len-3.ensures.value) c.place-end.ensures.value) ∙ ap (behind (length items) first) (sym same) in
    let before : end + room < length items = omega (arith, c.min-room.ensures, c.len-4.ensures.len, c.len-2.ensures.len, c.place-end.ensures.within) in
    let fits : len + room ≤ length items =
    has_room inside.buffer.capacity (length items) first len room end c.self.invariant.held c.self.invariant.filled at before
    (omega (arith, c.min-room.ensures, c.capacity.ensures.capacity, c.len.ensures.value, same, c.self.invariant.fits, c.self.invariant.held)) in
    let count : length block ≡ length items = ap length lent.value in
    let long : length new ≡ room = c.hand_texts-handed.ensures.len ∙ length-take (end + room - end) _ ∙ omega (arith, before, count, length-drop end block) in
    let put = put_pasted block new new end (end + room - end) refl (omega (arith, long)) in
    let whole : length (pasted block end new) ≡ length items = length-pasted block new end (omega (arith, long, before, count)) ∙ count in
    let wrote : around (pasted block end new) first (len + n) ≡ around block first len ++ take n new =
    run_behind block new first len end n (at ∙ ap (λ (j : ℕ). behind j first len) (sym count)) (omega (arith, count, c.self.invariant.within)) (omega (arith, count, long, fits)) (omega (arith, count, long, before))
    (omega (arith, long, c.hand_texts-handed.ensures.within.2, c.hand_texts-handed.ensures.len)) in
    let put_in = put_mid end (end + room - end) block new in
    let filled = lent.same_len put_in (ap length put ∙ whole) in
    let all : bytes ++ take n new ≡ around (refill (length items) items put_in) first (len + n) =
    ap (λ (l : List ℕ). l ++ take n new) (sym is)
    ∙ ap (λ (l : List ℕ). around l first len ++ take n new) (sym lent.value)
    ∙ sym wrote
    ∙ ap (λ (l : List ℕ). around l first (len + n)) (sym put)
    ∙ ap (λ (l : List ℕ). around l first (len + n)) (sym filled) in
    hands_as c.args.marks.now c.args.stays c.hand_texts-handed.new.cpu
    (HasText (front ++ take (length c.args.text.now - n) c.args.text.now)) (λ ms. HasText bytes ls → HasText (bytes ++ take n new) ms)
    (HasText (front ++ take (length c.args.text.now - n) c.args.text.now)) (λ ms. HasText bytes ls → HasText (around (refill (length items) items put_in) first (len + n)) ms)
    (λ ks left. left) (λ ms into base. subst (λ (l : List ℕ). HasText l ms) all (into base))
    c.hand_texts-handed.result.taken ws ls c.args.cpu.now (c.hand_texts-handed.ensures.handed ws ls front bytes way held)
