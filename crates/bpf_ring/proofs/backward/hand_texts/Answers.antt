use Rattle.std.proofs.Common.{◌≡◌, ◌≤◌, ◌+◌, ◌-◌, ◌++◌, ◌∙◌, ℕ, List, [], length, take, drop, ap, subst, arith, add-one}
use Rattle.std.proofs.lemmas.List.{length-drop, length-take}
use borrow.Rule.Slice.PartMut.{put_mid}
use Rattle.bpf_ring.specs.Ways.{HandsBack, HasText}
use Rattle.bpf_ring.proofs.Arounds.{length-pasted, put_pasted}
use Rattle.bpf_ring.proofs.Ways.{came, copied_on, hands_more, one_more, reached, slice_of}
use Rattle.bpf_ring.proofs.backward.hand_texts.Goals as goal

pub hand_text-requires-clause-come : goal.hand_text-requires-clause-come
hand_text-requires-clause-come c =
    let i = c.loop-k.invariant in
    let bytes = c.args.text.now in
    let n = c.plain_len-count.result in
    let some = c.plain_len-count.ensures.some (omega (arith, c.if-count-eq0.false)) in
    let low : n ≤ length bytes - c.loop-k.at = omega (arith, c.plain_len-count.ensures.within, c.min-limit.ensures, i.within) in
    let there = reached c.args.marks.now c.args.stays c.loop-k.cpu (HasText (c.requires.front ++ take (length bytes - c.loop-k.at) bytes)) (λ ms. HasText [] [] → HasText ([] ++ take c.loop-k.at c.loop-k.room) ms) c.loop-k.k c.requires.ws [] c.args.cpu.now c.requires.way
    (i.handed c.requires.ws [] c.requires.front [] c.requires.way c.requires.held) in
    came c.args.marks.now c.args.stays c.loop-k.cpu bytes (take (length bytes - c.loop-k.at - (length bytes - c.loop-k.at - n)) (drop (length bytes - c.loop-k.at - n) bytes)) c.loop-k.at n some low (c.plain_len-count.ensures.plain (omega (arith, some)))
    (slice_of bytes (length bytes - c.loop-k.at) n low (omega arith)) c.requires.front there.ws there.way there.held

pub loop-k-preserved : goal.loop-k-preserved
loop-k-preserved c =
    let i = c.loop-k.invariant in
    let bytes = c.args.text.now in
    let at = c.loop-k.at in
    let n = c.plain_len-count.result in
    let piece : List ℕ = take (length bytes - at - (length bytes - at - n)) (drop (length bytes - at - n) bytes) in
    let some = c.plain_len-count.ensures.some (omega (arith, c.if-count-eq0.false)) in
    let low : n ≤ length bytes - at = omega (arith, c.plain_len-count.ensures.within, c.min-limit.ensures, i.within) in
    let room : at + n ≤ length c.loop-k.room = omega (arith, c.plain_len-count.ensures.within, c.min-limit.ensures, i.within, i.len) in
    let cut = slice_of bytes (length bytes - at) n low (omega arith) in
    let long : length piece ≡ n = slice_len bytes at n low in
    let new_room = put_mid at (at + n - at) c.loop-k.room c.hand_text.new.into in
    let put = put_pasted c.loop-k.room c.hand_text.new.into piece at (at + n - at) c.hand_text.ensures.copied (omega (arith, long)) in
    record {
      within = omega (arith, c.plain_len-count.ensures.within, i.within);
      len = ap length put ∙ length-pasted c.loop-k.room piece at (omega (arith, long, room)) ∙ i.len;
      handed = λ ws ls front behind way held.
          rw add-one (hands_more c.args.marks.now c.args.stays c.loop-k.cpu c.hand_text.new.cpu
          (HasText (front ++ take (length bytes - at) bytes)) (λ ms. HasText behind ls → HasText (behind ++ take at c.loop-k.room) ms)
          (HasText (front ++ take (length bytes - (at + n)) bytes)) (λ ms. HasText behind ls → HasText (behind ++ take (at + n) new_room) ms)
          (λ vs ms on left into.
          one_more c.args.marks.now c.args.stays c.loop-k.cpu bytes piece at n some low (c.plain_len-count.ensures.plain (omega (arith, some))) cut
          c.hand_text.new.cpu c.loop-k.room new_room c.hand_text.ensures.back (ap (take (at + n)) put ∙ copied_on c.loop-k.room piece at n long room)
          front behind ls vs ms on left into)
          c.loop-k.k ws ls c.args.cpu.now way (i.handed ws ls front behind way held));
    }
  where
    slice_len : (bytes : List ℕ) (at n : ℕ) → n ≤ length bytes - at → length (take (length bytes - at - (length bytes - at - n)) (drop (length bytes - at - n) bytes)) ≡ n
    slice_len bytes at n low =
        length-take (length bytes - at - (length bytes - at - n)) (drop (length bytes - at - n) bytes)
        ∙ omega (arith, length-drop (length bytes - at - n) bytes, low)

pub returns-clause-handed : goal.returns-clause-handed
returns-clause-handed c = λ ws ls front behind way held.
    let all : c.loop-k.k ≡ c.args.most = omega (arith, c.loop-k-test.false, c.loop-k.auto.k-end) in
    subst (λ (k : ℕ).
    HandsBack c.args.marks.now c.args.stays c.loop-k.cpu (HasText (front ++ take (length c.args.text.now - c.loop-k.at) c.args.text.now))
    (λ ms. HasText behind ls → HasText (behind ++ take c.loop-k.at c.loop-k.room) ms) k ws ls c.args.cpu.now) all
    (c.loop-k.invariant.handed ws ls front behind way held)
