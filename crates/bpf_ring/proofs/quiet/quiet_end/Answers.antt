use Rattle.std.proofs.Common.{◌≡◌, ◌≤◌, ◌∙◌, length, arith}
use Rattle.bpf_entries.specs.Weights.{weight}
use Rattle.bpf_ring.proofs.Ways.{end_slice, is_text, newest_of, tells_len}
use Rattle.bpf_ring.proofs.quiet.quiet_end.Goals as goal

pub returns-in-Some : goal.returns-in-Some
returns-in-Some c =
    let bytes = c.args.text.now in
    let n = c.number-count.result in
    let two : 2 ≤ length bytes = omega (arith, c.if-len-lt5.false) in
    let low : n ≤ length bytes = omega (arith, c.if-count-len.false) in
    record {
      some = omega (arith, c.if-count-len.false);
      within = low;
      is = λ front k ks held.
          let newest = newest_of bytes front k ks held in
          let is : n ≡ weight k.0 = tells_len bytes front _ k n newest two (λ w small e. c.number-count.ensures w small (end_slice bytes 2 two ∙ e)) in
          let piece = is_text bytes front _ k n newest is low in
          let quiet = c.in-Some.ensures k.0 k.1 newest.fits (end_slice bytes n low ∙ piece) in
          record { quiet = quiet.0; depth = quiet.1; weighs = is; newest = piece };
    }
