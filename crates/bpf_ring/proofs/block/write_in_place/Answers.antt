use Rattle.std.proofs.Common.{◌≤◌, ◌+◌, ◌-◌, ◌∙◌, length, arith, ap}
use Rattle.std.proofs.lemmas.Bool.Decides.{nat_tests}
use Rattle.bpf_ring.specs.Blocks.{around}
use Rattle.bpf_ring.proofs.block.write_in_place.Goals as goal
use Rattle.bpf_ring.proofs.Arounds.{around_more, length-pasted, put_pasted}

pub returns-then-end-bytes : goal.returns-then-end-bytes
returns-then-end-bytes c =
    let block = c.args.block.now in
    let bytes = c.args.bytes.now in
    let end = c.place-end.result in
    let same = put_pasted block c.copy.new.into bytes end (end + length bytes - end) c.copy.ensures (omega arith) in
    let low : end + length bytes ≤ length block = omega (arith, c.if-end-bytes.true) in
    record {
      room = grind (arith, nat_tests);
      stays = λ no. absurd cc;
      len = ap length same ∙ length-pasted block bytes end low;
      text = λ done fits.
          ap (λ l. around l c.args.first (c.args.len + length bytes)) same
          ∙ around_more block bytes c.args.first c.args.len end c.place-end.ensures.value c.requires.place.first fits low;
    }
