use Rattle.std.proofs.Common.{subst, List, ℕ}
use Rattle.bpf_remote.specs.Packets.{Holds}
use Rattle.bpf_remote.proofs.HexText.{hex_text-more, hex_text-all, hex_text-none}
use Rattle.bpf_remote.proofs.body.Body.append_hex.Goals as goal

pub loop-byte-init : goal.loop-byte-init
loop-byte-init c = λ body held. subst (λ (v : List ℕ). Holds c.args.self.now v) (hex_text-none body) held

pub loop-byte-preserved : goal.loop-byte-preserved
loop-byte-preserved c = λ body held.
    subst (λ (v : List ℕ). Holds c.append.new.self v) (hex_text-more body c.args.bytes.now c.loop-byte.byte-index _ c.loop-byte-test.true c.two_digits.ensures)
    (c.append.ensures _ (c.loop-byte.invariant body held))

pub returns : goal.returns
returns c = λ body held.
    subst (λ (v : List ℕ). Holds c.loop-byte.self v) (hex_text-all body c.args.bytes.now c.loop-byte.byte-index c.loop-byte-test.false) (c.loop-byte.invariant body held)
