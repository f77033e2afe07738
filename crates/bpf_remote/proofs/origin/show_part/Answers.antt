use Rattle.std.proofs.Common.{◌∷◌, [], arith}
use Rattle.bpf_remote.specs.Numbers.{hex_text}
use Rattle.bpf_remote.proofs.OriginTexts.{part-fits}
use Rattle.bpf_remote.proofs.Turns.{of-some, of-none}
use Rattle.bpf_remote.proofs.origin.show_part.Goals as goal

pub unreachable-requires : goal.unreachable-requires
unreachable-requires g c =
    let held = c.append_hex.ensures _ (c.append.ensures [] c.clear.ensures) in
    let long = of-none _ _ _ c.in-None.is (c.bytes.ensures.value (79 ∷ hex_text c.args.part.now) held) in
    let short = part-fits c.args.part.now c.requires in
    omega (arith, long, short)

pub returns : goal.returns
returns g c =
    let held = c.append_hex.ensures _ (c.append.ensures [] c.clear.ensures) in
    let v = of-some _ _ _ _ c.in-Some.is (c.bytes.ensures.value (79 ∷ hex_text c.args.part.now) held) in
    rw v.0 at c.put_packet.ensures
