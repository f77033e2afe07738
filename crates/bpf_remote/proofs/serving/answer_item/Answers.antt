use Rattle.std.proofs.Common.{◌∷◌, [], refl}
use Rattle.counted_io.proofs.Appending.{Writes-none}
use Rattle.bpf_remote.specs.Answers.{sent}
use Rattle.bpf_remote.specs.Packets.{framed}
use Rattle.bpf_remote.specs.declared.stream.Item.TheVariants as item
use Rattle.bpf_remote.proofs.Bodies.{by-body, by-item}
use Rattle.bpf_remote.proofs.Turns.{of-some}
use Rattle.bpf_remote.proofs.serving.answer_item.Goals as goal

pub returns-in-Some : goal.returns-in-Some
returns-in-Some g c = λ before body held whole more.
    let v = of-some _ _ _ _ c.in-Some.is (c.bytes.ensures.value body (whole c.in-Packet.is).0) in
    by-body _ _ _ _ _ _ _ _ before c.in-Some.body.now body c.args.item c.in-Packet.is v.0 (c.answer_body.ensures before)

pub returns-in-Damaged : goal.returns-in-Damaged
returns-in-Damaged g c = λ before body held whole more.
    by-item _ _ _ _ _ _ _ _ before body c.args.item item.Damaged c.in-Damaged.is
    (record { last = before; told = 45 ∷ []; done = (refl, refl, refl); held = held; written = c.write_text.ensures })

pub returns-in-Again : goal.returns-in-Again
returns-in-Again g c = λ before body held whole more.
    by-item _ _ _ _ _ _ _ _ before body c.args.item item.Again c.in-Again.is
    (record { last = before; told = framed (sent before); done = (refl, refl, refl); held = held; written = c.put_sent.ensures before held _ [] (Writes-none g.W.Write.contents c.args.writer.now tt) })
