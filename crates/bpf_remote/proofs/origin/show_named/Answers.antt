use Rattle.std.proofs.Common.{◌≡◌, ◌∙◌, inl, inr, refl}
use Rattle.bpf_lines.specs.NamedTexts.{named_text}
use Rattle.counted_io.proofs.Appending.{Writes-none}
use Rattle.bpf_remote.proofs.origin.show_named.Goals as goal

pub returns-in-Ok : goal.returns-in-Ok
returns-in-Ok g c =
    let s = c.show.ensures in
    let w = rw c.in-Ok.is at c.put_named.ensures _ _ (Writes-none _ c.new-named.result _) in
    let whole : c.into_inner-named.result.items ≡ named_text c.args.names.now c.args.text.now =
    rw c.into_inner-named.ensures (rw (c.new-named.ensures, c.new.ensures.items) at w.ok) in
    (_, s.0, s.1, inl (c.as_slice.ensures.value ∙ whole), s.2)

pub returns-in-Err : goal.returns-in-Err
returns-in-Err g c =
    let s = c.show-in-Err.ensures in
    (c.args.text.now, s.0, s.1, inr refl, s.2)
