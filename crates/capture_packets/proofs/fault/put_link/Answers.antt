use Rattle.std.proofs.Common.{◌++◌, ◌∙◌, List, ℕ, ap, codes, decimal}
use Rattle.counted_io.proofs.Appending.{Writes-text}
use Rattle.capture_packets.proofs.fault.put_link.Goals as goal

pub returns : goal.returns
returns g c = λ first front known.
    Writes-text g.W.Write.contents _ _ _ _ _ (rw c.from.ensures at (c.put_all.ensures first front known))
    (ap (λ (name : List ℕ). front ++ (codes ": " ++ name ++ codes " (link type " ++ decimal c.args.link ++ codes ")"))
    (c.as_bytes.ensures.value ∙ c.link_name.ensures))
