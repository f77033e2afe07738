use Rattle.std.proofs.Common.{◌∙◌, List, ℕ, Option, sym, ap}
use Rattle.std.specs.Borrow.{Bor}
use Rattle.std.specs.Prelude.{option_map}
use Rattle.capture_packets.proofs.packet.packet_from.Goals as goal

pub returns-in-None-clause-err : goal.returns-in-None-clause-err
returns-in-None-clause-err c =
    c.lack_of.ensures c.args.number (sym c.packet_at.ensures ∙ ap (λ (o : Option (Bor (List ℕ))). option_map (λ bytes. bytes.now) o) c.in-None.is)
