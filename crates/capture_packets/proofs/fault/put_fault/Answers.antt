use Rattle.std.proofs.Common.{◌≡◌, ◌++◌, ◌∙◌, List, ℕ, append_assoc, ap, codes, decimal}
use Rattle.counted_io.proofs.Appending.{Writes-text}
use Rattle.capture_packets.specs.Faults.{fault_end, packet_fault}
use Rattle.capture_packets.specs.declared.fault.PacketFault.{PacketFault}
use Rattle.capture_packets.proofs.fault.put_fault.Goals as goal

-- the parts, one behind the other
joined : (fault : PacketFault) (front text ended : List ℕ) (number : ℕ) → number ≡ (packet_fault fault).0 → text ≡ (packet_fault fault).1
    → (front ++ (codes "refused P" ++ decimal number ++ codes ": " ++ text)) ++ ended
    ≡ front ++ (codes "refused P" ++ decimal (packet_fault fault).0 ++ codes ": " ++ (packet_fault fault).1 ++ ended)
joined fault front text ended number is_number is_text =
    append_assoc front (codes "refused P" ++ decimal number ++ codes ": " ++ text) ended
    ∙ ap (λ (n : ℕ). front ++ (codes "refused P" ++ decimal n ++ codes ": " ++ text ++ ended)) is_number
    ∙ ap (λ (t : List ℕ). front ++ (codes "refused P" ++ decimal (packet_fault fault).0 ++ codes ": " ++ t ++ ended)) is_text

pub returns : goal.returns
returns g c = λ first front known.
    let begun = c.put_all-begun.ensures first front known in
    Writes-text g.W.Write.contents _ _ _ _ _ (c.put_end.ensures first _ begun)
    (joined c.args.fault front c.as_bytes.result.now (fault_end c.args.fault) c.from.result (c.from.ensures ∙ c.row-number.ensures.number)
    (c.as_bytes.ensures.value ∙ c.row-number.ensures.text))
