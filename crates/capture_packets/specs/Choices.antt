-- The context that a file holds: the packet that is asked for, or all of it; and what is told of that. bpfdb's own choice.
use Rattle.std.specs.Prelude.{ℕ, ◌≡◌, ◌||◌, nat_lt, if◌then◌else◌, List, length, Option, Some, None}
use Rattle.capture_packets.specs.Headers.{is_capture, is_pcapng}
use Rattle.capture_packets.specs.Packets.{IsCaptureFault, IsPacketOf}
use Rattle.capture_packets.specs.declared.choice.Chosen.{Chosen}
use Rattle.capture_packets.specs.declared.fault.CaptureFault.{CaptureFault}
use Rattle.capture_packets.specs.declared.note.Note.{Note}
use Rattle.capture_packets.specs.declared.note.Note.TheVariants.{Whole, Short}
use Rattle.capture_packets.specs.declared.packet.Captured.{Captured}

-- Where no packet is asked for, that the file is a capture.
abbrev pub whole_note : List ℕ → Option Note
whole_note file = if is_capture file || is_pcapng file then Some Whole else None

-- Of a packet, that not all of it was captured.
abbrev pub short_note : ℕ → Captured → Option Note
short_note number captured = if nat_lt (length captured.bytes.now) captured.sent
    then Some (Short number (length captured.bytes.now) captured.sent) else None

abbrev pub IsChosen : Option ℕ → List ℕ → Chosen → Type 0
IsChosen None file chosen = (chosen.bytes.now ≡ file) × (chosen.note ≡ whole_note file)
IsChosen (Some number) file chosen = (captured : Captured) × IsPacketOf file number captured
    × (chosen.bytes.now ≡ captured.bytes.now) × (chosen.note ≡ short_note number captured)

abbrev pub IsUnchosen : Option ℕ → List ℕ → CaptureFault → Type 0
IsUnchosen None file fault = ⊥
IsUnchosen (Some number) file fault = IsCaptureFault file number fault
