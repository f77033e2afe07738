-- The packet of a capture that is asked for by its number, counted from 1, or why there is none. bpfdb's own choice.
use Rattle.std.specs.Prelude.{ℕ, suc, ◌≡◌, ◌≢◌, ◌≤◌, ◌<◌, ◌-◌, ◌==◌, ◌||◌, Bool, true, false, not, is_some, nat_lt, List, length, Some, None, ⊤}
use Rattle.input_texts.specs.Captures.{order_of, packet_in}
use Rattle.capture_packets.specs.Headers.{behind, ethernet, is_capture, is_pcapng, link_type, sent_by}
use Rattle.capture_packets.specs.declared.fault.CaptureFault.{CaptureFault}
use Rattle.capture_packets.specs.declared.fault.CaptureFault.TheVariants.{Packet, Memory}
use Rattle.capture_packets.specs.declared.fault.PacketFault.{PacketFault}
use Rattle.capture_packets.specs.declared.fault.PacketFault.TheVariants.{NoCapture, Pcapng, LinkType, Missing, Cut}
use Rattle.capture_packets.specs.declared.packet.Captured.{Captured}

-- It is that packet of a capture whose packets begin with a header of Ethernet, as much of it as was captured; and so many bytes it had.
pub record IsPacketOf (file : List ℕ) (number : ℕ) (captured : Captured) : Type 0 where
  pub link : link_type file ≡ ethernet
  pub bytes : packet_in file number ≡ Some captured.bytes.now
  pub sent : captured.sent ≡ sent_by (order_of file) (behind file (number - 1))

-- A capture has so many packets: the first ones that are whole.
pub record HasPackets (file : List ℕ) (count : ℕ) : Type 0 where
  pub each : (k : ℕ) → k < count → is_some (packet_in file (suc k)) ≡ true
  pub next : packet_in file (suc count) ≡ None

-- More bytes follow them, or its own header isn't whole.
abbrev pub is_cut : List ℕ → ℕ → Bool
is_cut file count = nat_lt (length file) 24 || not (length (behind file count) == 0)

-- It is a capture, and has so many packets, and not that one.
pub record Lacks (file : List ℕ) (number count : ℕ) (cut : Bool) : Type 0 where
  pub capture : is_capture file ≡ true
  pub none : packet_in file number ≡ None
  pub has : HasPackets file count
  pub cut_off : is_cut file count ≡ cut

abbrev pub IsPacketFault : List ℕ → ℕ → PacketFault → Type 0
IsPacketFault file number NoCapture = (is_capture file ≡ false) × (is_pcapng file ≡ false)
IsPacketFault file number Pcapng = (is_capture file ≡ false) × (is_pcapng file ≡ true)
IsPacketFault file number (LinkType link) = (is_capture file ≡ true) × (24 ≤ length file) × (link_type file ≡ link) × (link ≢ ethernet)
IsPacketFault file number (Missing count) = Lacks file number count false
IsPacketFault file number (Cut count) = Lacks file number count true

-- Want of memory may come with any file.
abbrev pub IsCaptureFault : List ℕ → ℕ → CaptureFault → Type 0
IsCaptureFault file number (Packet fault) = IsPacketFault file number fault
IsCaptureFault file number Memory = ⊤
