-- Why there is no packet to take of a file: its number and its text, and what stands behind that. bpfdb's own choice.
use Rattle.std.specs.Prelude.{ℕ, List, [], ◌++◌, codes, decimal}
use Rattle.capture_packets.specs.Links.{link_name}
use Rattle.capture_packets.specs.declared.fault.PacketFault.{PacketFault}
use Rattle.capture_packets.specs.declared.fault.PacketFault.TheVariants.{NoCapture, Pcapng, LinkType, Missing, Cut}

abbrev pub packet_fault : PacketFault → ℕ × List ℕ
packet_fault NoCapture = (1, codes "no capture in pcap's own format")
packet_fault Pcapng = (2, codes "the capture is in pcapng: tcpdump -r OLD -w NEW writes it in pcap's own format")
packet_fault (LinkType link) = (3, codes "packets of the capture don't begin with a header of Ethernet")
packet_fault (Missing count) = (4, codes "no such packet")
packet_fault (Cut count) = (5, codes "the capture is cut off before the packet's end")

abbrev pub fault_end : PacketFault → List ℕ
fault_end NoCapture = []
fault_end Pcapng = []
fault_end (LinkType link) = codes ": " ++ link_name link ++ codes " (link type " ++ decimal link ++ codes ")"
fault_end (Missing count) = codes ": the capture has " ++ decimal count
fault_end (Cut count) = codes ": whole packets: " ++ decimal count

abbrev pub fault_text : PacketFault → List ℕ
fault_text fault = codes "refused P" ++ decimal (packet_fault fault).0 ++ codes ": " ++ (packet_fault fault).1 ++ fault_end fault
