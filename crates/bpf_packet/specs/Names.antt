-- The names by which the kernel's structs are asked for.
use Rattle.std.specs.Prelude.{ℕ, List, codes}
use Rattle.bpf_packet.specs.declared.packet.Packet.{Packet}
use Rattle.bpf_packet.specs.declared.packet.Packet.TheVariants.{Xdp, Tc}

abbrev pub packet_name : Packet → List ℕ
packet_name Xdp = codes "xdp"
packet_name Tc = codes "tc"
