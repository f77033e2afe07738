-- What a program that has exited came to: r0, and, where an object is run on a packet, the name of the verdict that it is.
use Rattle.std.specs.Prelude.{ℕ, List, [], ◌++◌, Option, Some, None, codes}
use Rattle.bpf_load.specs.declared.target.SourceKind.{SourceKind}
use Rattle.bpf_load.specs.declared.target.SourceKind.TheVariants.{Object}
use Rattle.bpf_load.specs.declared.target.Target.{Target}
use Rattle.bpf_packet.specs.Verdicts.{verdict_name}
use Rattle.bpf_packet.specs.declared.packet.Packet.{Packet}
use Rattle.bpf_steps.specs.State.{State, register}
use Rattle.counted_io.specs.Writing.{hexadecimal}

-- The kernel's struct of the packet that a program takes: words and listings take none.
abbrev pub packet_by : SourceKind → Option Packet → Option Packet
packet_by Object packet = packet
packet_by kind packet = None

abbrev pub packet_of : Target → Option Packet
packet_of target = packet_by target.kind target.packet

-- The verdict's name behind a blank, if it has one.
abbrev pub verdict_by : Option Packet → ℕ → Option (List ℕ)
verdict_by None value = None
verdict_by (Some packet) value = verdict_name packet value

abbrev pub behind_number : Option (List ℕ) → List ℕ
behind_number None = []
behind_number (Some name) = codes " " ++ name

abbrev pub result_line : Option Packet → ℕ → List ℕ
result_line packet value = hexadecimal value ++ behind_number (verdict_by packet value) ++ codes "\n"

abbrev pub result_text : Target → State → List ℕ
result_text target x = result_line (packet_of target) (register x 0)
