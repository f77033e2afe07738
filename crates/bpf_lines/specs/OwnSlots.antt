-- The slots of a program that are the first object's own: its first one, and that behind the last.
use Rattle.std.specs.Prelude.{ℕ, ◌+◌, List, [], ◌∷◌, Option, sum_by}
use Rattle.bpf_packet.specs.declared.packet.Packet.{Packet}
use Rattle.bpf_lines.specs.Objects.{begin_of, slots_of}
use Rattle.bpf_lines.specs.declared.objects.ObjectLines.{ObjectLines}

-- The others' stand behind them.
abbrev pub own_slots : Option Packet → List ℕ → List ObjectLines → ℕ × ℕ
own_slots packet words [] = (0, 0)
own_slots packet words (own ∷ others) =
    (begin_of packet words (sum_by slots_of (own ∷ others)), begin_of packet words (sum_by slots_of (own ∷ others)) + slots_of own)
