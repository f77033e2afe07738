-- Values by their names: those of enumerators, and of verdicts, of which few objects have the enum, and tc's have none.
use Rattle.std.specs.Prelude.{ℕ, zero, suc, ◌||◌, Bool, false, if◌then◌else◌, List, Option}
use Rattle.std.specs.Option.{option_map_or}
use Rattle.std.specs.Str.{bytes_eq}
use Rattle.bpf_btf.specs.Types.{Types}
use Rattle.bpf_packet.specs.Verdicts.{verdict_name}
use Rattle.bpf_packet.specs.declared.packet.Packet.{Packet}
use Rattle.bpf_packet.specs.declared.packet.Packet.TheVariants.{Xdp, Tc}
use Rattle.bpf_lines.specs.Enumerators.{enumerator}
use Rattle.bpf_lines.specs.declared.enumerators.Enumerator.{Enumerator}
use Rattle.bpf_lines.specs.declared.enumerators.Enumerator.TheVariants.{Nothing, Value}

abbrev pub is_verdict_of : Packet → ℕ → List ℕ → Bool
is_verdict_of packet v name = option_map_or (λ text. bytes_eq text name) (verdict_name packet v) false

abbrev pub is_verdict : ℕ → List ℕ → Bool
is_verdict v name = is_verdict_of Xdp v name || is_verdict_of Tc v name

-- Verdicts are 0 to 8, and TC_ACT_UNSPEC, -1.
abbrev pub verdict_below : List ℕ → ℕ → Enumerator
verdict_below name zero = Nothing
verdict_below name (suc n) = if is_verdict n name then Value n else verdict_below name n

abbrev pub verdict : List ℕ → Enumerator
verdict name = if is_verdict 0xffffffff name then Value 0xffffffff else verdict_below name 9

-- What the object's types say counts first.
abbrev pub or_verdict : Enumerator → List ℕ → Enumerator
or_verdict Nothing name = verdict name
or_verdict found name = found

abbrev pub named_value : Types → List ℕ → Enumerator
named_value types name = or_verdict (enumerator types name) name
