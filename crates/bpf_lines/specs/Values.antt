-- What asks about a value, and what is asked of the slots of a program then. bpfdb's own choice.
use Rattle.std.specs.Prelude.{◌≡◌, ℕ, ◌==◌, if◌then◌else◌, true, List, [], ◌∷◌, ◌++◌, Option, codes, decimal, drop, length, sum_by}
use Rattle.bpf_btf.specs.Types.{Types}
use Rattle.bpf_link.specs.MapTypes.{types_bytes, types_found}
use Rattle.bpf_packet.specs.declared.packet.Packet.{Packet}
use Rattle.bpf_lines.specs.NamedMaps.{AreTypesOf}
use Rattle.bpf_lines.specs.NamedValues.{named_value}
use Rattle.bpf_lines.specs.Objects.{begin_of, own_slots, program_table, slots_of}
use Rattle.bpf_lines.specs.PlaceSlots.{slots_told}
use Rattle.bpf_lines.specs.Places.{asks_value, is_name}
use Rattle.bpf_lines.specs.declared.enumerators.Enumerator.{Enumerator}
use Rattle.bpf_lines.specs.declared.enumerators.Enumerator.TheVariants.{Nothing, Value, Several}
use Rattle.bpf_lines.specs.declared.objects.ObjectLines.{ObjectLines}

-- Where the slots of the first of some objects begin, of FILE's own.
abbrev pub first_slot : Option Packet → List ℕ → List ObjectLines → ℕ
first_slot packet words all = begin_of packet words (sum_by slots_of all)

abbrev pub own_types : List ObjectLines → List ℕ
own_types [] = []
own_types (own ∷ others) = types_bytes own.plan.object (types_found own.plan.object)

-- What is asked of these: which of them make a value, by its number as it is spelled.
unfoldable pub range_text : List ℕ → ℕ → ℕ → List ℕ
range_text number first count = codes "=" ++ number ++ codes "," ++ decimal first ++ codes "," ++ decimal count

-- By the values that a name has. Of several, and of a name that was asked about as a value and has none, no number is asked about, which is refused.
abbrev pub named_text : List ℕ → Enumerator → ℕ → ℕ → List ℕ
named_text none Nothing first count = none
named_text none (Value v) first count = range_text (decimal v) first count
named_text none Several first count = codes "="

-- A value is asked about as `=NAME`, or else as `=NUMBER`. A name of which the table tells nothing may be a value's, too.
abbrev pub valued_text : Types → List ℕ → ℕ → ℕ → List ℕ
valued_text types value first count =
    if is_name value then named_text (codes "=") (named_value types value) first count else range_text value first count

abbrev pub placed_text : Types → List ℕ → List ℕ → ℕ → ℕ → List ℕ
placed_text types told what first count = if length told == 0 then named_text [] (named_value types what) first count else told

abbrev pub slots_by : Types → List ℕ → List ℕ → ℕ → ℕ → List ℕ
slots_by types told what first count =
    if asks_value what then valued_text types (drop 1 what) first count else placed_text types told what first count

-- What is asked of the slots of a program by a text that names a place, or asks about a value.
abbrev pub AreSlotsFor : Option Packet → List ℕ → List ObjectLines → List ℕ → List ℕ → Type 0
AreSlotsFor packet words all what slots = (types : Types) × AreTypesOf (own_types all) types
    × (slots ≡ slots_by types (slots_told true (program_table packet words all) what) what (first_slot packet words all) (own_slots all))
