-- What is asked of the slots of a program by a text, with what names its places. bpfdb's own choice.
use Rattle.std.specs.Prelude.{◌≡◌, ⊤, Bool, true, false, List, ℕ, ◌++◌, All, codes}
use Rattle.bpfdb_script.specs.Shown.{shown}
use Rattle.bpf_lines.specs.Lookups.{listed_slots}
use Rattle.bpf_lines.specs.Objects.{HasPartLines}
use Rattle.bpf_lines.specs.Places.{is_place}
use Rattle.bpf_lines.specs.Values.{AreSlotsFor}
use Rattle.bpf_lines.specs.declared.debug_info.DebugInfo.{DebugInfo}
use Rattle.bpf_lines.specs.declared.debug_info.DebugInfo.TheVariants.{Nothing, Listing, Objects}

-- The lines of objects are those that their parts tell.
abbrev pub AreWhole : DebugInfo → Type 0
AreWhole (Objects lines packet words) = All HasPartLines lines.now
AreWhole info = ⊤

-- By the name of a place. Where nothing has a name it is left as it is.
abbrev pub AreNamed : DebugInfo → List ℕ → List ℕ → Type 0
AreNamed Nothing what slots = slots ≡ what
AreNamed (Listing table) what slots = slots ≡ listed_slots table.now what
AreNamed (Objects lines packet words) what slots = AreSlotsFor packet words.now lines.now what slots

-- By a text, which is left as it is where it names no place.
abbrev pub AsksBy : Bool → DebugInfo → List ℕ → List ℕ → Type 0
AsksBy true info what slots = AreNamed info what slots
AsksBy false info what slots = slots ≡ what

abbrev pub AsksSlots : DebugInfo → List ℕ → List ℕ → Type 0
AsksSlots info what slots = AsksBy (is_place what) info what slots

-- The line of a refusal: no slot has the place of a name.
abbrev pub no_place_line : List ℕ → List ℕ
no_place_line name = codes "refused V5: no such place: " ++ shown name ++ codes "\n"
