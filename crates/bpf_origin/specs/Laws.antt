-- Laws of places: what a move leaves as it is, and what the values depend on that it writes.
use Rattle.std.specs.Prelude.{◌≡◌, true, false, List, ◌++◌, length, map, flat_map}
use Rattle.bpf_entries.specs.declared.entry.Entry.{Entry}
use Rattle.bpf_steps.specs.declared.frame.Frame.{Frame}
use Rattle.bpf_machine.specs.declared.moves.Move.{Move}
use Rattle.bpf_machine.specs.declared.moves.Move.TheVariants as move
use Rattle.bpf_machine.specs.Moves.{Leads, overwritten}
use Rattle.bpf_steps.specs.State.{State}
use Rattle.bpf_origin.specs.declared.place.Place.{Place}
use Rattle.bpf_origin.specs.declared.place.Part.{Part}
use Rattle.bpf_origin.specs.Places.{value, IsPlace, places_of}
use Rattle.bpf_origin.specs.Reads.{reads, bases, conditions}
use Rattle.bpf_origin.specs.Wanted.{is_in}
use Rattle.bpf_origin.specs.Writes.{written, writes, came_from}

-- A move changes no place but those that it writes.
abbrev pub MovesKeepOtherPlaces : Type 0
MovesKeepOtherPlaces =
    (x : State) (m : Move) (y : State) → Leads x m y → (p : Place) → IsPlace y p → writes y (overwritten x m) p ≡ false →
    value y p ≡ value x (came_from y (overwritten x m) p)

-- Two states at one point of a program: the same slot of the same program, called from the same slots, with as long a context and as many
-- traced words. So the next instruction, the depth of calls, r10 and the addresses that are present are the same; values may differ.
pub record StandAlike (x z : State) : Type 0 where
  pub program : x.program ≡ z.program
  pub pc : x.pc ≡ z.pc
  pub returns : map (λ (f : Frame). f.return_pc) x.frames ≡ map (λ (f : Frame). f.return_pc) z.frames
  pub context : x.memory.context_len ≡ z.memory.context_len
  pub words : length x.trace ≡ length z.trace

-- Two states have the same values at some places, and at those of some parts.
abbrev pub Agree : List Place → State → State → Type 0
Agree places x z = (p : Place) → is_in p places ≡ true → value x p ≡ value z p

abbrev pub AgreeOn : List Part → State → State → Type 0
AgreeOn parts x z = Agree (flat_map places_of parts) x z

-- The move with the entry e, which led to y, and the one with f, which led to w, wrote the same values to the same places.
pub record WroteAlike (y : State) (e : Entry) (w : State) (f : Entry) : Type 0 where
  pub places : written y e ≡ written w f
  pub values : (p : Place) → writes y e p ≡ true → value y p ≡ value w p

-- What a move writes depends on nothing but what it reads and the registers of its addresses.
abbrev pub MovesWriteWhatTheyRead : Type 0
MovesWriteWhatTheyRead =
    (x z : State) (m : Move) (y w : State) → Leads x m y → Leads z m w → StandAlike x z → AgreeOn (reads x m ++ bases x m) x z →
    WroteAlike y (overwritten x m) w (overwritten z m)

-- Where a step leads depends besides on nothing but the registers of its conditions.
abbrev pub StepsGoByConditions : Type 0
StepsGoByConditions =
    (x z y w : State) → Leads x move.Step y → Leads z move.Step w → StandAlike x z →
    AgreeOn (reads x move.Step ++ (bases x move.Step ++ conditions x move.Step)) x z →
    StandAlike y w × (y.status ≡ w.status)
