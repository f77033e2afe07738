-- Programs of an object in turn: when there is an object that calls them, and why there is none.
use Rattle.std.specs.Prelude.{◌≡◌, ◌⊎◌, ℕ, ◌+◌, ◌*◌, nat_le, nat_lt, Bool, true, false, ◌&&◌, List, [], ◌∷◌, Result, Ok, Err, length}
use Rattle.bpf_isa.specs.Checker.{most_slots}
use Rattle.bpf_link.specs.Links.{planned}
use Rattle.bpf_link.specs.Names.{fault_names}
use Rattle.bpf_link.specs.Objects.{provided}
use Rattle.bpf_link.specs.Plans.{after}
use Rattle.bpf_link.specs.declared.fault.LinkFault.{LinkFault}
use Rattle.bpf_link.specs.declared.fault.LinkFault.TheVariants.{Memory, NoEntry, NoSection, SectionTable, SymbolTable, TooLong}
use Rattle.bpf_link.specs.declared.plan.Plan.{Plan}
use Rattle.bpf_link.specs.declared.sections.Found.{Found}
use Rattle.bpf_link.specs.declared.sections.Found.TheVariants.{Only}
use Rattle.counted_io.specs.Cuts.{before}
use Rattle.bpf_turns.specs.Calls.{calls_of, slots_before}
use Rattle.bpf_turns.specs.Ext.{HasMovedExt, IsUnmoved}
use Rattle.bpf_turns.specs.Objects.{turned_bytes}
use Rattle.bpf_turns.specs.Seats.{IsSeatFault, seats_of}
use Rattle.bpf_turns.specs.declared.seats.Seat.{Seat}
use Rattle.bpf_turns.specs.declared.seats.TurnFault.{TurnFault}
use Rattle.bpf_turns.specs.declared.source.Source.{Source}

-- There is room for another section, the symbols are one, and the file has a header.
abbrev pub has_room : Source → Bool
has_room source =
    let count = length source.plan.object.sections in
    nat_lt count 0xfeff && (nat_lt source.table count && nat_le 64 (length source.plan.object.bytes))

abbrev pub source_at : Source → Result Source LinkFault
source_at source = provided (has_room source) SectionTable (Ok source)

abbrev pub source_in : Plan → Bool → Found → Result Source LinkFault
source_in plan only (Only table) = source_at (record { plan = plan; only = only; table = table })
source_in plan only _ = Err SymbolTable

-- The object with its symbols, by the plan of one of its sections of code; those of the others have the same ones.
abbrev pub source_of : List ℕ → List ℕ → Bool → Result Source LinkFault
source_of bytes section only = after (planned bytes section) (λ plan. source_in plan only plan.table)

-- That is the section that is asked for, to which all programs belong then; or, where none is, the first of those with code, by the names that `link`
-- tells of them, with commas (44) between.
abbrev pub first_section : List ℕ → List ℕ
first_section bytes = before 44 (fault_names bytes [] NoSection)

abbrev pub source_for : List ℕ → List ℕ → Result Source LinkFault
source_for bytes [] = source_of bytes (first_section bytes) false
source_for bytes (b ∷ section) = source_of bytes (b ∷ section) true

-- There are programs, and the code isn't longer than a program may be.
abbrev pub fits : Source → List Seat → Bool
fits source seats =
    nat_le (length seats) most_slots
    && nat_le (5 * length seats + 3 + slots_before source.plan.object seats (length source.plan.object.sections)) most_slots

abbrev pub fitted : Source → List Seat → Result (List Seat) LinkFault
fitted source seats = provided (nat_lt 0 (length seats)) NoEntry (provided (fits source seats) TooLong (Ok seats))

-- The programs that some texts name, and their object, with what `.BTF.ext` tells of it.
pub record IsTurnedFrom (source : Source) (texts : List (List ℕ)) (all : List ℕ) : Type 0 where
  pub seats : List Seat
  pub are_seats : seats_of source.plan source.only texts ≡ Ok seats
  pub fit : fitted source seats ≡ Ok seats
  pub ext : List ℕ
  pub moved : HasMovedExt source.plan (calls_of source.plan.object seats) ext
  pub made : all ≡ turned_bytes source seats ext

pub record IsTurned (bytes section : List ℕ) (texts : List (List ℕ)) (all : List ℕ) : Type 0 where
  pub source : Source
  pub is_source : source_for bytes section ≡ Ok source
  pub turned : IsTurnedFrom source texts all

-- Why there is none: one of the programs isn't there, all of it is too much, or else `.BTF.ext` is malformed; or memory ran out.
abbrev pub IsObjectFault : Source → List Seat → LinkFault → Type 0
IsObjectFault source seats fault =
    (fitted source seats ≡ Err fault)
    ⊎ ((fault ≡ Memory) ⊎ ((fitted source seats ≡ Ok seats) × IsUnmoved source.plan (calls_of source.plan.object seats) fault))

abbrev pub IsSourceFault : Source → List (List ℕ) → TurnFault → Type 0
IsSourceFault source texts told =
    IsSeatFault source.plan source.only texts told
    ⊎ ((seats : List Seat) × (seats_of source.plan source.only texts ≡ Ok seats) × IsObjectFault source seats told.fault × (told.which ≡ length texts))

abbrev pub IsTurnFault : List ℕ → List ℕ → List (List ℕ) → TurnFault → Type 0
IsTurnFault bytes section texts told =
    ((source_for bytes section ≡ Err told.fault) × (told.which ≡ length texts))
    ⊎ ((source : Source) × (source_for bytes section ≡ Ok source) × IsSourceFault source texts told)
