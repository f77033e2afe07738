-- Where the programs lie in their object that are called in turn.
use Rattle.std.specs.Prelude.{◌≡◌, ◌<◌, ℕ, ◌/◌, ◌%◌, ◌==◌, nat_le, nat_lt, Bool, not, ◌&&◌, ◌||◌, if◌then◌else◌, List, [], ◌∷◌, ◌++◌, Option, Some, None, Result, Ok, Err, get_or, length}
use Rattle.bpf_isa.specs.Checker.{most_slots}
use Rattle.bpf_link.specs.Links.{MemoryOr}
use Rattle.bpf_link.specs.MapTypes.{section_bytes}
use Rattle.bpf_link.specs.Objects.{Elf, provided, section_at}
use Rattle.bpf_link.specs.Plans.{after, is_closed, steps, symbol_place}
use Rattle.bpf_link.specs.Sections.{found, is_code, name_at}
use Rattle.bpf_link.specs.Tables.{symbol_at}
use Rattle.bpf_link.specs.declared.fault.LinkFault.{LinkFault}
use Rattle.bpf_link.specs.declared.fault.LinkFault.TheVariants.{ManyPrograms, NoEntry, RunsOff, Section, TooLong}
use Rattle.bpf_link.specs.declared.layout.SymbolEntry.{SymbolEntry}
use Rattle.bpf_link.specs.declared.plan.Plan.{Plan}
use Rattle.bpf_link.specs.declared.sections.Found.{Found}
use Rattle.bpf_link.specs.declared.sections.Found.TheVariants.{Nothing, Only, Several}
use Rattle.input_texts.specs.Turns.{name_in, offset_in}
use Rattle.bpf_turns.specs.declared.seats.Seat.{Seat}
use Rattle.bpf_turns.specs.declared.seats.TurnFault.{TurnFault}

-- A symbol is the function of a name: STT_FUNC, in a section of code, or in that of the plan alone. (Else of a plan only the object and its symbols count here,
-- which are those of each section.)
abbrev pub is_code_at : Elf → ℕ → Bool
is_code_at object section = nat_lt section (length object.sections) && is_code (section_at object section)

abbrev pub is_within : Plan → Bool → ℕ → Bool
is_within plan only section = not only || (section == plan.parts.code.section)

abbrev pub is_turn : Plan → Bool → List ℕ → SymbolEntry → Bool
is_turn plan only name symbol =
    (symbol.kind == 2) && (is_within plan only symbol.section
    && (is_code_at plan.object symbol.section && name_at plan.object.bytes (symbol_place plan symbol) name))

-- Where it lies: its section and its slot there. The section holds whole slots, no more than a program may have, and doesn't run off its end.
abbrev pub slots_of : Elf → ℕ → List ℕ
slots_of object section =
    if nat_lt section (length object.sections) then section_bytes object (section_at object section) else []

abbrev pub seat_in : Elf → ℕ → SymbolEntry → Result Seat LinkFault
seat_in object offset symbol =
    let slots = slots_of object symbol.section in
    provided (length slots % 8 == 0) Section
    (provided (nat_le (length slots / 8) most_slots) TooLong
    (provided (is_closed slots) RunsOff
    (provided (symbol.value % 8 == 0) NoEntry
    (provided (nat_lt (symbol.value / 8) (length slots / 8)) NoEntry
    (Ok (record { section = symbol.section; slot = symbol.value / 8; offset = offset }))))))

abbrev pub seat_at : Plan → ℕ → Found → Result Seat LinkFault
seat_at plan offset Nothing = Err NoEntry
seat_at plan offset (Only i) = seat_in plan.object offset (symbol_at plan.symbols i)
seat_at plan offset Several = Err ManyPrograms

abbrev pub seat_of : Plan → Bool → List ℕ → Option ℕ → Result Seat LinkFault
seat_of plan only name None = Err NoEntry
seat_of plan only name (Some offset) = seat_at plan offset (found (is_turn plan only name) plan.symbols)

-- Those of some texts, in their order, or the first fault.
abbrev pub with_named : Plan → Bool → List ℕ → List Seat → Result (List Seat) LinkFault
with_named plan only text seats = after (seat_of plan only (name_in text) (offset_in text)) (λ seat. Ok (seats ++ seat ∷ []))

abbrev pub with_seat : Plan → Bool → List (List ℕ) → ℕ → List Seat → Result (List Seat) LinkFault
with_seat plan only texts k seats = with_named plan only (get_or texts k []) seats

abbrev pub seats_of : Plan → Bool → List (List ℕ) → Result (List Seat) LinkFault
seats_of plan only texts = steps (with_seat plan only texts) [] (length texts)

-- The first one that isn't there: of those before it each is.
pub record IsSeatFault (plan : Plan) (only : Bool) (texts : List (List ℕ)) (told : TurnFault) : Type 0 where
  pub inside : told.which < length texts
  pub before : List Seat
  pub are_before : steps (with_seat plan only texts) [] told.which ≡ Ok before
  pub why : MemoryOr (with_seat plan only texts told.which before) told.fault
