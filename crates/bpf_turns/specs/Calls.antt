-- The program that calls others in turn, and where these lie behind it.
use Rattle.std.specs.Prelude.{ℕ, zero, suc, ◌+◌, ◌-◌, ◌*◌, ◌/◌, ◌%◌, ◌==◌, min, if◌then◌else◌, List, [], ◌∷◌, ◌++◌, Option, get_or, is_some, length, position}
use Rattle.bpf_link.specs.Objects.{Elf, below}
use Rattle.bpf_join.specs.Gathered.{gathered}
use Rattle.bpf_turns.specs.Seats.{slots_of}
use Rattle.bpf_turns.specs.declared.calls.Call.{Call}
use Rattle.bpf_turns.specs.declared.seats.Seat.{Seat}

-- The sections of the programs come one behind another, in the order of their numbers, behind the slots of the calls: five for each, and three.
abbrev pub seat_index : List Seat → ℕ → Option ℕ
seat_index seats section = position (λ seat. seat.section == section) seats

abbrev pub taken_slots : Elf → List Seat → ℕ → ℕ
taken_slots object seats section = if is_some (seat_index seats section) then length (slots_of object section) / 8 else 0

-- How many slots of those below a number there are; more than a program may have count as one more than that.
abbrev pub slots_before : Elf → List Seat → ℕ → ℕ
slots_before object seats zero = 0
slots_before object seats (suc i) = min (slots_before object seats i + taken_slots object seats i) 65536

abbrev pub start_of : Elf → List Seat → ℕ → ℕ
start_of object seats section = 5 * length seats + 3 + slots_before object seats section

-- A call: from which section it is, where that begins, and where the program does.
abbrev pub call_of : Elf → List Seat → Seat → Call
call_of object seats seat = record {
  section = seat.section;
  start = start_of object seats seat.section;
  to = start_of object seats seat.section + seat.slot;
  offset = seat.offset;
}

abbrev pub no_seat : Seat
no_seat = record { section = 0; slot = 0; offset = 0 }

abbrev pub calls_of : Elf → List Seat → List Call
calls_of object seats = below (λ k. call_of object seats (get_or seats k no_seat)) (length seats)

-- An instruction without an offset: its opcode, its registers (src and dst), and a number of 32 bits (RFC 9669, section 3.1).
abbrev pub slot : ℕ → ℕ → ℕ → List ℕ
slot opcode registers imm =
    opcode ∷ (registers ∷ (0 ∷ (0 ∷ (imm % 256 ∷ (imm / 256 % 256 ∷ (imm / 65536 % 256 ∷ (imm / 16777216 % 256 ∷ [])))))))

-- The program begins with `mov r6, r1` and `mov r7, r2`: it keeps the context and how many bytes that has.
abbrev pub begin_words : List ℕ
begin_words = slot 0xbf 0x16 0 ++ slot 0xbf 0x27 0

-- The k-th call, from slot 5k + 2 on: `mov r1, r6`, `mov r2, r7`, `add r1, OFFSET`, `sub r2, OFFSET`, and the call, which counts from the slot behind it.
abbrev pub call_words : ℕ → Call → List ℕ
call_words k call =
    (slot 0xbf 0x61 0 ++ slot 0xbf 0x72 0) ++ ((slot 0x07 0x01 call.offset ++ slot 0x17 0x02 call.offset)
    ++ slot 0x85 0x10 (call.to - (5 * k + 7)))

-- It ends with `exit`, where r0 is what the last one left there.
abbrev pub no_call : Call
no_call = record { section = 0; start = 0; to = 0; offset = 0 }

abbrev pub calling_words : List Call → List ℕ
calling_words calls =
    begin_words ++ (gathered (λ k. call_words k (get_or calls k no_call)) (length calls) ++ slot 0x95 0 0)
