-- What an expression of gdb's comes to: bytecode over a stack of numbers of 64 bits, the newest first (gdb's manual, appendix "The GDB Agent
-- Expression Mechanism").
-- By gdb's names: ref8 to ref64 0x17 to 0x1a, if_goto 0x20, goto 0x21, const8 to const64 0x22 to 0x25, reg 0x26, end 0x27, dup 0x28, pop 0x29,
-- swap 0x2b, pick 0x32, rot 0x33; those on numbers stand in `Arithmetic`.
use Rattle.std.specs.Prelude.{ℕ, zero, suc, ◌+◌, ◌==◌, ◌||◌, ◌&&◌, nat_lt, nat_le, if◌then◌else◌, Bool, true, false, List, [], ◌∷◌, length, drop, slice_get, Option, Some, None}
use Rattle.std.specs.Option.{option_map, option_and_then}
use Rattle.byteorder.specs.Endian.{big_number, little_number}
use Rattle.bpf_steps.specs.Regions.{run_at}
use Rattle.bpf_steps.specs.State.{State}
use Rattle.bpf_agent.specs.Arithmetic.{binary, unary}
use Rattle.bpf_agent.specs.Registers.{value_of}
use Rattle.bpf_agent.specs.declared.expression.Next.{Next}
use Rattle.bpf_agent.specs.declared.expression.Next.TheVariants as next
use Rattle.bpf_agent.specs.declared.expression.Next.TheVariants.{At, Value}

-- The most numbers of a stack, and the most instructions of an evaluation: bpfdb's own choice.
abbrev pub most_numbers : ℕ
most_numbers = 32

abbrev pub most_instructions : ℕ
most_instructions = 1024

-- A number comes on the stack.
abbrev pub pushed : ℕ → List ℕ → Option (List ℕ)
pushed v s = if nat_lt (length s) most_numbers then Some (v ∷ s) else None

-- How many bytes stand behind an opcode, the number that they are, the highest first.
abbrev pub operand_len : ℕ → ℕ
operand_len op =
    if op == 0x16 || op == 0x22 || op == 0x2a || op == 0x32 then 1
    else if op == 0x20 || op == 0x21 || op == 0x23 || op == 0x26 then 2
    else if op == 0x24 then 4
    else if op == 0x25 then 8
    else 0

abbrev pub operand : List ℕ → ℕ → ℕ → Option ℕ
operand code at n = if nat_lt (length code) (at + n) then None else Some (big_number n (drop at code))

-- What is left of the stack by an instruction that may have failed.
abbrev pub left : Bool → List ℕ → Option (List ℕ)
left true s = Some s
left false s = None

abbrev pub and_push : Option ℕ → List ℕ → Option (List ℕ)
and_push None s = None
and_push (Some v) s = pushed v s

-- The instructions on the newest number, and on the newest two.
abbrev pub on_one : ℕ → ℕ → List ℕ → Option (List ℕ)
on_one op n [] = None
on_one op n (v ∷ s) = and_push (unary op n v) s

abbrev pub on_two : ℕ → List ℕ → Option (List ℕ)
on_two op (b ∷ a ∷ s) = and_push (binary op a b) s
on_two op _ = None

-- Those on the order of numbers: dup, pop, swap and rot.
abbrev pub swapped : List ℕ → Option (List ℕ)
swapped (b ∷ a ∷ s) = option_and_then (pushed a) (pushed b s)
swapped _ = None

abbrev pub rotated : List ℕ → Option (List ℕ)
rotated (c ∷ b ∷ a ∷ s) = option_and_then (pushed b) (option_and_then (pushed a) (pushed c s))
rotated _ = None

abbrev pub popped : List ℕ → Option (List ℕ)
popped (v ∷ s) = Some s
popped _ = None

abbrev pub ordered : ℕ → List ℕ → Option (List ℕ)
ordered op s =
    if op == 0x28 then and_push (slice_get s 0) s
    else if op == 0x29 then popped s
    else if op == 0x2b then swapped s
    else if op == 0x33 then rotated s
    else None

-- What is read of the machine: a register by gdb's number, and 1, 2, 4 or 8 bytes of memory, the lowest first.
abbrev pub register_read : State → ℕ → Option ℕ
register_read x n = if nat_le n 22 then Some (value_of x n) else None

abbrev pub memory_read : State → ℕ → ℕ → Option ℕ
memory_read x a n = option_map (little_number n) (run_at x.memory a n)

abbrev pub width_of : ℕ → ℕ
width_of op = if op == 0x17 then 1 else if op == 0x18 then 2 else if op == 0x19 then 4 else 8

abbrev pub on_address : ℕ → State → List ℕ → Option (List ℕ)
on_address op x [] = None
on_address op x (a ∷ s) = and_push (memory_read x a (width_of op)) s

-- What an instruction that doesn't jump leaves of the stack; n is what stands behind its opcode.
unfoldable pub stacked : ℕ → ℕ → State → List ℕ → Option (List ℕ)
stacked op n x s =
    if nat_le 0x22 op && nat_le op 0x25 then pushed n s
    else if op == 0x26 then and_push (register_read x n) s
    else if op == 0x32 then and_push (slice_get s n) s
    else if nat_le 0x17 op && nat_le op 0x1a then on_address op x s
    else if op == 0x0e || op == 0x12 || op == 0x16 || op == 0x2a then on_one op n s
    else if nat_le 0x28 op then ordered op s
    else on_two op s

-- Where an evaluation goes on, or what it comes to, and the stack then; none where the instruction has a fault.
abbrev pub Went : Type 0
Went = Option (Next × List ℕ)

abbrev pub branched : ℕ → ℕ → List ℕ → Went
branched n after (v ∷ s) = Some (next.At (if v == 0 then after else n), s)
branched n after [] = None

abbrev pub ended : List ℕ → Went
ended (v ∷ s) = Some (next.Value v, s)
ended [] = None

unfoldable pub done : ℕ → ℕ → ℕ → State → List ℕ → Went
done op n after x s =
    if op == 0x20 then branched n after s
    else if op == 0x21 then Some (next.At n, s)
    else if op == 0x27 then ended s
    else option_map (λ left. (next.At after, left)) (stacked op n x s)

abbrev pub instructed : List ℕ → ℕ → State → List ℕ → ℕ → Went
instructed code at x s op =
    elim (operand code (at + 1) (operand_len op)) [ None ↦ None | Some n ↦ done op n (at + 1 + operand_len op) x s ]

abbrev pub step : List ℕ → State → ℕ → List ℕ → Went
step code x at s = elim (slice_get code at) [ None ↦ None | Some op ↦ instructed code at x s op ]

-- The value from an instruction on, in so many instructions at most.
unfoldable pub value_from : List ℕ → State → ℕ → ℕ → List ℕ → Option ℕ
value_from code x zero at s = None
value_from code x (suc k) at s =
    elim (step code x at s) [ None ↦ None | Some went ↦ elim went.0 [ At to ↦ value_from code x k to went.1 | Value v ↦ Some v ] ]

abbrev pub value : List ℕ → State → Option ℕ
value code x = value_from code x most_instructions 0 []

-- The result of a step as it stands in code.
abbrev pub went : Option Next → List ℕ → Went
went r s = option_map (λ n. (n, s)) r
