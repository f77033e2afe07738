-- The instructions of expressions that work on numbers, by their opcodes, over numbers of 64 bits. By gdb's names: add 0x02, sub 0x03, mul 0x04,
-- div_signed 0x05, div_unsigned 0x06, rem_signed 0x07, rem_unsigned 0x08, lsh 0x09, rsh_signed 0x0a, rsh_unsigned 0x0b, log_not 0x0e, bit_and 0x0f,
-- bit_or 0x10, bit_xor 0x11, bit_not 0x12, equal 0x13, less_signed 0x14, less_unsigned 0x15, ext 0x16, zero_ext 0x2a.
use Rattle.std.specs.Prelude.{ℕ, ◌+◌, ◌-◌, ◌*◌, ◌/◌, ◌%◌, ◌^◌, ◌==◌, ◌&&◌, bit_and, bit_or, bit_xor, int_div, int_rem, int_lt, nat_lt, nat_le, if◌then◌else◌, Bool, true, false, Option, Some, None}
use Rattle.std.specs.Int.{int_shr}
use Rattle.bpf_steps.specs.Numbers.{signed, wrap}

-- A truth as a number.
abbrev pub truth : Bool → ℕ
truth true = 1
truth false = 0

-- The instructions on two numbers, by their opcodes: b is the newest. Nothing can be divided by zero, and no shift is by 64 bits or more.
abbrev pub quotient : ℕ → ℕ → ℕ → Option ℕ
quotient op a b =
    if b == 0 then None
    else if op == 0x05 then Some (wrap 64 (int_div (signed 64 a) (signed 64 b)))
    else if op == 0x06 then Some (a / b)
    else if op == 0x07 then Some (wrap 64 (int_rem (signed 64 a) (signed 64 b)))
    else Some (a % b)

abbrev pub shifted : ℕ → ℕ → ℕ → Option ℕ
shifted op a b =
    if nat_le 64 b then None
    else if op == 0x09 then Some ((a * 2 ^ b) % 2 ^ 64)
    else if op == 0x0a then Some (wrap 64 (int_shr (signed 64 a) b))
    else Some (a / 2 ^ b)

abbrev pub compared : ℕ → ℕ → ℕ → Option ℕ
compared op a b =
    if op == 0x13 then Some (truth (a == b))
    else if op == 0x14 then Some (truth (int_lt (signed 64 a) (signed 64 b)))
    else if op == 0x15 then Some (truth (nat_lt a b))
    else None

abbrev pub combined : ℕ → ℕ → ℕ → Option ℕ
combined op a b =
    if op == 0x0f then Some (bit_and a b)
    else if op == 0x10 then Some (bit_or a b)
    else if op == 0x11 then Some (bit_xor a b)
    else compared op a b

abbrev pub binary : ℕ → ℕ → ℕ → Option ℕ
binary op a b =
    if op == 0x02 then Some ((a + b) % 2 ^ 64)
    else if op == 0x03 then Some ((a + (2 ^ 64 - b)) % 2 ^ 64)
    else if op == 0x04 then Some ((a * b) % 2 ^ 64)
    else if nat_le 0x05 op && nat_le op 0x08 then quotient op a b
    else if nat_le 0x09 op && nat_le op 0x0b then shifted op a b
    else combined op a b

-- The low n bits of a number, n below 64, with their sign or with zeros in front of them.
abbrev pub extended : ℕ → ℕ → ℕ
extended n v = if nat_lt (v % 2 ^ n) (2 ^ (n - 1)) then v % 2 ^ n else v % 2 ^ n + (2 ^ 64 - 2 ^ n)

-- The instructions on one number, by their opcodes and what stands behind them.
abbrev pub unary : ℕ → ℕ → ℕ → Option ℕ
unary op n v =
    if op == 0x0e then Some (truth (v == 0))
    else if op == 0x12 then Some (2 ^ 64 - 1 - v)
    else if n == 0 then None
    else if nat_le 64 n then Some v
    else if op == 0x16 then Some (extended n v)
    else Some (v % 2 ^ n)
