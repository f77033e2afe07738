-- Helpers whose calls are answered by a constant: each call is a `mov r0, VALUE` instead.
use Rattle.std.specs.Prelude.{ℕ, zero, suc, ◌+◌, ◌*◌, ◌/◌, ◌==◌, Bool, ◌&&◌, if◌then◌else◌, List, [], ◌∷◌, Option, Some, None, is_some, length, slice_index, slice_set}
use Rattle.bpf_isa.specs.Words.{u32_at}
use Rattle.bpf_link.specs.declared.stubs.Stub.{Stub}
use Rattle.bpf_link.specs.Patches.{with_u32}

-- The value that answers a helper: that of the first stub for it.
abbrev pub answer_of : List Stub → ℕ → Option ℕ
answer_of [] helper = None
answer_of (stub ∷ stubs) helper = if stub.helper == helper then Some stub.value else answer_of stubs helper

-- A slot calls a helper by its number (RFC 9669, section 4.3.1): opcode 0x85, 0 for src and dst.
abbrev pub calls_helper : List ℕ → ℕ → Bool
calls_helper words slot = (slice_index words (8 * slot) == 0x85) && (slice_index words (8 * slot + 1) == 0)

-- What answers the call in a slot.
abbrev pub answer_in : List Stub → List ℕ → ℕ → Option ℕ
answer_in stubs words slot = if calls_helper words slot then answer_of stubs (u32_at words (8 * slot + 4)) else None

-- A slot holds `mov r0, VALUE` instead of a call.
abbrev pub with_move : List ℕ → ℕ → Option ℕ → List ℕ
with_move words slot None = words
with_move words slot (Some value) = with_u32 (slice_set words (8 * slot) 0xb7) (8 * slot + 4) value

-- The first n slots with their calls answered.
abbrev pub answered_below : List Stub → List ℕ → ℕ → List ℕ
answered_below stubs words zero = words
answered_below stubs words (suc n) = with_move (answered_below stubs words n) n (answer_in stubs (answered_below stubs words n) n)

abbrev pub answered : List Stub → List ℕ → List ℕ
answered stubs words = answered_below stubs words (length words / 8)

-- How many of the first n slots are calls that are answered.
abbrev pub answers_below : List Stub → List ℕ → ℕ → ℕ
answers_below stubs words zero = 0
answers_below stubs words (suc n) = answers_below stubs words n + (if is_some (answer_in stubs words n) then 1 else 0)

abbrev pub answers : List Stub → List ℕ → ℕ
answers stubs words = answers_below stubs words (length words / 8)
