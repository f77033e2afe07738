-- The code of two objects that are joined: each slot of both.
use Rattle.std.specs.Prelude.{◌≡◌, ◌<◌, ℕ, ◌+◌, ◌*◌, List, Option, Some, None, length, slice_index}
use Rattle.bpf_link.specs.Links.{unlinked}
use Rattle.bpf_link.specs.Parts.{slots_in}
use Rattle.bpf_link.specs.Reach.{target_of}
use Rattle.bpf_link.specs.declared.plan.Plan.{Plan}
use Rattle.bpf_join.specs.Codes.{called_in, own_slots}
use Rattle.bpf_join.specs.Functions.{callees}

-- The slot of the second object's code at which the function begins that answers what a slot of the first one's calls: a helper of the kernel whose name,
-- behind `bpf_`, is that function's.
abbrev pub answer : Plan → Plan → ℕ → Option ℕ
answer first second p = called_in (callees second) (unlinked first.parts) p

-- A slot calls what begins at another (RFC 9669, section 4.3.1): a call, 1 for src, and imm is the distance from the slot behind it.
pub record IsCall (words : List ℕ) (p to : ℕ) : Type 0 where
  pub opcode : slice_index words (8 * p) ≡ 0x85
  pub src : slice_index words (8 * p + 1) ≡ 0x10
  pub target : target_of words p ≡ to

-- Words are the code of both: that of the first one, then that of the second one. In the first one's each call of a helper that the second one answers is a call
-- of the function that answers it, and each other slot has its bytes; the second one's slots have theirs.
pub record IsBoth (first second : Plan) (words : List ℕ) : Type 0 where
  pub size : length words ≡ 8 * (own_slots first + slots_in second.parts.code)
  pub own : (p k : ℕ) → p < own_slots first → k < 8 → answer first second p ≡ None → slice_index words (8 * p + k) ≡ slice_index (unlinked first.parts) (8 * p + k)
  pub calls : (p to : ℕ) → p < own_slots first → answer first second p ≡ Some to → IsCall words p (own_slots first + to)
  pub functions : (q k : ℕ) → q < slots_in second.parts.code → k < 8
      → slice_index words (8 * (own_slots first + q) + k) ≡ slice_index second.parts.code.slots (8 * q + k)
