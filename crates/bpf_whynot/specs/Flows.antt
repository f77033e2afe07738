-- How control flows within one function, and which slots lead to one.
use Rattle.std.specs.Prelude.{◌≡◌, ◌<◌, ◌≤◌, ℕ, ℤ, pos, negsuc, suc, ◌+◌, ◌==◌, Bool, true, false, if◌then◌else◌, List, Option, Some, None, get_or, length, slice_set}
use Rattle.std.specs.Option.{option_map_or, option_and_then}
use Rattle.bpf_isa.specs.Programs.{Checked, insn_at, slots_of, target_of}
use Rattle.bpf_isa.specs.declared.instruction.Insn.{Insn}
use Rattle.bpf_isa.specs.declared.instruction.Insn.TheVariants.{Exit}
use Rattle.bpf_whynot.specs.Reach.{goes_on, jumps, calls}
use Rattle.bpf_whynot.specs.Tables.{is_in}
use Rattle.bpf_whynot.specs.declared.sources.Sources.{Sources}

-- A whole number as a slot.
abbrev pub slot_of : ℤ → Option ℕ
slot_of (pos q) = Some q
slot_of (negsuc n) = None

abbrev pub target_slot : ℕ → Insn → Option ℕ
target_slot p i = option_and_then slot_of (target_of p i)

-- Whether a function can return that a call in a slot calls, by what is known of the slots of called functions.
abbrev pub has_target : List Bool → ℕ → Insn → Bool
has_target above p i = option_map_or (is_in above) (target_slot p i) false

-- The slot behind an instruction, where control may come to that in the same function.
abbrev pub behind_by : List Bool → ℕ → Insn → Option ℕ
behind_by above p i =
    if goes_on i then Some (p + slots_of i)
    else if calls i then (if has_target above p i then Some (p + 1) else None)
    else None

unfoldable pub behind : Checked → List Bool → ℕ → Option ℕ
behind program above p = option_and_then (behind_by above p) (insn_at program p)

-- The slot to which an instruction may jump in the same function.
abbrev pub jump_by : ℕ → Insn → Option ℕ
jump_by p i = if jumps i then target_slot p i else None

unfoldable pub jump : Checked → ℕ → Option ℕ
jump program p = option_and_then (jump_by p) (insn_at program p)

-- A call in a slot leads to what is known of the slots of called functions.
abbrev pub enters_by : List Bool → ℕ → Insn → Bool
enters_by above p i = if calls i then has_target above p i else false

unfoldable pub enters : Checked → List Bool → ℕ → Bool
enters program above p = option_map_or (enters_by above p) (insn_at program p) false

-- A function ends in a slot.
abbrev pub ends_by : Insn → Bool
ends_by Exit = true
ends_by _ = false

unfoldable pub ends : Checked → ℕ → Bool
ends program p = option_map_or ends_by (insn_at program p) false

-- Control that never leaves one slot.
abbrev pub unless : ℕ → (ℕ → Option ℕ) → ℕ → Option ℕ
unless but way p = if p == but then None else way p

-- The jumps that lead to a slot hang together, the last one first: 0 is the end, and a slot's number is one less than what stands for it.
pub record AreSources (program : Checked) (n : ℕ) (sources : Sources) : Type 0 where
  pub first : (p q : ℕ) → jump program p ≡ Some q → p < n → q < length program.insns → p < get_or sources.first.items q 0
  pub first_below : (q : ℕ) → get_or sources.first.items q 0 ≤ n
  pub first_of : (p q : ℕ) → get_or sources.first.items q 0 ≡ suc p → jump program p ≡ Some q
  pub next : (p s q : ℕ) → jump program p ≡ Some q → jump program s ≡ Some q → q < length program.insns → p < s → s < n
      → p < get_or sources.next.items s 0
  pub next_below : (s : ℕ) → get_or sources.next.items s 0 ≤ s
  pub next_of : (p s q : ℕ) → get_or sources.next.items s 0 ≡ suc p → jump program s ≡ Some q → jump program p ≡ Some q
  pub firsts : length sources.first.items ≡ length program.insns
  pub nexts : length sources.next.items ≡ length program.insns

-- One more jump.
pub record PutsSource (slot target : ℕ) (old new : Sources) : Type 0 where
  pub first : new.first.items ≡ slice_set old.first.items target (slot + 1)
  pub next : new.next.items ≡ slice_set old.next.items slot (get_or old.first.items target 0)
