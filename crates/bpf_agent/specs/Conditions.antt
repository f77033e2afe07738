-- The conditions of breakpoints: by the slot of each its bytecode.
use Rattle.std.specs.Prelude.{ℕ, ◌==◌, ◌++◌, not, nat_lt, if◌then◌else◌, Bool, false, List, [], ◌∷◌, length, filter, find, Option, Some, None}
use Rattle.std.specs.Option.{option_map, unwrap_or}
use Rattle.bpf_steps.specs.State.{State}
use Rattle.bpf_agent.specs.Expressions.{value}

-- In order of setting, at most one of a slot.
abbrev pub ConditionList : Type 0
ConditionList = List (ℕ × List ℕ)

-- How many are kept, and how many bytes one has at most: bpfdb's own choice.
abbrev pub most_conditions : ℕ
most_conditions = 64

abbrev pub longest_code : ℕ
longest_code = 255

-- The bytecode of a slot, which is empty where there is none, and then has no value.
abbrev pub code_at : ℕ → ConditionList → List ℕ
code_at slot cs = unwrap_or (option_map (λ c. c.1) (find (λ c. c.0 == slot) cs)) []

abbrev pub without : ℕ → ConditionList → ConditionList
without slot cs = filter (λ c. not (c.0 == slot)) cs

-- One that is too long, or for which there is no room, isn't kept.
abbrev pub added : ℕ → List ℕ → ConditionList → ConditionList
added slot code cs =
    if nat_lt longest_code (length code) then cs
    else if nat_lt (length cs) most_conditions then cs ++ (slot, code) ∷ []
    else cs

abbrev pub with_code : ℕ → List ℕ → ConditionList → ConditionList
with_code slot code cs = added slot code (without slot cs)

-- Whether the condition where the machine stands doesn't hold: its bytecode comes to 0. Without a value it isn't known, and so it isn't false.
abbrev pub is_zero : Option ℕ → Bool
is_zero (Some v) = v == 0
is_zero None = false

abbrev pub is_false : ConditionList → State → Bool
is_false cs x = is_zero (value (code_at x.pc cs) x)
