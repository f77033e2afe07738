-- What is said of the slots of a section, by the last ones of which something is said.
use Rattle.std.specs.Prelude.{ℕ, suc, nat_le, Bool, true, false, if◌then◌else◌, Option, Some, None, is_some}
use Rattle.bpf_btf.specs.Maps.{last_below}

-- The last slot below one of which something is said.
abbrev pub last_said : (ℕ → Option ℕ) → ℕ → Option ℕ
last_said says slot = last_below (λ k. is_some (says k)) slot

-- What is said of a slot, if there is one.
abbrev pub said_of : (ℕ → Option ℕ) → Option ℕ → Option ℕ
said_of says None = None
said_of says (Some slot) = says slot

-- A slot, if there is one, isn't before another, if there is one.
abbrev pub is_since : Option ℕ → Option ℕ → Bool
is_since None start = false
is_since (Some slot) None = true
is_since (Some slot) (Some start) = nat_le start slot

-- A line, where it is said which slots have which, unless a function begins behind it.
abbrev pub line_since : (ℕ → Option ℕ) → Option ℕ → Option ℕ → Option ℕ
line_since lines slot start = if is_since slot start then said_of lines slot else None

-- The function of a slot, where it is said in which slots functions begin: that which begins last up to it. And its line: the last one up to it.
abbrev pub function_of : (ℕ → Option ℕ) → ℕ → Option ℕ
function_of begins slot = said_of begins (last_said begins (suc slot))

abbrev pub line_of : (ℕ → Option ℕ) → (ℕ → Option ℕ) → ℕ → Option ℕ
line_of begins lines slot = line_since lines (last_said lines (suc slot)) (last_said begins (suc slot))
