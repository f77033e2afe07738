-- Registers before the first step, as a section sets them: a line each, as `r3 = 5`. bpfdb's own choice.
use Rattle.std.specs.Prelude.{ℕ, ◌≡◌, Bool, ◌==◌, ◌||◌, nat_lt, if◌then◌else◌, List, [], ◌∷◌, length, filter_map, Option, Some, None, is_some}
use Rattle.std.specs.List.{list_all, list_any}
use Rattle.std.specs.Option.{option_and_then, option_map}
use Rattle.counted_io.specs.Cuts.{after, before}
use Rattle.counted_io.specs.Lines.{trim_start}
use Rattle.bpf_isa.specs.Registers.{register_named}
use Rattle.bpf_machine.specs.Edits.{edited}
use Rattle.bpf_machine.specs.declared.edit.Edit.TheVariants as edit
use Rattle.bpf_steps.specs.State.{State}
use Rattle.bpf_suite.specs.Bodies.{number_of, trimmed}
use Rattle.bpf_suite.specs.Cells.{lines}
use Rattle.bpf_suite.specs.declared.regs.RegLine.{RegLine}

-- The register that a text names, of those that can be set: r10 can't.
abbrev pub below_ten : ℕ → Option ℕ
below_ten r = if nat_lt r 10 then Some r else None

abbrev pub register_in : List ℕ → Option ℕ
register_in text = option_and_then below_ten (register_named (trimmed text))

-- What a line sets: the register in front of its first equals sign (61) to the number behind that.
abbrev pub reg_of : Option ℕ → Option ℕ → Option RegLine
reg_of register value = option_and_then (λ r. option_map (λ n. record { register = r; value = n }) value) register

abbrev pub reg_line : List ℕ → Option RegLine
reg_line line = reg_of (register_in (before 61 line)) (number_of (after 61 line))

abbrev pub reg_lines : List ℕ → List RegLine
reg_lines body = filter_map reg_line (lines body)

-- Whether each line of a section is blank, or sets a register.
abbrev pub is_reg_line : List ℕ → Bool
is_reg_line line = length (trim_start line) == 0 || is_some (reg_line line)

abbrev pub are_regs : List ℕ → Bool
are_regs body = list_all is_reg_line (lines body)

-- Registers get their numbers, one after another, as `set reg` of the debugger gives them; r10 keeps its own.
abbrev pub with_reg : RegLine → State → State
with_reg line x = if nat_lt line.register 10 then edited x (edit.Register line.register line.value) else x

abbrev pub with_regs : List RegLine → State → State
with_regs [] x = x
with_regs (line ∷ more) x = with_regs more (with_reg line x)

-- The lines that count: of each register the last.
abbrev pub names_again : RegLine → List RegLine → Bool
names_again line more = list_any (λ other. other.register == line.register) more

abbrev pub last_lines : List RegLine → List RegLine
last_lines [] = []
last_lines (line ∷ more) = if names_again line more then last_lines more else line ∷ last_lines more

-- By these registers get the same numbers as by all lines (law).
abbrev pub LastLinesCount : Type 0
LastLinesCount = (lines : List RegLine) (x : State) → with_regs (last_lines lines) x ≡ with_regs lines x
