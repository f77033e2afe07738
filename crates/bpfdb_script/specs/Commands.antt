-- The commands: what a line says. bpfdb's own choice.
use Rattle.std.specs.Prelude.{ℕ, List, [], ◌∷◌, length, Option, Some, None, Result, Ok, Err, if◌then◌else◌, nat_lt, nat_le, ◌&&◌}
use lib.Chars.{codes}
use Rattle.std.specs.Option.{option_map, option_and_then, ok_or}
use Rattle.std.specs.Result.{result_ok}
use Rattle.std.specs.Str.{bytes_eq}
use Rattle.hex.specs.Hex.{decode_of}
use Rattle.bpf_isa.specs.Registers.{register_named}
use Rattle.bpf_machine.specs.declared.edit.Edit.TheVariants as edit
use Rattle.bpfdb_script.specs.Limits.{greatest_count, greatest_span, longest_bytes, longest_line}
use Rattle.bpfdb_script.specs.Lines.{tokens, number}
use Rattle.bpfdb_script.specs.declared.command.Command.{Command}
use Rattle.bpfdb_script.specs.declared.command.Command.TheVariants as command
use Rattle.bpfdb_script.specs.declared.command.Goal.TheVariants as goal
use Rattle.bpfdb_script.specs.declared.command.Stop.TheVariants as stop
use Rattle.bpfdb_script.specs.declared.command.Target.TheVariants as target
use Rattle.bpfdb_script.specs.declared.command.View.TheVariants as view
use Rattle.bpfdb_script.specs.declared.refusal.Refusal.{Refusal}
use Rattle.bpfdb_script.specs.declared.refusal.Refusal.TheVariants.{UnknownCommand, WrongArgument, LineTooLong}

-- What the tokens after a name make of a command, None where one is wrong, missing or too many.
abbrev pub Arguments : Type 0
Arguments = List (List ℕ) → Option Command

-- No token.
abbrev pub bare : Command → Arguments
bare command [] = Some command
bare command (token ∷ more) = None

-- A number from 1 to the greatest.
abbrev pub number_within : ℕ → List ℕ → Option ℕ
number_within most token =
    option_and_then (λ n. if nat_le 1 n && nat_le n most then Some n else None) (number token)

-- A count, which is 1 where it is left out.
abbrev pub optional_count : List (List ℕ) → Option ℕ
optional_count [] = Some 1
optional_count (token ∷ []) = number_within greatest_count token
optional_count (token ∷ next ∷ more) = None

-- So many times the command.
abbrev pub counted : (ℕ → Command) → Arguments
counted command more = option_map command (optional_count more)

-- One number.
abbrev pub one_number : List (List ℕ) → Option ℕ
one_number (token ∷ []) = number token
one_number _ = None

abbrev pub numbered : (ℕ → Command) → Arguments
numbered command more = option_map command (one_number more)

-- A number, and how much is shown from there on.
abbrev pub number_and_span : List (List ℕ) → Option (ℕ × ℕ)
number_and_span (token ∷ span ∷ []) =
    option_and_then (λ n. option_map (λ most. (n, most)) (number_within greatest_span span)) (number token)
number_and_span _ = None

abbrev pub spanned : (ℕ → ℕ → Command) → Arguments
spanned command more = option_map (λ p. command p.0 p.1) (number_and_span more)

-- Bytes as hexadecimal digits of either case, two a byte: 1 to 256 bytes.
abbrev pub byte_string : List ℕ → Option (List ℕ)
byte_string bytes = if nat_le 1 (length bytes) && nat_le (length bytes) longest_bytes then Some bytes else None

abbrev pub bytes_of : List ℕ → Option (List ℕ)
bytes_of token = option_and_then byte_string (result_ok (decode_of token))

-- `set reg`: a register and a number.
abbrev pub set_register : Arguments
set_register (token ∷ value ∷ []) =
    option_and_then (λ r. option_map (λ n. command.Edit (edit.Register r n)) (number value)) (register_named token)
set_register _ = None

-- `set mem`: an address and bytes.
abbrev pub set_bytes : Arguments
set_bytes (token ∷ digits ∷ []) =
    option_and_then (λ address. option_map (λ bytes. command.Edit (edit.Bytes address bytes)) (bytes_of digits)) (number token)
set_bytes _ = None

-- `set cell`: a map, an index and bytes.
abbrev pub set_cell : Arguments
set_cell (token ∷ place ∷ digits ∷ []) =
    option_and_then (λ map. option_and_then (λ index. option_map (λ bytes. command.Edit (edit.Cell map index bytes)) (bytes_of digits)) (number place)) (number token)
set_cell _ = None

-- Names, each with the tokens that may follow it.
abbrev pub Table : Type 0
Table = List (List ℕ × Arguments)

-- What may follow a name, None where the table doesn't have it.
abbrev pub arguments_of : Table → List ℕ → Option Arguments
arguments_of [] name = None
arguments_of (row ∷ rows) name = if bytes_eq name row.0 then Some row.1 else arguments_of rows name

-- A name of the table and the tokens that may follow it.
unfoldable pub one_of : Table → Arguments
one_of table [] = None
one_of table (name ∷ more) = option_and_then (λ arguments. arguments more) (arguments_of table name)

-- What `set` changes.
abbrev pub settings : Table
settings =
    (codes "reg", set_register)
    ∷ (codes "mem", set_bytes)
    ∷ (codes "cell", set_cell)
    ∷ (codes "pc", numbered (λ slot. command.Edit (edit.Pc slot)))
    ∷ []

-- What `info` shows.
abbrev pub infos : Table
infos =
    (codes "regs", bare (command.Show view.Registers))
    ∷ (codes "frames", bare (command.Show view.Frames))
    ∷ (codes "breaks", bare (command.Show view.Breaks))
    ∷ (codes "history", bare (command.Show view.History))
    ∷ (codes "trace", bare (command.Show view.Trace))
    ∷ []

-- The commands by their first tokens.
abbrev pub commands : Table
commands =
    (codes "stepi", counted (λ count. command.Forward (goal.Steps count)))
    ∷ (codes "nexti", bare (command.Forward goal.Next))
    ∷ (codes "continue", bare (command.Forward goal.Continue))
    ∷ (codes "finish", bare (command.Forward goal.Finish))
    ∷ (codes "undo", counted (λ count. command.Back (target.Commands count)))
    ∷ (codes "reverse-stepi", counted (λ count. command.Back (target.Steps count)))
    ∷ (codes "reverse-nexti", bare (command.Back target.Next))
    ∷ (codes "reverse-continue", bare (command.Back target.Continue))
    ∷ (codes "rc", bare (command.Back target.Continue))
    ∷ (codes "reverse-finish", bare (command.Back target.Finish))
    ∷ (codes "redo", counted (λ count. command.Redo count))
    ∷ (codes "set", one_of settings)
    ∷ (codes "break", numbered (λ slot. command.Add (stop.Breakpoint slot)))
    ∷ (codes "delete", numbered (λ slot. command.Remove (stop.Breakpoint slot)))
    ∷ (codes "watch", numbered (λ address. command.Add (stop.Watch address)))
    ∷ (codes "unwatch", numbered (λ address. command.Remove (stop.Watch address)))
    ∷ (codes "info", one_of infos)
    ∷ (codes "x", spanned (λ address span. command.Show (view.Bytes address span)))
    ∷ (codes "disas", spanned (λ slot span. command.Show (view.Instructions slot span)))
    ∷ (codes "last-write", numbered (λ address. command.Show (view.LastWrite address)))
    ∷ (codes "quit", bare command.Quit)
    ∷ []

-- An unknown name, or its tokens right or wrong.
abbrev pub outcome : Option Arguments → List (List ℕ) → Result Command Refusal
outcome None more = Err UnknownCommand
outcome (Some arguments) more = ok_or (arguments more) WrongArgument

-- What a name and the tokens after it say.
unfoldable pub command_named : List ℕ → List (List ℕ) → Result Command Refusal
command_named name more = outcome (arguments_of commands name) more

-- What a line says: nothing, a command or a refusal.
abbrev pub Answer : Type 0
Answer = Result (Option Command) Refusal

abbrev pub as_answer : Result Command Refusal → Answer
as_answer (Ok command) = Ok (Some command)
as_answer (Err refusal) = Err refusal

-- No tokens say nothing; else the first is the command's name.
abbrev pub command_of_tokens : List (List ℕ) → Answer
command_of_tokens [] = Ok None
command_of_tokens (name ∷ more) = as_answer (command_named name more)

-- A line that is too long is refused, whatever its tokens.
unfoldable pub command_of : List ℕ → Answer
command_of line = if nat_lt longest_line (length line) then Err LineTooLong else command_of_tokens (tokens line)
