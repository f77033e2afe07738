-- The refusals of command lines, with the numbers and texts that bpfdb prints. bpfdb's own choice.
use Rattle.std.specs.Prelude.{ℕ, List, ◌++◌}
use lib.Chars.{codes}
use Rattle.std.specs.Fmt.{decimal}
use Rattle.bpfdb_script.specs.declared.refusal.Refusal.{Refusal}
use Rattle.bpfdb_script.specs.declared.refusal.Refusal.TheVariants.{UnknownCommand, WrongArgument, MachineEnded, NoKeptStep, FewerCommands, AddressNotPresent, RegisterNotWritable, NoStart, OutermostFrame, TableFull, ThereOrNot, LineTooLong, NothingToRedo, NoCell, OutOfMemory}

-- Each has its number, which stands after Q, and its text.
abbrev pub refusal_row : Refusal → ℕ × List ℕ
refusal_row UnknownCommand = (1, codes "unknown command")
refusal_row WrongArgument = (2, codes "wrong argument")
refusal_row MachineEnded = (3, codes "the machine has ended")
refusal_row NoKeptStep = (4, codes "no kept step")
refusal_row FewerCommands = (5, codes "fewer kept commands")
refusal_row AddressNotPresent = (6, codes "address not present")
refusal_row RegisterNotWritable = (7, codes "register not writable")
refusal_row NoStart = (8, codes "no instruction starts there")
refusal_row OutermostFrame = (9, codes "outermost frame")
refusal_row TableFull = (10, codes "table is full")
refusal_row ThereOrNot = (11, codes "not there or already there")
refusal_row LineTooLong = (12, codes "line too long")
refusal_row NothingToRedo = (13, codes "nothing to redo")
refusal_row NoCell = (14, codes "no such cell or wrong length")
refusal_row OutOfMemory = (15, codes "out of memory")

abbrev pub number_of : Refusal → ℕ
number_of refusal = (refusal_row refusal).0

-- The line that answers a refused command, as `refused Q12: line too long`.
abbrev pub refusal_text : Refusal → List ℕ
refusal_text refusal =
    codes "refused Q" ++ decimal (number_of refusal) ++ codes ": " ++ (refusal_row refusal).1 ++ codes "\n"
