-- The table of a program that was linked: the rows of the objects that it comes from.
use Rattle.std.specs.Prelude.{◌≡◌, ◌⊎◌, ◌<◌, ℕ, ◌+◌, ◌*◌, ◌/◌, ◌==◌, if◌then◌else◌, List, [], ◌∷◌, ◌++◌, Option, Some, None, Ok, Err, codes, get_or, length, sum_by, take}
use Rattle.std.specs.List.{AllZip}
use Rattle.bpf_link.specs.Links.{planned}
use Rattle.bpf_link.specs.Parts.{slots_in}
use Rattle.bpf_link.specs.declared.fault.LinkFault.{LinkFault}
use Rattle.bpf_link.specs.declared.plan.Plan.{Plan}
use Rattle.bpf_packet.specs.Entry.{entry_words}
use Rattle.bpf_packet.specs.declared.packet.Packet.{Packet}
use Rattle.bpf_lines.specs.Parts.{ArePartLines, IsLinesFault}
use Rattle.bpf_lines.specs.Rows.{rows}
use Rattle.bpf_lines.specs.declared.objects.LinesFault.{LinesFault}
use Rattle.bpf_lines.specs.declared.objects.ObjectLines.{ObjectLines}

-- What is told of the slots of a section of an object, and of `.text` where that calls it; or why nothing is.
pub record HasPartLines (lines : ObjectLines) : Type 0 where
  pub code : ArePartLines lines.plan lines.plan.parts.code lines.code
  pub text : ArePartLines lines.plan lines.plan.parts.text lines.text

pub record AreLinesOf (object section : List ℕ) (lines : ObjectLines) : Type 0 where
  pub plans : planned object section ≡ Ok lines.plan
  pub told : HasPartLines lines

abbrev pub IsLinesRefusal : List ℕ → List ℕ → LinkFault → Type 0
IsLinesRefusal object section fault = (planned object section ≡ Err fault) ⊎ ((plan : Plan) × (planned object section ≡ Ok plan) × IsLinesFault plan fault)

-- What is told of the functions of each of some objects, in their order.
abbrev pub AreFunctions : List (List ℕ) → List ObjectLines → Type 0
AreFunctions objects all = AllZip (λ object lines. AreLinesOf object (codes ".text") lines) objects all

-- It stands behind what is told of those before.
pub record AreBehind (before : List ObjectLines) (objects : List (List ℕ)) (all : List ObjectLines) : Type 0 where
  pub more : List ObjectLines
  pub functions : AreFunctions objects more
  pub order : all ≡ before ++ more

-- Why nothing is told: for the functions of the first of the objects of which that isn't.
pub record IsFunctionsRefusal (objects : List (List ℕ)) (told : LinesFault) : Type 0 where
  pub at : ℕ
  pub index : told.index ≡ Some at
  pub inside : at < length objects
  pub before : List ObjectLines
  pub are_before : AreFunctions (take at objects) before
  pub object : told.object ≡ get_or objects at []
  pub why : IsLinesRefusal told.object (codes ".text") told.fault

-- What is told of a program: of a section of its object, and of the functions of those that are joined to it; or why nothing is.
pub record AreProgramLines (object section : List ℕ) (others : List (List ℕ)) (all : List ObjectLines) : Type 0 where
  pub own : ObjectLines
  pub first : AreLinesOf object section own
  pub behind : AreBehind (own ∷ []) others all

abbrev pub IsOwnLinesFault : List ℕ → List ℕ → LinesFault → Type 0
IsOwnLinesFault object section told = (told.index ≡ None) × (told.object ≡ object) × IsLinesRefusal object section told.fault

abbrev pub IsProgramLinesFault : List ℕ → List ℕ → List (List ℕ) → LinesFault → Type 0
IsProgramLinesFault object section others told =
    IsOwnLinesFault object section told ⊎ (((own : ObjectLines) × AreLinesOf object section own) × IsFunctionsRefusal others told)

-- How many slots an object has.
abbrev pub slots_of : ObjectLines → ℕ
slots_of lines = slots_in lines.plan.parts.code + slots_in lines.plan.parts.text

-- How many the first of several has.
abbrev pub own_slots : List ObjectLines → ℕ
own_slots [] = 0
own_slots (own ∷ others) = slots_of own

-- Its rows, whose first slot is one of the program's words.
abbrev pub object_rows : ObjectLines → List ℕ → ℕ → List ℕ
object_rows lines words first =
    let parts = lines.plan.parts in
    rows lines.plan parts.code lines.code words first (slots_in parts.code)
    ++ rows lines.plan parts.text lines.text words (first + slots_in parts.code) (slots_in parts.text)

-- The rows of several objects, of which each begins where the one before it ends.
abbrev pub rows_of_all : List ObjectLines → List ℕ → ℕ → List ℕ
rows_of_all [] words first = []
rows_of_all (lines ∷ rest) words first = object_rows lines words first ++ rows_of_all rest words (first + slots_of lines)

-- How many slots stand before the program itself: those that give it its packet, where it is asked to take one by a struct of the kernel's.
abbrev pub entry_slots : Option Packet → ℕ
entry_slots None = 0
entry_slots (Some packet) = length (entry_words packet) / 8

-- The slot at which so many slots of code begin, behind those. Where the words are more, a jump stands between, and the setup behind the code.
abbrev pub begin_of : Option Packet → List ℕ → ℕ → ℕ
begin_of packet words count =
    if length words == 8 * (entry_slots packet + count) then entry_slots packet else entry_slots packet + 1

-- The table of a program that was linked, with such a packet or none, of one object, or of several that were joined.
abbrev pub program_table : Option Packet → List ℕ → List ObjectLines → List ℕ
program_table packet words all = rows_of_all all words (begin_of packet words (sum_by slots_of all))
