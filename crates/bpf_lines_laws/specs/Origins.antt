-- What the rows of a table tell of: the slots of the objects' code, in order.
use Rattle.std.specs.Prelude.{ℕ, suc, ◌+◌, ◌*◌, List, [], ◌∷◌, ◌++◌, slice_index}
use Rattle.bpf_link.specs.Objects.{below}
use Rattle.bpf_link.specs.Parts.{part_of, slots_in}
use Rattle.bpf_link.specs.declared.parts.Part.{Part}
use Rattle.bpf_link.specs.declared.parts.Side.{Side}
use Rattle.bpf_link.specs.declared.parts.Side.TheVariants.{Code, Text}
use Rattle.bpf_lines.specs.Rows.{row_by, said_in}
use Rattle.bpf_lines.specs.declared.objects.ObjectLines.{ObjectLines}
use Rattle.bpf_lines.specs.declared.part_lines.PartLines.{PartLines}

-- A slot of a section of an object: of the one with its code, or of `.text` behind that.
pub record Origin : Type 0 where
  pub lines : ObjectLines
  pub side : Side
  pub slot : ℕ

abbrev pub section_of : Origin → Part
section_of it = part_of it.lines.plan.parts it.side

-- One of its eight bytes, as it stands in its section.
abbrev pub own_byte : Origin → ℕ → ℕ
own_byte it k = slice_index (section_of it).slots (8 * it.slot + k)

-- What is told of a section.
abbrev pub told_of : ObjectLines → Side → PartLines
told_of lines Code = lines.code
told_of lines Text = lines.text

-- The row that tells of it as the slot of this number of the words.
abbrev pub row_of : List ℕ → ℕ → Origin → List ℕ
row_of words number it =
    let told = told_of it.lines it.side in row_by it.lines.plan told words number (said_in it.lines.plan (section_of it) told it.slot)

-- The slots of a section, and those of all sections of some objects, one behind another.
abbrev pub in_section : ObjectLines → Side → List Origin
in_section lines side =
    below (λ slot. record { lines = lines; side = side; slot = slot }) (slots_in (part_of lines.plan.parts side))

abbrev pub in_object : ObjectLines → List Origin
in_object lines = in_section lines Code ++ in_section lines Text

abbrev pub origins : List ObjectLines → List Origin
origins [] = []
origins (lines ∷ rest) = in_object lines ++ origins rest

-- The rows of some, of which the first one is the slot of this number, and each other one the slot after the one before it.
abbrev pub rows_from : List ℕ → ℕ → List Origin → List ℕ
rows_from words number [] = []
rows_from words number (it ∷ rest) = row_of words number it ++ rows_from words (suc number) rest
