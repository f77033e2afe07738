-- What is told of the slots of a part of a program: which functions begin where, and which lines are listed for them.
use Rattle.std.specs.Prelude.{◌≡◌, ◌<◌, ◌⊎◌, ℕ, IfSome, Bool, true, false, List, Option, None, Ok, Err, length}
use Rattle.bpf_btf.specs.CoreRelocations.{AreBroken}
use Rattle.bpf_btf.specs.declared.fault.BtfFault.TheVariants.{Ext}
use Rattle.bpf_link.specs.FieldRelocations.{ext_bytes, ext_found, part_name}
use Rattle.bpf_link.specs.MapTypes.{is_something, name_from, types_bytes, types_found}
use Rattle.bpf_link.specs.Parts.{slots_in}
use Rattle.bpf_link.specs.declared.fault.LinkFault.{LinkFault}
use Rattle.bpf_link.specs.declared.fault.LinkFault.TheVariants.{Memory, Types}
use Rattle.bpf_link.specs.declared.parts.Part.{Part}
use Rattle.bpf_link.specs.declared.plan.Plan.{Plan}
use Rattle.bpf_lines.specs.Functions.{function_at}
use Rattle.bpf_lines.specs.LineInfo.{IsBlock, line_at, lines_in, strings_of}
use Rattle.bpf_lines.specs.Marks.{AreMarks}
use Rattle.bpf_lines.specs.declared.part_lines.PartLines.{PartLines}

-- The name of a part's section; none where it is longer than 255 bytes.
abbrev pub name_of : Plan → Part → List ℕ
name_of plan part = name_from plan.object.bytes (part_name plan part)

-- The block of lines of a part: that of its section in `.BTF.ext`; none where the object has no such section.
abbrev pub HasBlock : Bool → Plan → Part → List ℕ → Option ℕ → Type 0
HasBlock false plan part listed block = block ≡ None
HasBlock true plan part listed block =
    (lines_in (ext_bytes plan) ≡ Ok listed) × IsBlock (strings_of (types_bytes plan.object (types_found plan.object))) listed (name_of plan part) block

-- What is told of a part.
pub record ArePartLines (plan : Plan) (part : Part) (told : PartLines) : Type 0 where
  pub strings : told.strings ≡ strings_of (types_bytes plan.object (types_found plan.object))
  pub block : HasBlock (is_something (ext_found plan)) plan part told.listed told.block
  pub inside : IfSome told.block (λ at. at < length told.listed)
  pub functions : AreMarks (function_at plan part.section) told.functions.items
  pub lines : AreMarks (line_at told.listed told.block) told.lines.items
  pub begins : length told.functions.items ≡ slots_in part
  pub all : length told.lines.items ≡ slots_in part

-- Why nothing is told: the list of lines is malformed, or memory ran out.
pub record HasBadList (plan : Plan) (fault : LinkFault) : Type 0 where
  pub listed : is_something (ext_found plan) ≡ true
  pub told : fault ≡ Types Ext
  pub why : (lines_in (ext_bytes plan) ≡ Err Ext) ⊎ ((part : List ℕ) × (lines_in (ext_bytes plan) ≡ Ok part) × AreBroken part)

abbrev pub IsLinesFault : Plan → LinkFault → Type 0
IsLinesFault plan fault = (fault ≡ Memory) ⊎ HasBadList plan fault
