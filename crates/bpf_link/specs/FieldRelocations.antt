-- The relocations of fields (CO-RE) of the code that comes out, by the sections `.BTF` and `.BTF.ext` of the object.
use Rattle.std.specs.Prelude.{◌≡◌, ◌⊎◌, ℕ, ◌+◌, ◌/◌, ◌==◌, nat_lt, min, Bool, true, false, if◌then◌else◌, List, Ok, Err, length, codes}
use Rattle.bpf_btf.specs.CoreRelocations.{AreRelocations, IsExtFault}
use Rattle.bpf_btf.specs.Sections.{IsRead}
use Rattle.bpf_btf.specs.Types.{Types}
use Rattle.bpf_btf.specs.declared.core_relocations.CoreRelocations.{CoreRelocations}
use Rattle.bpf_btf.specs.declared.fault.BtfFault.{BtfFault}
use Rattle.bpf_link.specs.declared.fault.LinkFault.{LinkFault}
use Rattle.bpf_link.specs.declared.fault.LinkFault.TheVariants as link
use Rattle.bpf_link.specs.declared.field_relocations.FieldRelocations.{FieldRelocations}
use Rattle.bpf_link.specs.declared.parts.Part.{Part}
use Rattle.bpf_link.specs.declared.parts.Side.{Side}
use Rattle.bpf_link.specs.declared.parts.Side.TheVariants.{Code, Text}
use Rattle.bpf_link.specs.declared.plan.Plan.{Plan}
use Rattle.bpf_link.specs.declared.sections.Found.{Found}
use Rattle.bpf_link.specs.Links.{planned}
use Rattle.bpf_link.specs.MapTypes.{found_named, is_something, name_from, types_bytes, types_found}
use Rattle.bpf_link.specs.Parts.{first_of, part_of, slots_in}
use Rattle.bpf_link.specs.Plans.{part_place}
use Rattle.bpf_link.specs.Refusals.{HasReadFault}

-- The section that lists them, and its bytes.
abbrev pub ext_found : Plan → Found
ext_found plan = found_named plan.object (codes ".BTF.ext")

abbrev pub ext_bytes : Plan → List ℕ
ext_bytes plan = types_bytes plan.object (ext_found plan)

-- Where a name stands in the file, if it has at most 255 bytes; else the file's end, where there is none.
abbrev pub short_name : List ℕ → ℕ → ℕ
short_name bytes at = if nat_lt 255 (length (name_from bytes at)) then length bytes else at

abbrev pub part_name : Plan → Part → ℕ
part_name plan part = short_name plan.object.bytes (part_place plan part)

-- No relocation.
abbrev pub no_fields : FieldRelocations
no_fields = record { count = 0; slot = 0; at = 0 }

-- Those of a part: the slot counts in the program, whose slots of 8 bytes begin where the part does.
abbrev pub fields_at : ℕ → ℕ → CoreRelocations → FieldRelocations
fields_at first at sum = record { count = sum.count; slot = first + sum.first / 8; at = at }

abbrev pub ListedFields : Plan → List ℕ → Side → FieldRelocations → Type 0
ListedFields plan strings side fields = (sum : CoreRelocations)
    × AreRelocations strings (ext_bytes plan) (name_from plan.object.bytes (part_name plan (part_of plan.parts side))) sum
    × (fields ≡ fields_at (first_of plan.parts side) (part_name plan (part_of plan.parts side)) sum)

-- A part without slots, which isn't called, has none.
abbrev pub PartFields : Bool → Plan → List ℕ → Side → FieldRelocations → Type 0
PartFields true plan strings side fields = fields ≡ no_fields
PartFields false plan strings side fields = ListedFields plan strings side fields

-- Those of both parts: how many, at most 2^32 - 1, and the first.
abbrev pub both_fields : FieldRelocations → FieldRelocations → FieldRelocations
both_fields code text =
    if code.count == 0 then text else record { count = min (code.count + text.count) 4294967295; slot = code.slot; at = code.at }

-- What BTF lists of the code that comes out.
pub record CountedFields (plan : Plan) (fields : FieldRelocations) : Type 0 where
  pub types : Types
  pub read : IsRead (types_bytes plan.object (types_found plan.object)) types
  pub code : FieldRelocations
  pub of_code : PartFields (slots_in plan.parts.code == 0) plan types.strings Code code
  pub text : FieldRelocations
  pub of_text : PartFields (slots_in plan.parts.text == 0) plan types.strings Text text
  pub all : fields ≡ both_fields code text

-- An object without such a section has none.
abbrev pub PlanFields : Bool → Plan → FieldRelocations → Type 0
PlanFields false plan fields = fields ≡ no_fields
PlanFields true plan fields = CountedFields plan fields

abbrev pub HasFields : List ℕ → List ℕ → FieldRelocations → Type 0
HasFields object name fields = (plan : Plan) × (planned object name ≡ Ok plan)
    × PlanFields (is_something (ext_found plan)) plan fields

-- They aren't counted: `.BTF` isn't read, or `.BTF.ext` isn't.
pub record HasExtFault (plan : Plan) (fault : LinkFault) : Type 0 where
  pub why : BtfFault
  pub told : fault ≡ link.Types why
  pub unread : IsExtFault (ext_bytes plan) why

abbrev pub IsCountFault : Plan → LinkFault → Type 0
IsCountFault plan fault = (fault ≡ link.Memory) ⊎ (HasReadFault plan fault ⊎ HasExtFault plan fault)

pub record HasCountFault (object name : List ℕ) (fault : LinkFault) : Type 0 where
  pub plan : Plan
  pub plans : planned object name ≡ Ok plan
  pub listed : is_something (ext_found plan) ≡ true
  pub why : IsCountFault plan fault

-- There are some, and they aren't to be left as compiled.
pub record HasFieldsLeft (object name : List ℕ) (as_compiled : Bool) (fault : LinkFault) : Type 0 where
  pub fields : FieldRelocations
  pub counted : HasFields object name fields
  pub some : (fields.count == 0) ≡ false
  pub refused : as_compiled ≡ false
  pub told : fault ≡ link.Fields fields.count fields.slot fields.at

-- Why fields aren't left as compiled.
abbrev pub IsFieldsFault : List ℕ → List ℕ → Bool → LinkFault → Type 0
IsFieldsFault object name as_compiled fault =
    (planned object name ≡ Err fault) ⊎ (HasCountFault object name fault ⊎ HasFieldsLeft object name as_compiled fault)

-- So many fields are left as compiled: none unless that is asked for.
pub record AreLeft (object name : List ℕ) (as_compiled : Bool) (count : ℕ) : Type 0 where
  pub fields : FieldRelocations
  pub counted : HasFields object name fields
  pub count_is : count ≡ fields.count
  pub allowed : (count ≡ 0) ⊎ (as_compiled ≡ true)
