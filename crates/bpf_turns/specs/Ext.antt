-- What `.BTF.ext` of a turned object tells of its instructions: functions, lines, and relocations of fields.
use Rattle.std.specs.Prelude.{◌≡◌, ◌<◌, ◌⊎◌, ℕ, ◌+◌, ◌*◌, nat_le, nat_lt, Bool, true, false, if◌then◌else◌, List, [], ◌∷◌, ◌++◌, Option, Some, None, Result, Ok, Err, length, slice_index, slice_range}
use Rattle.bpf_isa.specs.Words.{u32_at}
use Rattle.bpf_btf.specs.CoreRelocations.{begins}
use Rattle.bpf_btf.specs.Layout.{ext_header, is_called}
use Rattle.bpf_btf.specs.Maps.{last_below}
use Rattle.bpf_btf.specs.Sections.{strings_at}
use Rattle.bpf_btf.specs.declared.fault.BtfFault.TheVariants.{Ext}
use Rattle.bpf_join.specs.Gathered.{gathered}
use Rattle.bpf_link.specs.FieldRelocations.{ext_bytes, ext_found}
use Rattle.bpf_link.specs.MapTypes.{is_something, types_bytes, types_found}
use Rattle.bpf_link.specs.Objects.{provided}
use Rattle.bpf_link.specs.declared.fault.LinkFault.{LinkFault}
use Rattle.bpf_link.specs.declared.fault.LinkFault.TheVariants.{Memory, Types}
use Rattle.bpf_link.specs.declared.plan.Plan.{Plan}
use Rattle.bpf_turns.specs.Blocks.{IsListFault, IsMovedList, code_name, number}
use Rattle.bpf_turns.specs.Objects.{into}
use Rattle.bpf_turns.specs.declared.calls.Call.{Call}

-- The strings of `.BTF`, by str_off and str_len of its header, which count from hdr_len on; none where they don't lie in it.
abbrev pub strings_in : List ℕ → List ℕ
strings_in btf =
    if nat_le 24 (length btf) then (if nat_le (strings_at btf + u32_at btf 20) (length btf)
    then slice_range btf (strings_at btf) (strings_at btf + u32_at btf 20) else []) else []

abbrev pub strings_of : Plan → List ℕ
strings_of plan = strings_in (types_bytes plan.object (types_found plan.object))

-- Where the name of a section of code stands among them.
abbrev pub name_place : List ℕ → List ℕ → Option ℕ
name_place strings name = last_below (λ at. is_called strings at name) (length strings)

abbrev pub place_of : Plan → ℕ → Option ℕ
place_of plan section = name_place (strings_of plan) (code_name plan.object section)

-- The list of functions, 0, of lines, 1, and of fields, 2: by an offset, which counts from hdr_len on, and a length in the header. A header that ends before
-- these has no such list.
abbrev pub list_at : List ℕ → ℕ → ℕ
list_at ext k = u32_at ext 4 + u32_at ext (8 + 8 * k)

abbrev pub list_end : List ℕ → ℕ → ℕ
list_end ext k = list_at ext k + u32_at ext (12 + 8 * k)

abbrev pub list_in : List ℕ → ℕ → Result (List ℕ) LinkFault
list_in ext k =
    provided (begins ext (ext_header ext)) (Types Ext)
    (if nat_lt (u32_at ext 4) (16 + 8 * k) then Ok []
    else provided (nat_le (list_end ext k) (length ext)) (Types Ext) (Ok (slice_range ext (list_at ext k) (list_end ext k))))

-- That list, moved.
abbrev pub IsMovedPart : Plan → List Call → ℕ → ℕ → List ℕ → Type 0
IsMovedPart plan calls name k moved =
    (listed : List ℕ) × (list_in (ext_bytes plan) k ≡ Ok listed) × IsMovedList plan.object (strings_of plan) calls name listed moved

-- The section: magic, version and flags as they were, hdr_len, an offset and a length of each list, and these.
abbrev pub numbers : List ℕ → List ℕ
numbers list = gathered (λ i. number (slice_index list i)) (length list)

abbrev pub head_of : List ℕ → ℕ → ℕ → ℕ → List ℕ
head_of ext functions lines fields =
    slice_range ext 0 4 ++ numbers (32 ∷ (0 ∷ (functions ∷ (functions ∷ (lines ∷ ((functions + lines) ∷ (fields ∷ [])))))))

abbrev pub ext_of : List ℕ → List ℕ → List ℕ → List ℕ → List ℕ
ext_of ext functions lines fields = head_of ext (length functions) (length lines) (length fields) ++ (functions ++ (lines ++ fields))

pub record IsMovedExt (plan : Plan) (calls : List Call) (moved : List ℕ) : Type 0 where
  pub name : ℕ
  pub is_name : place_of plan (into calls) ≡ Some name
  pub functions : List ℕ
  pub are_functions : IsMovedPart plan calls name 0 functions
  pub lines : List ℕ
  pub are_lines : IsMovedPart plan calls name 1 lines
  pub fields : List ℕ
  pub are_fields : IsMovedPart plan calls name 2 fields
  pub moved_is : moved ≡ ext_of (ext_bytes plan) functions lines fields

-- An object without such a section gets none.
abbrev pub ExtIf : Bool → Plan → List Call → List ℕ → Type 0
ExtIf false plan calls moved = moved ≡ []
ExtIf true plan calls moved = IsMovedExt plan calls moved

abbrev pub HasMovedExt : Plan → List Call → List ℕ → Type 0
HasMovedExt plan calls moved = ExtIf (is_something (ext_found plan)) plan calls moved

-- Why it isn't moved: a list is malformed, or no string of `.BTF` is the name of the section in which all code stands.
abbrev pub IsPartFault : List ℕ → ℕ → LinkFault → Type 0
IsPartFault ext k fault =
    ((fault ≡ Types Ext) × (list_in ext k ≡ Err (Types Ext)))
    ⊎ ((listed : List ℕ) × (list_in ext k ≡ Ok listed) × IsListFault listed fault)

abbrev pub IsListsFault : Plan → LinkFault → Type 0
IsListsFault plan fault = (fault ≡ Memory) ⊎ ((k : ℕ) × (k < 3) × IsPartFault (ext_bytes plan) k fault)

pub record IsUnmoved (plan : Plan) (calls : List Call) (fault : LinkFault) : Type 0 where
  pub some : is_something (ext_found plan) ≡ true
  pub why : ((fault ≡ Types Ext) × (place_of plan (into calls) ≡ None)) ⊎ IsListsFault plan fault
