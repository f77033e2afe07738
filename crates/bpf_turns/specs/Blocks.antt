-- A list of `.BTF.ext` (the kernel's document 'BPF Type Format (BTF)', section 4.2), moved with the instructions whose places it tells.
use Rattle.std.specs.Prelude.{◌≡◌, ◌⊎◌, ℕ, suc, ◌+◌, ◌*◌, ◌/◌, ◌==◌, nat_le, nat_lt, min, Bool, true, false, ◌&&◌, if◌then◌else◌, List, [], ◌++◌, Option, Some, None, get_or, length, position, slice_range}
use Rattle.byteorder.specs.Endian.{little_bytes}
use Rattle.bpf_isa.specs.Words.{u32_at}
use Rattle.bpf_btf.specs.CoreRelocations.{HasCutBlock, block_place}
use Rattle.bpf_btf.specs.Layout.{is_called}
use Rattle.bpf_btf.specs.declared.fault.BtfFault.TheVariants.{Ext}
use Rattle.bpf_join.specs.Gathered.{gathered}
use Rattle.bpf_link.specs.FieldRelocations.{short_name}
use Rattle.bpf_link.specs.MapTypes.{name_from}
use Rattle.bpf_link.specs.Objects.{Elf, section_at}
use Rattle.bpf_link.specs.Sections.{section_place}
use Rattle.bpf_link.specs.declared.fault.LinkFault.{LinkFault}
use Rattle.bpf_link.specs.declared.fault.LinkFault.TheVariants.{Memory, Types}
use Rattle.bpf_turns.specs.Calls.{no_call}
use Rattle.bpf_turns.specs.Objects.{turned_place}
use Rattle.bpf_turns.specs.declared.calls.Call.{Call}

-- A number of 32 bits, the low byte first; the greatest one in place of a greater one.
abbrev pub number : ℕ → List ℕ
number n = little_bytes 4 (min n 4294967295)

-- The name of a section of code, as `link` looks for it in such a list: none where it has more than 255 bytes.
abbrev pub code_name : Elf → ℕ → List ℕ
code_name object section =
    if nat_lt section (length object.sections)
    then name_from object.bytes (short_name object.bytes (section_place object (section_at object section))) else []

-- A record begins with the place of its instruction in its section, which is where that stands now.
abbrev pub moved_record : Elf → Call → List ℕ → List ℕ
moved_record object call raw = number (turned_place object call (u32_at raw 0)) ++ slice_range raw 4 (length raw)

-- Records of a size, one behind another.
abbrev pub moved_records : Elf → Call → ℕ → List ℕ → List ℕ
moved_records object call size records =
    gathered (λ j. moved_record object call (slice_range records (size * j) (size * j + size))) (length records / size)

-- A block has the name of a section, the number of its records, and these. It is of a call, the first one from a section of that name, or of none.
abbrev pub block_call : Elf → List ℕ → List Call → List ℕ → Option ℕ
block_call object strings calls block = position (λ call. is_called strings (u32_at block 0) (code_name object call.section)) calls

abbrev pub records_of : Elf → List Call → ℕ → List ℕ → Option ℕ → List ℕ
records_of object calls size block None = []
records_of object calls size block (Some k) = moved_records object (get_or calls k no_call) size (slice_range block 8 (length block))

abbrev pub rest_of : List ℕ → Option ℕ → List ℕ
rest_of block None = block
rest_of block (Some k) = []

-- The k-th block of a list.
abbrev pub block_at : List ℕ → ℕ → List ℕ
block_at listed k = slice_range listed (block_place listed k) (block_place listed (suc k))

-- The records of all blocks that are of calls, and the blocks that are of none, of the first n.
abbrev pub records_at : Elf → List ℕ → List Call → List ℕ → ℕ → List ℕ
records_at object strings calls listed k =
    let block = block_at listed k in records_of object calls (u32_at listed 0) block (block_call object strings calls block)

abbrev pub rest_at : Elf → List ℕ → List Call → List ℕ → ℕ → List ℕ
rest_at object strings calls listed k = let block = block_at listed k in rest_of block (block_call object strings calls block)

-- They are one block, by the place of a name among the strings: that of the section in which all code stands.
abbrev pub one_block : ℕ → ℕ → List ℕ → List ℕ
one_block name size records = if length records == 0 then [] else number name ++ (number (length records / size) ++ records)

-- A list begins with the size of a record, at least 8, and its blocks go up to its end.
abbrev pub is_sized : List ℕ → Bool
is_sized listed = nat_le 4 (length listed) && nat_le 8 (u32_at listed 0)

pub record AreBlocks (listed : List ℕ) (n : ℕ) : Type 0 where
  pub sized : is_sized listed ≡ true
  pub all : block_place listed n ≡ length listed

pub record IsMoved (object : Elf) (strings : List ℕ) (calls : List Call) (name : ℕ) (listed moved : List ℕ) : Type 0 where
  pub n : ℕ
  pub blocks : AreBlocks listed n
  pub moved_is : moved ≡ slice_range listed 0 4
      ++ (one_block name (u32_at listed 0) (gathered (records_at object strings calls listed) n) ++ gathered (rest_at object strings calls listed) n)

-- An empty one stays so.
abbrev pub MovedIf : Bool → Elf → List ℕ → List Call → ℕ → List ℕ → List ℕ → Type 0
MovedIf true object strings calls name listed moved = moved ≡ []
MovedIf false object strings calls name listed moved = IsMoved object strings calls name listed moved

abbrev pub IsMovedList : Elf → List ℕ → List Call → ℕ → List ℕ → List ℕ → Type 0
IsMovedList object strings calls name listed moved = MovedIf (length listed == 0) object strings calls name listed moved

-- Why it isn't moved: its records are too short, or a block is cut off; or memory ran out.
abbrev pub IsBroken : List ℕ → Type 0
IsBroken listed = (is_sized listed ≡ false) ⊎ HasCutBlock listed

abbrev pub IsListFault : List ℕ → LinkFault → Type 0
IsListFault listed fault = (fault ≡ Memory) ⊎ ((fault ≡ Types Ext) × IsBroken listed)
