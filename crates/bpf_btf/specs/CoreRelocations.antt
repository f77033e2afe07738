-- The relocations of fields that a section `.BTF.ext` lists for each section of code (the kernel's document 'BPF Type Format (BTF)', section 4.2).
use Rattle.std.specs.Prelude.{◌≡◌, ◌<◌, ◌⊎◌, ℕ, zero, suc, ◌+◌, ◌*◌, ◌==◌, nat_le, nat_lt, min, Bool, true, false, ◌&&◌, ◌||◌, if◌then◌else◌, List, [], length, slice_range, Result, Ok, Err}
use Rattle.bpf_isa.specs.Words.{u32_at}
use Rattle.bpf_btf.specs.declared.fault.BtfFault.{BtfFault}
use Rattle.bpf_btf.specs.declared.fault.BtfFault.TheVariants.{Ext}
use Rattle.bpf_btf.specs.declared.layout.ExtHeader.{ExtHeader}
use Rattle.bpf_btf.specs.declared.core_relocations.CoreRelocations.{CoreRelocations}
use Rattle.bpf_btf.specs.Layout.{is_called, ext_header}
use Rattle.bpf_btf.specs.Faults.{provided}

-- The section begins with a header of at least 24 bytes.
abbrev pub begins : List ℕ → ExtHeader → Bool
begins bytes header = nat_le 24 (length bytes) && ((header.magic == 0xeb9f) && ((header.version == 1) && nat_le 24 header.size))

-- The part of the section that lists them. A header of less than 32 bytes names none.
abbrev pub listed_by : List ℕ → ExtHeader → Result (List ℕ) BtfFault
listed_by bytes header =
    provided (begins bytes header) Ext
    (if nat_lt header.size 32 then Ok []
    else provided (nat_le (header.size + header.cores_at + header.cores_size) (length bytes)) Ext
    (Ok (slice_range bytes (header.size + header.cores_at) (header.size + header.cores_at + header.cores_size))))

-- It begins with the size of an entry, at least 16.
abbrev pub has_entries : List ℕ → Bool
has_entries listed = (length listed == 0) || nat_le 16 (u32_at listed 0)

-- Then comes a block for each section of code: its name, how many entries it has, and these, each of which begins with the place of an instruction in bytes.
abbrev pub block_end : List ℕ → ℕ → ℕ
block_end listed at = at + (8 + u32_at listed (at + 4) * u32_at listed 0)

-- Where the n-th block stands.
abbrev pub block_place : List ℕ → ℕ → ℕ
block_place listed zero = min 4 (length listed)
block_place listed (suc n) = block_end listed (block_place listed n)

-- Blocks up to the last one, which ends where the list does.
pub record AreBlocks (listed : List ℕ) (n : ℕ) : Type 0 where
  pub entries : has_entries listed ≡ true
  pub all : block_place listed n ≡ length listed

-- So many relocations, and the place of the first, with those of one more block. Counts above 2^32 - 1 count as that.
abbrev pub with_entries : CoreRelocations → ℕ → ℕ → CoreRelocations
with_entries sum count first = record { count = min (sum.count + count) 4294967295; first = if sum.count == 0 then first else sum.first }

abbrev pub with_block : List ℕ → List ℕ → List ℕ → ℕ → CoreRelocations → CoreRelocations
with_block strings listed name at sum =
    if is_called strings (u32_at listed at) name then with_entries sum (u32_at listed (at + 4)) (u32_at listed (at + 8)) else sum

-- The relocations of a section of code in the first n blocks.
abbrev pub relocations_below : List ℕ → List ℕ → List ℕ → ℕ → CoreRelocations
relocations_below strings listed name zero = record { count = 0; first = 0 }
relocations_below strings listed name (suc n) =
    with_block strings listed name (block_place listed n) (relocations_below strings listed name n)

-- The relocations of the section of code of a name.
pub record AreRelocations (strings bytes name : List ℕ) (sum : CoreRelocations) : Type 0 where
  pub part : List ℕ
  pub found : listed_by bytes (ext_header bytes) ≡ Ok part
  pub n : ℕ
  pub blocks : AreBlocks part n
  pub counted : sum ≡ relocations_below strings part name n

-- A block begins in the list and doesn't end in it.
pub record HasCutBlock (listed : List ℕ) : Type 0 where
  pub n : ℕ
  pub starts : block_place listed n < length listed
  pub cut : length listed < block_end listed (block_place listed n)

-- The entries are too short, or a block is cut off.
abbrev pub AreBroken : List ℕ → Type 0
AreBroken listed = (has_entries listed ≡ false) ⊎ HasCutBlock listed

-- Why they aren't counted.
pub record IsExtFault (bytes : List ℕ) (fault : BtfFault) : Type 0 where
  pub told : fault ≡ Ext
  pub applies : (listed_by bytes (ext_header bytes) ≡ Err Ext) ⊎ ((part : List ℕ) × (listed_by bytes (ext_header bytes) ≡ Ok part) × AreBroken part)
