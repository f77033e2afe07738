-- A section `.BTF` (the kernel's document 'BPF Type Format (BTF)', sections 2 and 4.1).
use Rattle.std.specs.Prelude.{◌≡◌, ◌⊎◌, ℕ, ◌+◌, ◌==◌, nat_le, List, length, slice_range, Result, Ok, Err}
use Rattle.bpf_isa.specs.Words.{u32_at}
use Rattle.bpf_btf.specs.declared.fault.BtfFault.{BtfFault}
use Rattle.bpf_btf.specs.declared.fault.BtfFault.TheVariants.{NoBtf, Version, Header, Memory}
use Rattle.bpf_btf.specs.declared.layout.BtfHeader.{BtfHeader}
use Rattle.bpf_btf.specs.Layout.{btf_header}
use Rattle.bpf_btf.specs.Faults.{provided}
use Rattle.bpf_btf.specs.Types.{AreTypes, HasBadType, Types}

-- Its header. Types and strings lie behind it and in the section.
abbrev pub header_of : List ℕ → BtfHeader → Result BtfHeader BtfFault
header_of bytes header =
    provided (nat_le 24 (length bytes)) NoBtf
    (provided (header.magic == 0xeb9f) NoBtf
    (provided (header.version == 1) Version
    (provided (nat_le 24 header.size) Header
    (provided (nat_le (header.size + header.types_at + header.types_size) (length bytes)) Header
    (provided (nat_le (header.size + header.strings_at + header.strings_size) (length bytes)) Header
    (Ok header))))))

abbrev pub types_in : List ℕ → BtfHeader → List ℕ
types_in bytes header = slice_range bytes (header.size + header.types_at) (header.size + header.types_at + header.types_size)

-- Where the strings stand, by hdr_len and str_off of the header.
abbrev pub strings_at : List ℕ → ℕ
strings_at bytes = u32_at bytes 4 + u32_at bytes 16

abbrev pub strings_in : List ℕ → BtfHeader → List ℕ
strings_in bytes header = slice_range bytes (header.size + header.strings_at) (header.size + header.strings_at + header.strings_size)

-- What is read of a section.
pub record IsRead (bytes : List ℕ) (types : Types) : Type 0 where
  pub header : BtfHeader
  pub opened : header_of bytes (btf_header bytes) ≡ Ok header
  pub bytes_are : types.bytes ≡ types_in bytes header
  pub strings_are : types.strings ≡ strings_in bytes header
  pub table : AreTypes types.bytes types.starts

-- A type of a section isn't whole.
pub record HasBrokenType (bytes : List ℕ) (fault : BtfFault) : Type 0 where
  pub header : BtfHeader
  pub opened : header_of bytes (btf_header bytes) ≡ Ok header
  pub bad : HasBadType (types_in bytes header) fault

-- Why a section isn't read.
abbrev pub IsReadFault : List ℕ → BtfFault → Type 0
IsReadFault bytes fault = (fault ≡ Memory) ⊎ ((header_of bytes (btf_header bytes) ≡ Err fault) ⊎ HasBrokenType bytes fault)
