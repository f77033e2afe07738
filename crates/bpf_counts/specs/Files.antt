-- The object's file with another section `.BTF`.
use Rattle.std.specs.Prelude.{ℕ, ◌+◌, ◌*◌, nat_le, Bool, ◌&&◌, List, ◌++◌, Result, Ok, codes, length}
use Rattle.bpf_link.specs.Images.{with_u64}
use Rattle.bpf_link.specs.Layout.{u64_at}
use Rattle.bpf_link.specs.Objects.{Elf, provided}
use Rattle.bpf_link.specs.Sections.{name_at, section_place}
use Rattle.bpf_link.specs.declared.fault.LinkFault.{LinkFault}
use Rattle.bpf_link.specs.declared.fault.LinkFault.TheVariants.{SectionTable}
use Rattle.bpf_link.specs.declared.layout.SectionHeader.{SectionHeader}

-- A section is the one of BTF.
abbrev pub is_types : Elf → SectionHeader → Bool
is_types object section = name_at object.bytes (section_place object section) (codes ".BTF")

-- Where the header of a section stands in the file (Elf64_Ehdr: e_shoff; 64 bytes each).
abbrev pub header_place : List ℕ → ℕ → ℕ
header_place bytes i = u64_at bytes 40 + 64 * i

-- The file with other bytes for the i-th section: they stand behind it, and the section's header says where and how many (Elf64_Shdr: sh_offset, sh_size).
abbrev pub with_bytes : List ℕ → ℕ → List ℕ → List ℕ
with_bytes bytes i section =
    with_u64 (with_u64 (bytes ++ section) (header_place bytes i + 24) (length bytes)) (header_place bytes i + 32) (length section)

-- That header lies in the file.
abbrev pub has_header : List ℕ → ℕ → Bool
has_header bytes i = nat_le i 65535 && (nat_le 64 (length bytes) && nat_le (header_place bytes i + 64) (length bytes))

abbrev pub replaced : List ℕ → ℕ → List ℕ → Result (List ℕ) LinkFault
replaced bytes i section = provided (has_header bytes i) SectionTable (Ok (with_bytes bytes i section))
