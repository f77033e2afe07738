-- The layout of an object: an ELF file of 64 bits, little-endian (System V gABI, chapter 4). A number stands with its low byte first.
use Rattle.std.specs.Prelude.{ℕ, ◌+◌, ◌*◌, ◌/◌, ◌%◌, List, slice_index}
use Rattle.bpf_isa.specs.Words.{u16_at, u32_at}
use Rattle.bpf_link.specs.declared.layout.FileHeader.{FileHeader}
use Rattle.bpf_link.specs.declared.layout.SectionHeader.{SectionHeader}
use Rattle.bpf_link.specs.declared.layout.SymbolEntry.{SymbolEntry}
use Rattle.bpf_link.specs.declared.layout.RelocationEntry.{RelocationEntry}
use Rattle.bpf_link.specs.declared.layout.MapDefinition.{MapDefinition}

-- Eight bytes as a number.
abbrev pub u64_at : List ℕ → ℕ → ℕ
u64_at bytes i = u32_at bytes i + 4294967296 * u32_at bytes (i + 4)

-- The file's header, Elf64_Ehdr: e_ident[0..4], e_ident[EI_CLASS], e_ident[EI_DATA], e_type, e_machine, e_shoff, e_shentsize, e_shnum, e_shstrndx.
abbrev pub file_header : List ℕ → FileHeader
file_header object = record {
  magic = u32_at object 0;
  class = slice_index object 4;
  order = slice_index object 5;
  kind = u16_at object 16;
  machine = u16_at object 18;
  sections_at = u64_at object 40;
  entry_size = u16_at object 58;
  sections = u16_at object 60;
  names = u16_at object 62;
}

-- A section's header, Elf64_Shdr: sh_name, sh_type, sh_flags, sh_offset, sh_size, sh_link, sh_info.
abbrev pub section_header : List ℕ → ℕ → SectionHeader
section_header object at = record {
  name = u32_at object at;
  kind = u32_at object (at + 4);
  flags = u64_at object (at + 8);
  offset = u64_at object (at + 24);
  size = u64_at object (at + 32);
  link = u32_at object (at + 40);
  info = u32_at object (at + 44);
}

-- A symbol, Elf64_Sym: st_name, the low half of st_info (its type) and the high one (its binding), st_shndx, st_value.
abbrev pub symbol_entry : List ℕ → ℕ → SymbolEntry
symbol_entry object at = record {
  name = u32_at object at;
  kind = slice_index object (at + 4) % 16;
  binding = slice_index object (at + 4) / 16;
  section = u16_at object (at + 6);
  value = u64_at object (at + 8);
}

-- A relocation, Elf64_Rel: r_offset, and of r_info the type (its low half) and the symbol (its high half).
abbrev pub relocation_entry : List ℕ → ℕ → RelocationEntry
relocation_entry object at = record { offset = u64_at object at; kind = u32_at object (at + 8); symbol = u32_at object (at + 12) }

-- The definition of a map, struct bpf_map_def of the section `maps`, as far as it is read: type, key_size, value_size, max_entries.
abbrev pub map_definition : List ℕ → ℕ → MapDefinition
map_definition object at = record { kind = u32_at object at; key_size = u32_at object (at + 4); value_size = u32_at object (at + 8); entries = u32_at object (at + 12) }
