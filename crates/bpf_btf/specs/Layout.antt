-- The layout of BTF, little-endian (the Linux kernel's document 'BPF Type Format (BTF)', sections 2, 4.1 and 4.2).
-- Absent bytes read as 0; of the types of a section none lies at one (Types.antt, AreTypes).
use Rattle.std.specs.Prelude.{ℕ, ◌+◌, ◌/◌, ◌%◌, ◌==◌, nat_lt, Bool, ◌&&◌, List, length, slice_index, slice_range}
use Rattle.std.specs.Str.{bytes_eq}
use Rattle.bpf_isa.specs.Words.{u16_at, u32_at}
use Rattle.bpf_btf.specs.declared.layout.BtfHeader.{BtfHeader}
use Rattle.bpf_btf.specs.declared.layout.ExtHeader.{ExtHeader}
use Rattle.bpf_btf.specs.declared.layout.TypeEntry.{TypeEntry}
use Rattle.bpf_btf.specs.declared.layout.ArrayEntry.{ArrayEntry}
use Rattle.bpf_btf.specs.declared.layout.MemberEntry.{MemberEntry}

-- A name stands at a place among the strings, and a zero after it.
abbrev pub is_called : List ℕ → ℕ → List ℕ → Bool
is_called strings at name =
    nat_lt (at + length name) (length strings)
    && (bytes_eq (slice_range strings at (at + length name)) name && (slice_index strings (at + length name) == 0))

-- The header of `.BTF`, struct btf_header: magic, version, (flags,) hdr_len, type_off, type_len, str_off, str_len.
abbrev pub btf_header : List ℕ → BtfHeader
btf_header bytes = record {
  magic = u16_at bytes 0;
  version = slice_index bytes 2;
  size = u32_at bytes 4;
  types_at = u32_at bytes 8;
  types_size = u32_at bytes 12;
  strings_at = u32_at bytes 16;
  strings_size = u32_at bytes 20;
}

-- The header of `.BTF.ext`, struct btf_ext_header, as far as it is read: magic, version, hdr_len, core_relo_off, core_relo_len.
abbrev pub ext_header : List ℕ → ExtHeader
ext_header bytes = record { magic = u16_at bytes 0; version = slice_index bytes 2; size = u32_at bytes 4; cores_at = u32_at bytes 24; cores_size = u32_at bytes 28 }

-- How a type begins, struct btf_type: name_off; of info the kind (bits 24 to 28) and vlen, the number of its parts (the low 16 bits); size or type.
abbrev pub type_entry : List ℕ → ℕ → TypeEntry
type_entry types at = record {
  name = u32_at types at;
  kind = u32_at types (at + 4) / 16777216 % 32;
  count = u32_at types (at + 4) % 65536;
  of = u32_at types (at + 8);
}

-- What stands behind the beginning of an array, struct btf_array: the type of its elements, (that of an index,) and how many there are.
abbrev pub array_entry : List ℕ → ℕ → ArrayEntry
array_entry types at = record { of = u32_at types at; count = u32_at types (at + 8) }

-- A member of a struct, struct btf_member: name_off and type.
abbrev pub member_entry : List ℕ → ℕ → MemberEntry
member_entry types at = record { name = u32_at types at; of = u32_at types (at + 4) }
