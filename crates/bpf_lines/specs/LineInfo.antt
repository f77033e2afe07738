-- The lines that a section `.BTF.ext` lists for each section of code (the kernel's document 'BPF Type Format (BTF)', section 4.2).
use Rattle.std.specs.Prelude.{◌≡◌, ℕ, zero, suc, ◌+◌, ◌*◌, ◌/◌, ◌==◌, nat_le, min, Bool, ◌&&◌, if◌then◌else◌, List, [], Option, Some, None, Result, Ok, length, slice_index, slice_range}
use Rattle.bpf_isa.specs.Words.{u16_at, u32_at}
use Rattle.bpf_btf.specs.CoreRelocations.{AreBlocks, block_place}
use Rattle.bpf_btf.specs.Faults.{provided}
use Rattle.bpf_btf.specs.Layout.{is_called}
use Rattle.bpf_btf.specs.Maps.{last_below}
use Rattle.bpf_btf.specs.Sections.{strings_at}
use Rattle.bpf_btf.specs.declared.fault.BtfFault.{BtfFault}
use Rattle.bpf_btf.specs.declared.fault.BtfFault.TheVariants.{Ext}
use Rattle.bpf_lines.specs.declared.line_info.LineEntry.{LineEntry}

-- The section begins with a header of at least 24 bytes, struct btf_ext_header: magic, version, (flags,) hdr_len.
abbrev pub begins : List ℕ → Bool
begins ext = nat_le 24 (length ext) && ((u16_at ext 0 == 0xeb9f) && ((slice_index ext 2 == 1) && nat_le 24 (u32_at ext 4)))

-- The part that lists lines, by line_info_off and line_info_len of the header: it lies behind that and in the section.
abbrev pub lines_at : List ℕ → ℕ
lines_at ext = u32_at ext 4 + u32_at ext 16

abbrev pub lines_in : List ℕ → Result (List ℕ) BtfFault
lines_in ext =
    provided (begins ext) Ext
    (provided (nat_le (lines_at ext + u32_at ext 20) (length ext)) Ext
    (Ok (slice_range ext (lines_at ext) (lines_at ext + u32_at ext 20))))

-- The strings of a section `.BTF`, by hdr_len, str_off and str_len of its header; none where they don't lie in it.
abbrev pub strings_of : List ℕ → List ℕ
strings_of btf =
    if nat_le (strings_at btf + u32_at btf 20) (length btf) then slice_range btf (strings_at btf) (strings_at btf + u32_at btf 20) else []

-- The block of a section of code, the last one of its name among the first n; a list has one for each.
abbrev pub block_below : List ℕ → List ℕ → List ℕ → ℕ → Option ℕ
block_below strings listed name zero = None
block_below strings listed name (suc n) =
    if is_called strings (u32_at listed (block_place listed n)) name then Some (block_place listed n)
    else block_below strings listed name n

pub record IsBlock (strings listed name : List ℕ) (block : Option ℕ) : Type 0 where
  pub n : ℕ
  pub blocks : AreBlocks listed n
  pub found : block ≡ block_below strings listed name n

-- Where the i-th record of a block stands. (A list is shorter than 2^32 bytes: what is more counts as that.)
abbrev pub record_place : List ℕ → ℕ → ℕ → ℕ
record_place listed block i = block + 8 + min (u32_at listed 0 * i) 4294967295

-- A record, struct bpf_line_info: insn_off, where its instruction stands in the section of code, in bytes; file_name_off; (line_off;) and line_col,
-- of which the column is the low 10 bits.
abbrev pub line_entry : List ℕ → ℕ → LineEntry
line_entry listed at = record { offset = u32_at listed at; file = u32_at listed (at + 4); line = u32_at listed (at + 12) / 1024 }

-- The record of a slot: the last one that names it.
abbrev pub names_slot : List ℕ → ℕ → ℕ → ℕ → Bool
names_slot listed block slot i = (line_entry listed (record_place listed block i)).offset == 8 * slot

abbrev pub line_at : List ℕ → Option ℕ → ℕ → Option ℕ
line_at listed None slot = None
line_at listed (Some block) slot = last_below (names_slot listed block slot) (u32_at listed (block + 4))
