-- The relocations of a joined object's code: those of each part, at its place and against its own symbols.
use Rattle.std.specs.Prelude.{ℕ, ◌+◌, ◌*◌, nat_lt, if◌then◌else◌, List, ◌++◌, length, replicate}
use Rattle.bpf_link.specs.Images.{with_u64}
use Rattle.bpf_link.specs.Patches.{with_u32}
use Rattle.bpf_link.specs.Parts.{slots_in}
use Rattle.bpf_link.specs.declared.layout.RelocationEntry.{RelocationEntry}
use Rattle.bpf_link.specs.declared.parts.Part.{Part}
use Rattle.bpf_link.specs.declared.plan.Plan.{Plan}
use Rattle.bpf_link.specs.Tables.{relocation_at}
use Rattle.bpf_join.specs.Codes.{own_slots}
use Rattle.bpf_join.specs.Gathered.{gathered}

-- The place of a relocation in a part that begins at a slot; one that lies outside of it has none, and is refused as one at no slot.
abbrev pub place_in : Part → ℕ → ℕ → ℕ
place_in part first offset = if nat_lt offset (8 * slots_in part) then 8 * first + offset else 18446744073709551615

-- The number of a symbol of so many, behind others; one that isn't there has none, either.
abbrev pub symbol_in : ℕ → ℕ → ℕ → ℕ
symbol_in count before symbol = if nat_lt symbol count then before + symbol else 4294967295

-- A relocation, Elf64_Rel: r_offset, and r_info of the kind and the symbol.
abbrev pub relocation_bytes : ℕ → ℕ → ℕ → List ℕ
relocation_bytes offset kind symbol = with_u32 (with_u32 (with_u64 (replicate 16 0) 0 offset) 8 kind) 12 symbol

abbrev pub moved : Part → ℕ → ℕ → ℕ → RelocationEntry → List ℕ
moved part first count before relocation =
    relocation_bytes (place_in part first relocation.offset) relocation.kind (symbol_in count before relocation.symbol)

-- All relocations of a part.
abbrev pub all_moved : Part → ℕ → ℕ → ℕ → List ℕ
all_moved part first count before =
    gathered (λ i. moved part first count before (relocation_at part.relocations i)) (length part.relocations)

-- Those of the first object, and those of the functions, whose symbols come behind the first one's.
abbrev pub joined_relocations : Plan → Plan → List ℕ
joined_relocations first second =
    let own = length first.symbols in
    all_moved first.parts.code 0 own 0
    ++ (all_moved first.parts.text (slots_in first.parts.code) own 0
    ++ all_moved second.parts.code (own_slots first) (length second.symbols) own)
