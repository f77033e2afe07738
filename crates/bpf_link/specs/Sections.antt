-- The sections of an object: which one is asked for, and which ones belong to it.
use Rattle.std.specs.Prelude.{◌<◌, ℕ, suc, ◌+◌, ◌/◌, ◌%◌, ◌==◌, nat_lt, min, Bool, true, false, not, ◌&&◌, ◌||◌, if◌then◌else◌, List, [], ◌∷◌, length, codes, slice_index, slice_range}
use Rattle.std.specs.Str.{bytes_eq}
use Rattle.bpf_link.specs.declared.layout.SectionHeader.{SectionHeader}
use Rattle.bpf_link.specs.declared.sections.Found.{Found}
use Rattle.bpf_link.specs.declared.sections.Found.TheVariants.{Nothing, Only, Several}
use Rattle.bpf_link.specs.declared.sections.Roles.{Roles}
use Rattle.bpf_link.specs.Objects.{Elf}

-- A name stands at a place in the file, and a zero after it.
abbrev pub name_at : List ℕ → ℕ → List ℕ → Bool
name_at bytes at name =
    nat_lt (at + length name) (length bytes)
    && (bytes_eq (slice_range bytes at (at + length name)) name && (slice_index bytes (at + length name) == 0))

-- A section has a name.
abbrev pub is_named : Elf → SectionHeader → List ℕ → Bool
is_named object section name = name_at object.bytes (object.names + section.name) name

-- Where the name of a section stands in the file, or the file's end.
abbrev pub section_place : Elf → SectionHeader → ℕ
section_place object section = min (object.names + section.name) (length object.bytes)

-- A section holds instructions: SHT_PROGBITS, SHF_EXECINSTR, and not empty.
abbrev pub is_code : SectionHeader → Bool
is_code section = (section.kind == 1) && ((section.flags / 4 % 2 == 1) && nat_lt 0 section.size)

-- It is a code section called `.text`.
abbrev pub is_text : Elf → SectionHeader → Bool
is_text object section = is_code section && is_named object section (codes ".text")

-- It may be the section that is asked for: a code section of that name, or, where no name is given, one that isn't called `.text`.
abbrev pub is_chosen : Elf → List ℕ → SectionHeader → Bool
is_chosen object name section =
    is_code section && (if length name == 0 then not (is_named object section (codes ".text")) else is_named object section name)

-- It holds the symbols: SHT_SYMTAB.
abbrev pub is_symbols : SectionHeader → Bool
is_symbols section = section.kind == 2

-- It holds the definitions of maps.
abbrev pub is_maps : Elf → SectionHeader → Bool
is_maps object section = is_named object section (codes "maps") || is_named object section (codes ".maps")

-- It holds data: SHT_PROGBITS, or SHT_NOBITS of data that are zeros at the start, without a byte in the file; SHF_ALLOC and no SHF_EXECINSTR; and no maps.
abbrev pub is_data : Elf → SectionHeader → Bool
is_data object section =
    ((section.kind == 1) || (section.kind == 8))
    && ((section.flags / 2 % 2 == 1) && ((section.flags / 4 % 2 == 0) && not (is_maps object section)))

-- It holds the relocations of a section: SHT_REL or SHT_RELA.
abbrev pub is_relocations : ℕ → SectionHeader → Bool
is_relocations target section = ((section.kind == 9) || (section.kind == 4)) && (section.info == target)

-- One more index at which a test holds or doesn't.
abbrev pub found_with : Found → Bool → ℕ → Found
found_with found false i = found
found_with Nothing true i = Only i
found_with (Only j) true i = Several
found_with Several true i = Several

-- The indexes from a number on at which elements of a list pass a test, and the only one of some.
abbrev pub places : {A : Type 0} → (A → Bool) → ℕ → List A → List ℕ
places test i [] = []
places test i (x ∷ xs) = if test x then i ∷ places test (suc i) xs else places test (suc i) xs

abbrev pub only : List ℕ → Found
only [] = Nothing
only (i ∷ []) = Only i
only (i ∷ (j ∷ more)) = Several

-- The index of the only element of a list that passes a test, if it is the only one.
abbrev pub found : {A : Type 0} → (A → Bool) → List A → Found
found test xs = only (places test 0 xs)

-- A search went over the indexes below n.
abbrev pub FoundBelow : ℕ → Found → Type 0
FoundBelow n (Only i) = i < n
FoundBelow n _ = Unit {0}

-- They were looked for among the first n.
pub record AreFound (n : ℕ) (roles : Roles) : Type 0 where
  pub chosen : FoundBelow n roles.chosen
  pub text : FoundBelow n roles.text
  pub symbols : FoundBelow n roles.symbols
  pub maps : FoundBelow n roles.maps

-- They with one more section, of an index.
abbrev pub roles_with : Elf → List ℕ → Roles → ℕ → SectionHeader → Roles
roles_with object name roles i section = record {
  chosen = found_with roles.chosen (is_chosen object name section) i;
  text = found_with roles.text (is_text object section) i;
  symbols = found_with roles.symbols (is_symbols section) i;
  maps = found_with roles.maps (is_maps object section) i;
}

-- Those among sections of an object that belong to the one that is asked for.
abbrev pub roles_in : Elf → List ℕ → List SectionHeader → Roles
roles_in object name sections = record {
  chosen = found (is_chosen object name) sections;
  text = found (is_text object) sections;
  symbols = found is_symbols sections;
  maps = found (is_maps object) sections;
}

-- The relocations of a section.
abbrev pub relocations_of : Elf → ℕ → Found
relocations_of object target = found (is_relocations target) object.sections
