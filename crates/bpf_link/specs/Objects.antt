-- An object: its header, and its table of sections.
use Rattle.std.specs.Prelude.{◌≤◌, ℕ, zero, suc, ◌+◌, ◌*◌, ◌==◌, nat_le, nat_lt, Bool, true, false, List, [], ◌∷◌, ◌++◌, Result, Ok, Err, get_or, length}
use Rattle.bpf_link.specs.declared.fault.LinkFault.{LinkFault}
use Rattle.bpf_link.specs.declared.fault.LinkFault.TheVariants.{NotElf, Class, Order, Kind, Machine, SectionTable}
use Rattle.bpf_link.specs.declared.layout.FileHeader.{FileHeader}
use Rattle.bpf_link.specs.declared.layout.SectionHeader.{SectionHeader}
use Rattle.bpf_link.specs.Layout.{file_header, section_header}

-- What follows where a test holds, and the fault where it doesn't.
abbrev pub provided : {A : Type 0} → Bool → LinkFault → Result A LinkFault → Result A LinkFault
provided true fault next = next
provided false fault next = Err fault

-- What there is for each number below n, in order.
abbrev pub below : {A : Type 0} → (ℕ → A) → ℕ → List A
below item zero = []
below item (suc n) = below item n ++ item n ∷ []

-- An object: its bytes, where the names of its sections begin in these, and the headers of its sections.
pub record Elf : Type 0 where
  pub bytes : List ℕ
  pub names : ℕ
  pub sections : List SectionHeader

-- The header of a section by its index; behind the last one there is none.
abbrev pub no_section : SectionHeader
no_section = record { name = 0; kind = 0; flags = 0; offset = 0; size = 0; link = 0; info = 0 }

abbrev pub section_at : Elf → ℕ → SectionHeader
section_at object i = get_or object.sections i no_section

-- The object in bytes whose table of so many sections lies at a place, of 64 bytes each.
abbrev pub elf : List ℕ → ℕ → ℕ → ℕ → Elf
elf bytes at count names = record { bytes = bytes; names = names; sections = below (λ i. section_header bytes (at + 64 * i)) count }

-- That table lies there, and the names begin there.
pub record HasTable (bytes : List ℕ) (at count names : ℕ) : Type 0 where
  pub table : at + 64 * count ≤ length bytes
  pub begins : names ≤ length bytes

-- The section that holds the names.
abbrev pub names_of : List ℕ → FileHeader → SectionHeader
names_of bytes header = section_header bytes (header.sections_at + 64 * header.names)

-- The object whose table has this layout. The indexes from SHN_LORESERVE, 0xff00, on name no section.
abbrev pub opened_table : List ℕ → FileHeader → Result Elf LinkFault
opened_table bytes header =
    provided (header.entry_size == 64) SectionTable
    (provided (nat_lt header.sections 0xff00) SectionTable
    (provided (nat_le (header.sections_at + 64 * header.sections) (length bytes)) SectionTable
    (provided (nat_lt header.names header.sections) SectionTable
    (provided (nat_le (names_of bytes header).offset (length bytes)) SectionTable
    (Ok (elf bytes header.sections_at header.sections (names_of bytes header).offset))))))

-- The magic number is 0x7f, E, L, F.
abbrev pub opened_header : List ℕ → FileHeader → Result Elf LinkFault
opened_header bytes header =
    provided (header.magic == 0x464c457f) NotElf
    (provided (header.class == 2) Class
    (provided (header.order == 1) Order
    (provided (header.kind == 1) Kind
    (provided (header.machine == 247) Machine
    (opened_table bytes header)))))

abbrev pub opened : List ℕ → Result Elf LinkFault
opened bytes = provided (nat_le 64 (length bytes)) NotElf (opened_header bytes (file_header bytes))
