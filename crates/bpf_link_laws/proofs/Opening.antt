-- A joined object is opened.
use Rattle.std.proofs.Common.{◌≡◌, ◌<◌, ◌≤◌, ℕ, ◌+◌, ◌*◌, ◌==◌, nat_le, nat_lt, Bool, true, List, Result, Ok, length, get_or, refl, sym, subst, ap, ◌∙◌, arith}
use Rattle.std.proofs.lemmas.Bool.Decides.{nat_tests}
use Rattle.bpf_isa.specs.Words.{u16_at, u32_at}
use Rattle.bpf_link.specs.declared.fault.LinkFault.{LinkFault}
use Rattle.bpf_link.specs.declared.fault.LinkFault.TheVariants.{NotElf, Class, Order, Kind, Machine, SectionTable}
use Rattle.bpf_link.specs.declared.plan.Plan.{Plan}
use Rattle.bpf_link.specs.Layout.{file_header, u64_at}
use Rattle.bpf_link.specs.Objects.{Elf, elf, names_of, opened, opened_header, opened_table, provided, section_at}
use Rattle.bpf_link.specs.Plans.{bytes_of}
use Rattle.bpf_link.proofs.Inversions.{provided_ok}
use Rattle.bpf_join.specs.Codes.{joined_code}
use Rattle.bpf_join.specs.Joined.{body, joined_bytes, parts, section_count, with_code}
use Rattle.bpf_join.specs.Tables.{headers}
use Rattle.bpf_link_laws.proofs.Files.{code_begins, code_bytes, end, headers_length, in_file, own_begins, body_long, names_number, sections_at, sections_count}
use Rattle.bpf_link_laws.proofs.Headed.{headed, low_same, middle_same}
use Rattle.bpf_link_laws.proofs.Inversions.{Opens, is_same, opens_elf}
use Rattle.bpf_link_laws.proofs.Names.{less}
use Rattle.bpf_link_laws.proofs.JoinNumbers.{u16_same, u32_same}
use Rattle.bpf_link_laws.proofs.Orders.{in_both, most_most}
use Rattle.bpf_link_laws.proofs.JoinSections.{Joining, Same, chosen_again, code_header, code_kind_there, first_again, index_inside, names_again}

-- what the header of an object says
pub record IsElf (bytes : List ℕ) : Type 0 where
  pub magic : u32_at bytes 0 ≡ 0x464c457f
  pub class : get_or bytes 4 0 ≡ 2
  pub order : get_or bytes 5 0 ≡ 1
  pub kind : u16_at bytes 16 ≡ 1
  pub machine : u16_at bytes 18 ≡ 247
  pub entry_size : u16_at bytes 58 ≡ 64

pub is_elf : (bytes : List ℕ) (object : Elf) → opened bytes ≡ Ok object → IsElf bytes
is_elf bytes object e =
    let h = file_header bytes in
    let a = provided_ok (nat_le 64 (length bytes)) NotElf (opened_header bytes h) object e in
    let b = provided_ok (h.magic == 0x464c457f) NotElf _ object a.1 in
    let c = provided_ok (h.class == 2) Class _ object b.1 in
    let d = provided_ok (h.order == 1) Order _ object c.1 in
    let f = provided_ok (h.kind == 1) Kind _ object d.1 in
    let g = provided_ok (h.machine == 247) Machine (opened_table bytes h) object f.1 in
    let i = provided_ok (h.entry_size == 64) SectionTable _ object g.1 in
    record {
      magic = is_same (u32_at bytes 0) 0x464c457f b.0;
      class = is_same (get_or bytes 4 0) 2 c.0;
      order = is_same (get_or bytes 5 0) 1 d.0;
      kind = is_same (u16_at bytes 16) 1 f.0;
      machine = is_same (u16_at bytes 18) 247 g.0;
      entry_size = is_same (u16_at bytes 58) 64 i.0;
    }

-- the header of a body that begins as an object
same_elf : (body table first : List ℕ) (count : ℕ) → 64 ≤ length body → 64 ≤ length first → ((j : ℕ) → j < length first → get_or body j 0 ≡ get_or first j 0) → IsElf first → IsElf (headed body table count)
same_elf body table first count long more begins is = record {
  magic = u32_same (headed body table count) 0 first 0 (λ k low. low_same body table first count (0 + k) long more begins (omega arith)) ∙ is.magic;
  class = low_same body table first count 4 long more begins (omega arith) ∙ is.class;
  order = low_same body table first count 5 long more begins (omega arith) ∙ is.order;
  kind = u16_same (headed body table count) 16 first 16 (λ k low. low_same body table first count (16 + k) long more begins (omega arith)) ∙ is.kind;
  machine = u16_same (headed body table count) 18 first 18 (λ k low. low_same body table first count (18 + k) long more begins (omega arith)) ∙ is.machine;
  entry_size = u16_same (headed body table count) 58 first 58 (λ k low. middle_same body table first count (58 + k) long more begins (omega arith) (omega arith)) ∙ is.entry_size;
}

passed : {A : Type 0} (b : Bool) (fault : LinkFault) (next : Result A LinkFault) → b ≡ true → provided b fault next ≡ next
passed b fault next e = ap (λ b. provided b fault next) e

same_is : (a b : ℕ) → a ≡ b → (a == b) ≡ true
same_is a b h = grind (arith, nat_tests)

most_is : (a b : ℕ) → a ≤ b → nat_le a b ≡ true
most_is a b h = grind (arith, nat_tests)

-- an object with a header and a table is opened
abbrev pub object_in : List ℕ → Elf
object_in bytes = elf bytes (u64_at bytes 40) (u16_at bytes 60) (names_of bytes (file_header bytes)).offset

opened_elf : (bytes : List ℕ) → 64 ≤ length bytes → IsElf bytes → u16_at bytes 60 < 0xff00 → u64_at bytes 40 + 64 * u16_at bytes 60 ≤ length bytes
    → u16_at bytes 62 < u16_at bytes 60 → (object_in bytes).names ≤ length bytes → opened bytes ≡ Ok (object_in bytes)
opened_elf bytes long is few table inside names =
    let h = file_header bytes in
    passed (nat_le 64 (length bytes)) NotElf (opened_header bytes h) (most_is 64 (length bytes) long)
    ∙ passed (h.magic == 0x464c457f) NotElf _ (same_is (u32_at bytes 0) 0x464c457f is.magic)
    ∙ passed (h.class == 2) Class _ (same_is (get_or bytes 4 0) 2 is.class)
    ∙ passed (h.order == 1) Order _ (same_is (get_or bytes 5 0) 1 is.order)
    ∙ passed (h.kind == 1) Kind _ (same_is (u16_at bytes 16) 1 is.kind)
    ∙ passed (h.machine == 247) Machine (opened_table bytes h) (same_is (u16_at bytes 18) 247 is.machine)
    ∙ passed (h.entry_size == 64) SectionTable _ (same_is (u16_at bytes 58) 64 is.entry_size)
    ∙ passed (nat_lt h.sections 0xff00) SectionTable _ (less (u16_at bytes 60) 0xff00 few)
    ∙ passed (nat_le (h.sections_at + 64 * h.sections) (length bytes)) SectionTable _ (most_is (u64_at bytes 40 + 64 * u16_at bytes 60) (length bytes) table)
    ∙ passed (nat_lt h.names h.sections) SectionTable _ (less (u16_at bytes 62) (u16_at bytes 60) inside)
    ∙ passed (nat_le (names_of bytes h).offset (length bytes)) SectionTable (Ok (object_in bytes)) (most_is (names_of bytes h).offset (length bytes) names)

table_fits : (n end count at sections : ℕ) → n ≡ end + 64 * count → at ≡ end → sections ≡ count → at + 64 * sections ≤ n
table_fits n end count at sections size here counted = omega (arith, size, here, counted)

-- the joined one
pub again_opens : (a section : List ℕ) (first second : Plan) (table : ℕ) (places records : List ℕ) → Joining a section first second table places records
    → Opens (joined_bytes first second table places records) (object_in (joined_bytes first second table places records))
again_opens a section first second table places records it =
    let bytes = joined_bytes first second table places records in
    let inside : u16_at first.object.bytes 62 < section_count first second =
    subst (λ n. n < section_count first second) (it.plan.object.index ∙ ap (λ bytes. u16_at bytes 62) (sym it.plan.object.bytes_are))
    (in_both _ (length first.object.sections) (length second.object.sections) (index_inside a section first it.plan)) in
    let there : u16_at bytes 62 < section_count first second = subst (λ n. n < section_count first second) (sym (names_number first second table places records it.room)) inside in
    opens_elf bytes (most_most 64 (length (body first second places records)) (length bytes) (body_long first second places records it.room.long) (in_file first second table places records it.room).longer)
    (subst (λ n. u16_at bytes 62 < n) (sym (sections_count first second table places records it.room)) there)

pub opened_again : (a section : List ℕ) (first second : Plan) (table : ℕ) (places records : List ℕ) → Joining a section first second table places records → IsElf first.object.bytes
    → opened (joined_bytes first second table places records) ≡ Ok (object_in (joined_bytes first second table places records))
opened_again a section first second table places records it is =
    let bytes = joined_bytes first second table places records in
    let o = again_opens a section first second table places records it in
    let longer = (in_file first second table places records it.room).longer in
    let names : (object_in bytes).names ≡ length (with_code first second) =
    names_again a section first second table places records it first.parts.code.section refl (code_kind_there a section first it.plan) (object_in bytes) o in
    opened_elf bytes o.long
    (same_elf (body first second places records) (headers first second table (parts first second places records)) first.object.bytes (section_count first second)
    (body_long first second places records it.room.long) it.room.long (own_begins first second places records).same is)
    (subst (λ n. n < 0xff00) (sym (sections_count first second table places records it.room)) it.room.few)
    (table_fits (length bytes) (end first second places records) (section_count first second) (u64_at bytes 40) (u16_at bytes 60) (headers_length first second table places records it.room)
    (sections_at first second table places records it.room) (sections_count first second table places records it.room))
    o.names_in
    (subst (λ n. n ≤ length bytes) (sym names) (most_most (length (with_code first second)) (length (body first second places records)) (length bytes) (code_begins first second places records).longer longer))

-- what its section of code holds
pub code_there : (a section : List ℕ) (first second : Plan) (table : ℕ) (places records : List ℕ) → Joining a section first second table places records
    → bytes_of (object_in (joined_bytes first second table places records)) (section_at (object_in (joined_bytes first second table places records)) first.parts.code.section) ≡ joined_code first second
code_there a section first second table places records it =
    let bytes = joined_bytes first second table places records in
    let o = again_opens a section first second table places records it in
    ap (bytes_of (object_in bytes)) (first_again a section first second table places records it (object_in bytes) o first.parts.code.section it.room.code
    ∙ code_header first table (parts first second places records))
    ∙ code_bytes first second table places records it.room

pub chosen_there : (a section : List ℕ) (first second : Plan) (table : ℕ) (places records : List ℕ) → Joining a section first second table places records → 0 < length (joined_code first second)
    → Same (object_in (joined_bytes first second table places records)) section first.parts.code.section
chosen_there a section first second table places records it some =
    let bytes = joined_bytes first second table places records in
    let o = again_opens a section first second table places records it in
    chosen_again a section first second table places records it (object_in bytes) o
    (names_again a section first second table places records it first.parts.code.section refl (code_kind_there a section first it.plan) (object_in bytes) o) some
