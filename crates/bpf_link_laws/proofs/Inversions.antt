-- What is known of an object that is opened, and of a plan.
use Rattle.std.proofs.Common.{◌≡◌, ◌<◌, ◌≤◌, ℕ, ◌+◌, ◌-◌, ◌*◌, ◌/◌, ◌%◌, ◌==◌, nat_le, nat_lt, Bool, true, false, List, Result, Ok, Err, length, refl, sym, subst, ap, ◌∙◌, arith}
use Rattle.std.specs.Prelude.{if◌then◌else◌, ◌&&◌}
use Rattle.std.proofs.lemmas.Bool.Decides.{nat_tests}
use Rattle.bpf_isa.specs.Checker.{most_slots}
use Rattle.bpf_isa.specs.Words.{u16_at}
use Rattle.bpf_link.specs.declared.fault.LinkFault.{LinkFault}
use Rattle.bpf_link.specs.declared.fault.LinkFault.TheVariants.{NotElf, Class, Order, Kind, Machine, SectionTable, LongName, ManySections, Section, TooLong, RunsOff}
use Rattle.bpf_link.specs.declared.layout.SymbolEntry.{SymbolEntry}
use Rattle.bpf_link.specs.declared.layout.RelocationEntry.{RelocationEntry}
use Rattle.bpf_link.specs.declared.parts.Part.{Part}
use Rattle.bpf_link.specs.declared.plan.Plan.{Plan}
use Rattle.bpf_link.specs.declared.sections.Found.{Found}
use Rattle.bpf_link.specs.declared.sections.Found.TheVariants.{Nothing, Only, Several}
use Rattle.bpf_link.specs.declared.sections.Roles.{Roles}
use Rattle.bpf_link.specs.Layout.{file_header, section_header, u64_at}
use Rattle.bpf_link.specs.Links.{planned}
use Rattle.bpf_link.specs.Objects.{Elf, elf, names_of, no_section, opened, opened_header, opened_table, provided, section_at}
use Rattle.bpf_link.specs.Parts.{Sides, slots_in}
use Rattle.bpf_link.specs.Plans.{after, bytes_of, chosen_in, definitions_in, entries_of, is_closed, maps_in, names_in, no_part, part_in, parts_in, plan_of, refers_below, relocations_in, symbols_of, text_in}
use Rattle.bpf_link.specs.Sections.{found, is_chosen, is_symbols, is_text, relocations_of, roles_in}
use Rattle.bpf_link.proofs.Inversions.{after_ok, ok_same, provided_ok}
use Rattle.bpf_link.proofs.Lists.{below_at, below_length}
use Rattle.bpf_join.specs.Tables.{names_index}
use Rattle.bpf_link_laws.proofs.Pieces.{slice_length}

pub is_most : (a b : ℕ) → nat_le a b ≡ true → a ≤ b
is_most a b e = grind (arith, nat_tests)

pub is_less : (a b : ℕ) → nat_lt a b ≡ true → a < b
is_less a b e = grind (arith, nat_tests)

pub is_same : (a b : ℕ) → (a == b) ≡ true → a ≡ b
is_same a b e = grind (arith, nat_tests)

most_is : (a b : ℕ) → a ≤ b → nat_le a b ≡ true
most_is a b h = grind (arith, nat_tests)

-- an object, as it stands in its file
pub record Opens (bytes : List ℕ) (object : Elf) : Type 0 where
  pub bytes_are : object.bytes ≡ bytes
  pub long : 64 ≤ length bytes
  pub count : length object.sections ≡ u16_at bytes 60
  pub sections : (i : ℕ) → i < u16_at bytes 60 → section_at object i ≡ section_header bytes (u64_at bytes 40 + 64 * i)
  pub names_in : u16_at bytes 62 < u16_at bytes 60
  pub names : object.names ≡ (section_header bytes (u64_at bytes 40 + 64 * u16_at bytes 62)).offset
  pub index : names_index object ≡ u16_at bytes 62

pub opens_elf : (bytes : List ℕ) → 64 ≤ length bytes → u16_at bytes 62 < u16_at bytes 60
    → Opens bytes (elf bytes (u64_at bytes 40) (u16_at bytes 60) (names_of bytes (file_header bytes)).offset)
opens_elf bytes long inside = record {
  bytes_are = refl;
  long = long;
  count = below_length (λ i. section_header bytes (u64_at bytes 40 + 64 * i)) (u16_at bytes 60);
  sections = λ i low. below_at (λ i. section_header bytes (u64_at bytes 40 + 64 * i)) (u16_at bytes 60) i no_section low;
  names_in = inside;
  names = refl;
  index = ap (λ b. if b then u16_at bytes 62 else 0) (most_is 64 (length bytes) long);
}

pub opens : (bytes : List ℕ) (object : Elf) → opened bytes ≡ Ok object → Opens bytes object
opens bytes object e =
    let h = file_header bytes in
    let a = provided_ok (nat_le 64 (length bytes)) NotElf (opened_header bytes h) object e in
    let b = provided_ok (h.magic == 0x464c457f) NotElf _ object a.1 in
    let c = provided_ok (h.class == 2) Class _ object b.1 in
    let d = provided_ok (h.order == 1) Order _ object c.1 in
    let f = provided_ok (h.kind == 1) Kind _ object d.1 in
    let g = provided_ok (h.machine == 247) Machine (opened_table bytes h) object f.1 in
    let i = provided_ok (h.entry_size == 64) SectionTable _ object g.1 in
    let j = provided_ok (nat_lt h.sections 0xff00) SectionTable _ object i.1 in
    let k = provided_ok (nat_le (h.sections_at + 64 * h.sections) (length bytes)) SectionTable _ object j.1 in
    let l = provided_ok (nat_lt h.names h.sections) SectionTable _ object k.1 in
    let m = provided_ok (nat_le (names_of bytes h).offset (length bytes)) SectionTable _ object l.1 in
    subst (Opens bytes) (ok_same _ object m.1) (opens_elf bytes (is_most 64 (length bytes) a.0) (is_less (u16_at bytes 62) (u16_at bytes 60) l.0))

-- a part of a plan
pub record IsPart (object : Elf) (section : ℕ) (part : Part) : Type 0 where
  pub section_is : part.section ≡ section
  pub slots : part.slots ≡ bytes_of object (section_at object section)
  pub whole : length part.slots ≡ 8 * slots_in part

eights : (n : ℕ) → n % 8 ≡ 0 → n ≡ 8 * (n / 8)
eights n e = omega arith

abbrev part_with : ℕ → List RelocationEntry → List ℕ → Part
part_with section relocations slots = record { section = section; slots = slots; relocations = relocations }

abbrev with_relocations : ℕ → List ℕ → List RelocationEntry → Result Part LinkFault
with_relocations section slots relocations = Ok (part_with section relocations slots)

abbrev with_slots : Elf → Found → ℕ → List ℕ → Result Part LinkFault
with_slots object symbols section slots = after (relocations_in object symbols (relocations_of object section)) (with_relocations section slots)

made_part : (object : Elf) (section : ℕ) (relocations : List RelocationEntry) → (section_at object section).offset + (section_at object section).size ≤ length object.bytes
    → (section_at object section).size % 8 ≡ 0 → IsPart object section (part_with section relocations (bytes_of object (section_at object section)))
made_part object section relocations inside entries =
    let it = section_at object section in
    let size : length (bytes_of object it) ≡ it.offset + it.size - it.offset = slice_length object.bytes it.offset (it.offset + it.size) (omega arith) inside in
    let same : it.offset + it.size - it.offset ≡ it.size = omega arith in
    let whole : length (bytes_of object it) ≡ 8 * (length (bytes_of object it) / 8) = eights (length (bytes_of object it)) (ap (λ n. n % 8) (size ∙ same) ∙ entries) in
    record { section_is = refl; slots = refl; whole = whole }

part_is : (object : Elf) (symbols : Found) (section : ℕ) (part : Part) → part_in object symbols section ≡ Ok part → IsPart object section part
part_is object symbols section part e =
    let it = section_at object section in
    let a = after_ok (entries_of object 8 Section it) (with_slots object symbols section) part e in
    let b = after_ok (relocations_in object symbols (relocations_of object section)) (with_relocations section a.0) part a.2 in
    let c = provided_ok (nat_le (it.offset + it.size) (length object.bytes)) Section _ a.0 a.1 in
    let d = provided_ok (it.size % 8 == 0) Section _ a.0 c.1 in
    let slots : bytes_of object it ≡ a.0 = ok_same (bytes_of object it) a.0 d.1 in
    let same : part_with section b.0 (bytes_of object it) ≡ part = ap (part_with section b.0) slots ∙ ok_same (part_with section b.0 a.0) part b.2 in
    subst (IsPart object section) same
    (made_part object section b.0 (is_most (it.offset + it.size) (length object.bytes) c.0) (is_same (it.size % 8) 0 d.0))

-- `.text` behind it has whole slots
abbrev IsWhole : Part → Type 0
IsWhole part = length part.slots ≡ 8 * slots_in part

none_whole : (part : Part) → ◌≡◌ {A = Result Part LinkFault} (Ok no_part) (Ok part) → IsWhole part
none_whole part e = subst IsWhole (ok_same no_part part e) refl

text_whole_if : (object : Elf) (symbols : Found) (i : ℕ) (same calls : Bool) (text : Part)
    → (if same then Ok no_part else (if calls then part_in object symbols i else Ok no_part)) ≡ Ok text → IsWhole text
text_whole_if object symbols i true calls text e = none_whole text e
text_whole_if object symbols i false true text e = (part_is object symbols i text e).whole
text_whole_if object symbols i false false text e = none_whole text e

text_whole : (object : Elf) (table : Found) (symbols : List SymbolEntry) (code : Part) (where_is : Found) (text : Part) → text_in object table symbols code where_is ≡ Ok text → IsWhole text
text_whole object table symbols code Nothing text e = none_whole text e
text_whole object table symbols code (Only i) text e =
    text_whole_if object table i (i == code.section) (refers_below symbols code.relocations 10 i (length code.relocations)) text e
text_whole object table symbols code Several text e = absurd (clash e)
  where
    clash : ◌≡◌ {A = Result Part LinkFault} (Err ManySections) (Ok text) → ⊥
    clash e = cc

first_true : (a b : Bool) → (a && b) ≡ true → a ≡ true
first_true true b e = refl
first_true false b e = e

-- both parts
record AreMade (object : Elf) (chosen : ℕ) (parts : Sides) : Type 0 where
  code : IsPart object chosen parts.code
  some : 8 ≤ length parts.code.slots
  text : IsWhole parts.text

abbrev with_text : Part → Part → Result Sides LinkFault
with_text code text = provided (nat_le (slots_in code + slots_in text) most_slots) TooLong (Ok (record { code = code; text = text }))

abbrev with_code : Elf → Roles → List SymbolEntry → Part → Result Sides LinkFault
with_code object roles symbols code = provided (is_closed code.slots) RunsOff (after (text_in object roles.symbols symbols code roles.text) (with_text code))

parts_are : (object : Elf) (roles : Roles) (symbols : List SymbolEntry) (chosen : ℕ) (parts : Sides) → parts_in object roles symbols chosen ≡ Ok parts → AreMade object chosen parts
parts_are object roles symbols chosen parts e =
    let a = after_ok (part_in object roles.symbols chosen) (with_code object roles symbols) parts e in
    let b = provided_ok (is_closed a.0.slots) RunsOff (after (text_in object roles.symbols symbols a.0 roles.text) (with_text a.0)) parts a.2 in
    let c = after_ok (text_in object roles.symbols symbols a.0 roles.text) (with_text a.0) parts b.1 in
    let d = provided_ok (nat_le (slots_in a.0 + slots_in c.0) most_slots) TooLong (Ok (record { code = a.0; text = c.0 })) parts c.2 in
    subst (AreMade object chosen) (ok_same _ parts d.1) (record {
      code = part_is object roles.symbols chosen a.0 a.1;
      some = is_most 8 (length a.0.slots) (first_true (nat_le 8 (length a.0.slots)) _ b.0);
      text = text_whole object roles.symbols symbols a.0 roles.text c.0 c.1;
    })

-- a plan of a file
pub record IsPlan (bytes name : List ℕ) (plan : Plan) : Type 0 where
  pub opened_is : opened bytes ≡ Ok plan.object
  pub object : Opens bytes plan.object
  pub table : plan.table ≡ found is_symbols plan.object.sections
  pub chosen : chosen_in (found (is_chosen plan.object name) plan.object.sections) (found (is_text plan.object) plan.object.sections) (length name == 0) ≡ Ok plan.parts.code.section
  pub code : plan.parts.code.slots ≡ bytes_of plan.object (section_at plan.object plan.parts.code.section)
  pub whole : length plan.parts.code.slots ≡ 8 * slots_in plan.parts.code
  pub some : 8 ≤ length plan.parts.code.slots
  pub text : length plan.parts.text.slots ≡ 8 * slots_in plan.parts.text

abbrev made : Elf → Roles → List SymbolEntry → ℕ → Sides → Plan
made object roles symbols maps parts = record {
  object = object;
  table = roles.symbols;
  symbols = symbols;
  names = names_in object roles.symbols;
  maps = maps;
  definitions = definitions_in object roles.maps;
  parts = parts;
}

abbrev with_parts : Elf → Roles → List SymbolEntry → ℕ → Sides → Result Plan LinkFault
with_parts object roles symbols maps parts = Ok (made object roles symbols maps parts)

abbrev with_chosen : Elf → Roles → List SymbolEntry → ℕ → ℕ → Result Plan LinkFault
with_chosen object roles symbols maps chosen = after (parts_in object roles symbols chosen) (with_parts object roles symbols maps)

abbrev with_maps : Elf → Roles → Bool → List SymbolEntry → ℕ → Result Plan LinkFault
with_maps object roles unnamed symbols maps = after (chosen_in roles.chosen roles.text unnamed) (with_chosen object roles symbols maps)

abbrev with_symbols : Elf → Roles → Bool → List SymbolEntry → Result Plan LinkFault
with_symbols object roles unnamed symbols = after (maps_in roles.maps) (with_maps object roles unnamed symbols)

abbrev with_object : List ℕ → Elf → Result Plan LinkFault
with_object name object = plan_of object (roles_in object name object.sections) (length name == 0)

made_is : (bytes name : List ℕ) (object : Elf) (symbols : List SymbolEntry) (maps chosen : ℕ) (parts : Sides) → opened bytes ≡ Ok object
    → chosen_in (found (is_chosen object name) object.sections) (found (is_text object) object.sections) (length name == 0) ≡ Ok chosen → AreMade object chosen parts
    → IsPlan bytes name (made object (roles_in object name object.sections) symbols maps parts)
made_is bytes name object symbols maps chosen parts e told are = record {
  opened_is = e;
  object = opens bytes object e;
  table = refl;
  chosen = told ∙ ap Ok (sym are.code.section_is);
  code = are.code.slots ∙ ap (λ i. bytes_of object (section_at object i)) (sym are.code.section_is);
  whole = are.code.whole;
  some = are.some;
  text = are.text;
}

pub plan_is : (bytes name : List ℕ) (plan : Plan) → planned bytes name ≡ Ok plan → IsPlan bytes name plan
plan_is bytes name plan e =
    let unnamed = length name == 0 in
    let a = provided_ok (nat_le (length name) 255) LongName (after (opened bytes) (with_object name)) plan e in
    let b = after_ok (opened bytes) (with_object name) plan a.1 in
    let object = b.0 in
    let roles = roles_in object name object.sections in
    let c = after_ok (symbols_of object roles.symbols) (with_symbols object roles unnamed) plan b.2 in
    let d = after_ok (maps_in roles.maps) (with_maps object roles unnamed c.0) plan c.2 in
    let f = after_ok (chosen_in roles.chosen roles.text unnamed) (with_chosen object roles c.0 d.0) plan d.2 in
    let g = after_ok (parts_in object roles c.0 f.0) (with_parts object roles c.0 d.0) plan f.2 in
    subst (IsPlan bytes name) (ok_same _ plan g.2)
    (made_is bytes name object c.0 d.0 f.0 g.0 b.1 f.1 (parts_are object roles c.0 f.0 g.0 g.1))
