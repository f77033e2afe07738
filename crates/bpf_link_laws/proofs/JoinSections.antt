-- The section of the code, as it is found in a joined object.
use Rattle.std.proofs.Common.{◌≡◌, ◌≢◌, ◌<◌, ◌≤◌, ◌⊎◌, inl, inr, ℕ, ◌+◌, ◌-◌, ◌*◌, ◌/◌, ◌%◌, ◌==◌, nat_le, nat_lt, Bool, true, false, List, [], ◌++◌, Result, Ok, Err, length, get_or, refl, sym, subst, ap, ◌∙◌, arith, length-append}
use Rattle.std.specs.Prelude.{codes, if◌then◌else◌, min, not, ◌&&◌, ◌||◌, slice_range}
use Rattle.std.proofs.lemmas.Bool.Decides.{nat_tests}
use Rattle.std.proofs.lemmas.List.{get_or_append_left}
use Rattle.bpf_isa.specs.Words.{u16_at}
use Rattle.bpf_link.specs.declared.fault.LinkFault.{LinkFault}
use Rattle.bpf_link.specs.declared.fault.LinkFault.TheVariants as link
use Rattle.bpf_link.specs.declared.layout.SectionHeader.{SectionHeader}
use Rattle.bpf_link.specs.declared.plan.Plan.{Plan}
use Rattle.bpf_link.specs.declared.sections.Found.{Found}
use Rattle.bpf_link.specs.declared.sections.Found.TheVariants.{Nothing, Only, Several}
use Rattle.bpf_link.specs.Layout.{section_header}
use Rattle.bpf_link.specs.MapTypes.{section_bytes}
use Rattle.bpf_link.specs.Objects.{Elf, no_section, section_at}
use Rattle.bpf_link.specs.Plans.{bytes_of, chosen_in}
use Rattle.bpf_link.specs.Sections.{found, is_chosen, is_code, is_data, is_named, is_symbols, is_text, name_at}
use Rattle.bpf_join.specs.Codes.{joined_code}
use Rattle.bpf_join.specs.Joined.{both_parts, joined_bytes, parts, section_count, with_code, with_names}
use Rattle.bpf_join.specs.Names.{all_names, front_names, lie_alike, section_names, shares_names, strings_at, symbol_names}
use Rattle.bpf_join.specs.Tables.{first_header, is_strings, lies_at, names_index, second_header}
use Rattle.bpf_join.specs.declared.places.Places.{Places}
use Rattle.bpf_link_laws.specs.Files.{HasNames, HasSymbolNames, IsText}
use Rattle.bpf_link_laws.proofs.Files.{Room, behind_code, behind_table, by_tests, code_bytes, end, first_read, if_either, name_byte, names_fit, names_number, records_read, relocations_read, second_read, sections_at, sections_count, stays_or_goes}
use Rattle.bpf_link_laws.proofs.Inversions.{IsPlan, Opens, is_less, is_same}
use Rattle.bpf_link_laws.proofs.Names.{Strings, less, name_same, text_name}
use Rattle.bpf_link_laws.proofs.Orders.{cut_less, cut_most, in_both, last_two, later_most, less_most, minus_more, rest_is, rest_less, which, within}
use Rattle.bpf_link_laws.proofs.Pieces.{grows, slice_at, slice_length}
use Rattle.bpf_link_laws.proofs.Searches.{NoneOf, is_none, is_one, none_found, one_found}

-- a section of code that has a name, or hasn't
abbrev pub tests : Bool → List ℕ → Elf → SectionHeader → Bool
tests flag name object section = is_code section && (if flag then is_named object section name else not (is_named object section name))

-- what is joined, and what is made of it
pub record Joining (a section : List ℕ) (first second : Plan) (table : ℕ) (places records : List ℕ) : Type 0 where
  pub plan : IsPlan a section first
  pub room : Room first second table places records
  pub table_is : first.table ≡ Only table
  pub names : HasNames first.object
  pub symbols : HasSymbolNames first
  pub text : IsText section

kind_no_code : (flag : Bool) (name : List ℕ) (object : Elf) (section : SectionHeader) (k : ℕ) → section.kind ≡ k → (k == 1) ≡ false → tests flag name object section ≡ false
kind_no_code flag name object section k e other =
    ap (λ k. ((k == 1) && ((section.flags / 4 % 2 == 1) && nat_lt 0 section.size)) && (if flag then is_named object section name else not (is_named object section name))) e
    ∙ ap (λ b. (b && ((section.flags / 4 % 2 == 1) && nat_lt 0 section.size)) && (if flag then is_named object section name else not (is_named object section name))) other

either : (a b : Bool) → (a || b) ≡ true → (a ≡ true) ⊎ (b ≡ true)
either true b e = inl refl
either false b e = inr e

both : (a b : Bool) → (a && b) ≡ true → (a ≡ true) × (b ≡ true)
both true b e = (refl, e)
both false b e = absurd (clash e)
  where
    clash : ◌≡◌ {A = Bool} false true → ⊥
    clash e = cc

is_other : (a b : ℕ) → a ≢ b → (a == b) ≡ false
is_other a b h = grind (arith, nat_tests)

same_is : (a b : ℕ) → a ≡ b → (a == b) ≡ true
same_is a b h = grind (arith, nat_tests)

-- the section of symbols, and those of strings
table_kind : (a section : List ℕ) (first second : Plan) (table : ℕ) (places records : List ℕ) → Joining a section first second table places records → (section_at first.object table).kind ≡ 2
table_kind a section first second table places records it =
    let one = is_one is_symbols first.object.sections no_section table (sym it.plan.table ∙ it.table_is) in
    is_same (section_at first.object table).kind 2 one.holds

strings_kind : (a section : List ℕ) (first second : Plan) (table : ℕ) (places records : List ℕ) → Joining a section first second table places records
    → (i : ℕ) → i < length first.object.sections → is_strings first.object table i ≡ true → (section_at first.object i).kind ≡ 3
strings_kind a section first second table places records it i inside e = by (either (i == names_index first.object) (i == (section_at first.object table).link) e)
  where
    by : ((i == names_index first.object) ≡ true) ⊎ ((i == (section_at first.object table).link) ≡ true) → (section_at first.object i).kind ≡ 3
    by (inl h) = ap (λ i. (section_at first.object i).kind) (is_same i (names_index first.object) h) ∙ it.names.kind
    by (inr h) =
        let here = is_same i (section_at first.object table).link h in
        ap (λ i. (section_at first.object i).kind) here ∙ it.symbols table it.table_is (subst (λ n. n < length first.object.sections) here inside)

-- where the names stand in both
pub index_inside : (a section : List ℕ) (first : Plan) → IsPlan a section first → names_index first.object < length first.object.sections
index_inside a section first plan =
    let o = plan.object in
    let here : u16_at a 62 < length first.object.sections = subst (λ n. u16_at a 62 < n) (sym o.count) o.names_in in
    subst (λ n. n < length first.object.sections) (sym o.index) here

names_begin : (a section : List ℕ) (first : Plan) → IsPlan a section first → first.object.names ≡ (section_at first.object (names_index first.object)).offset
names_begin a section first plan =
    let o = plan.object in
    o.names ∙ ap (λ (h : SectionHeader). h.offset) (sym (o.sections (u16_at a 62) o.names_in)) ∙ ap (λ i. (section_at first.object i).offset) (sym o.index)

abbrev own_strings : Plan → List ℕ
own_strings first =
    let it = section_at first.object (names_index first.object) in
    slice_range first.object.bytes it.offset (it.offset + it.size)

strings_there : (object : Elf) (i : ℕ) → i < length object.sections → (section_at object i).offset + (section_at object i).size ≤ length object.bytes
    → strings_at object i ≡ slice_range object.bytes (section_at object i).offset ((section_at object i).offset + (section_at object i).size)
strings_there object i inside fits =
    let it = section_at object i in
    ap (λ b. if b then section_bytes object it else []) (less_is i (length object.sections) inside)
    ∙ ap (λ b. if b then bytes_of object it else []) (most_is (it.offset + it.size) (length object.bytes) fits)
  where
    less_is : (a b : ℕ) → a < b → nat_lt a b ≡ true
    less_is a b h = grind (arith, nat_tests)

    most_is : (a b : ℕ) → a ≤ b → nat_le a b ≡ true
    most_is a b h = grind (arith, nat_tests)

-- the names of a joined object begin with those of the first one's sections
shared : (first : Plan) (table : ℕ) → first.table ≡ Only table → HasNames first.object → shares_names first.object first.table ≡ true → symbol_names first.object first.table ≡ own_strings first
shared first table is names e =
    let object = first.object in
    let link = (section_at object table).link in
    let index = names_index object in
    let e2 : shares_names object (Only table) ≡ true = ap (shares_names object) (sym is) ∙ e in
    let a = both (nat_lt table (length object.sections)) (lie_alike object link index) e2 in
    let b = both (nat_lt link (length object.sections)) _ a.1 in
    let c = both (nat_lt index (length object.sections)) _ b.1 in
    let d = both ((section_at object link).offset == (section_at object index).offset) ((section_at object link).size == (section_at object index).size) c.1 in
    let offset = is_same (section_at object link).offset (section_at object index).offset d.0 in
    let size = is_same (section_at object link).size (section_at object index).size d.1 in
    let fits : (section_at object link).offset + (section_at object link).size ≤ length object.bytes = let h = names.inside in omega (arith, offset, size, h) in
    ap (symbol_names object) is
    ∙ ap (λ b. if b then strings_at object link else []) a.0
    ∙ strings_there object link (is_less link (length object.sections) b.0) fits
    ∙ ap (λ o. slice_range object.bytes o (o + (section_at object link).size)) offset
    ∙ ap (λ s. slice_range object.bytes (section_at object index).offset ((section_at object index).offset + s)) size

pub record NamesBegin (first second : Plan) : Type 0 where
  pub longer : length (own_strings first) ≤ length (all_names first second)
  pub same : (k : ℕ) → k < length (own_strings first) → get_or (all_names first second) k 0 ≡ get_or (own_strings first) k 0

fronted : (x y s z : List ℕ) → x ≡ s → (length s ≤ length (x ++ y ++ z)) × ((k : ℕ) → k < length s → get_or (x ++ y ++ z) k 0 ≡ get_or s k 0)
fronted x y s z e =
    let a = length-append (x ++ y) z in
    let b = length-append x y in
    let c = ap length e in (
      omega (arith, a, b, c),
      λ k inside.
          get_or_append_left (x ++ y) z 0 k (omega (arith, b, c)) ∙ get_or_append_left x y 0 k (omega (arith, c)) ∙ ap (λ l. get_or l k 0) e,
    )

second_front : (x y s z : List ℕ) → x ≡ [] → y ≡ s → (length s ≤ length (x ++ y ++ z)) × ((k : ℕ) → k < length s → get_or (x ++ y ++ z) k 0 ≡ get_or s k 0)
second_front x y s z e h =
    let is : x ++ y ≡ s = ap (λ l. l ++ y) e ∙ h in
    let a = length-append (x ++ y) z in
    let c = ap length is in
    (omega (arith, a, c), λ k inside. get_or_append_left (x ++ y) z 0 k (omega (arith, c)) ∙ ap (λ l. get_or l k 0) is)

names_first : (first second : Plan) (table : ℕ) → first.table ≡ Only table → HasNames first.object → names_index first.object < length first.object.sections → NamesBegin first second
names_first first second table is names inside = by (shares_names first.object first.table) refl
  where
    by : (b : Bool) → shares_names first.object first.table ≡ b → NamesBegin first second
    by true e =
        let h = second_front (front_names first) (symbol_names first.object first.table) (own_strings first) (symbol_names second.object second.table)
        (ap (λ b. if b then [] else section_names first.object) e) (shared first table is names e) in
        record { longer = h.0; same = h.1 }
    by false e =
        let h = fronted (front_names first) (symbol_names first.object first.table) (own_strings first) (symbol_names second.object second.table)
        (ap (λ b. if b then [] else section_names first.object) e ∙ strings_there first.object (names_index first.object) inside names.inside) in
        record { longer = h.0; same = h.1 }

code_kind : (flag : Bool) (name : List ℕ) (object : Elf) (section : SectionHeader) → tests flag name object section ≡ true → is_code section ≡ true
code_kind flag name object section e = (both (is_code section) (if flag then is_named object section name else not (is_named object section name)) e).0

-- a section of the first object, in the table
section_again : (a section : List ℕ) (first second : Plan) (table : ℕ) (places records : List ℕ) → Joining a section first second table places records
    → (object : Elf) → Opens (joined_bytes first second table places records) object → (i : ℕ) → i < section_count first second
    → section_at object i ≡ section_header (joined_bytes first second table places records) (end first second places records + 64 * i)
section_again a section first second table places records it object o i inside =
    o.sections i (subst (λ n. i < n) (sym (sections_count first second table places records it.room)) inside)
    ∙ ap (λ n. section_header (joined_bytes first second table places records) (n + 64 * i)) (sections_at first second table places records it.room)

pub first_again : (a section : List ℕ) (first second : Plan) (table : ℕ) (places records : List ℕ) → Joining a section first second table places records
    → (object : Elf) → Opens (joined_bytes first second table places records) object → (i : ℕ) → i < length first.object.sections
    → section_at object i ≡ first_header first table (parts first second places records) i
first_again a section first second table places records it object o i inside =
    section_again a section first second table places records it object o i (in_both i (length first.object.sections) (length second.object.sections) inside) ∙ first_read first second table places records it.room i inside

-- the names of an object that is opened again
pub names_again : (a section : List ℕ) (first second : Plan) (table : ℕ) (places records : List ℕ) → Joining a section first second table places records
    → (c : ℕ) → c ≡ first.parts.code.section → (section_at first.object c).kind ≡ 1
    → (object : Elf) → Opens (joined_bytes first second table places records) object → object.names ≡ length (with_code first second)
names_again a section first second table places records it c here kind object o =
    let index = names_index first.object in
    let inside : index < length first.object.sections = index_inside a section first it.plan in
    let number : u16_at (joined_bytes first second table places records) 62 ≡ index =
    names_number first second table places records it.room ∙ ap (λ bytes. u16_at bytes 62) it.plan.object.bytes_are ∙ sym it.plan.object.index in
    let no_code : index ≢ first.parts.code.section = λ e. apart kind it.names.kind (ap (λ i. (section_at first.object i).kind) (here ∙ sym e)) in
    let no_table : index ≢ table = λ e. other (table_kind a section first second table places records it) it.names.kind (ap (λ i. (section_at first.object i).kind) e) in
    let at = parts first second places records in
    let it_is = section_at first.object index in
    let strings : is_strings first.object table index ≡ true = ap (λ b. b || (index == (section_at first.object table).link)) (same_is index index refl) in
    let header : first_header first table at index ≡ lies_at it_is (length (with_code first second)) (length (with_names first second)) =
    ap (λ b. if b then lies_at it_is at.code at.strings else behind_code first table at index) (is_other index first.parts.code.section no_code)
    ∙ ap (λ b. if b then lies_at it_is at.symbols at.relocations else behind_table first table at index) (is_other index table no_table)
    ∙ ap (λ b. if b then lies_at it_is at.strings at.symbols else stays_or_goes first index) strings in
    o.names
    ∙ ap (λ n. (section_header (joined_bytes first second table places records) (n + 64 * u16_at (joined_bytes first second table places records) 62)).offset) (sections_at first second table places records it.room)
    ∙ ap (λ n. (section_header (joined_bytes first second table places records) (end first second places records + 64 * n)).offset) number
    ∙ ap (λ (h : SectionHeader). h.offset) (first_read first second table places records it.room index inside ∙ header)
  where
    apart : {x y : ℕ} → x ≡ 1 → y ≡ 3 → x ≡ y → ⊥
    apart p q e = omega arith

    other : {x y : ℕ} → x ≡ 2 → y ≡ 3 → y ≡ x → ⊥
    other p q e = omega arith

-- a name is the same in both
strings_are : (a section : List ℕ) (first second : Plan) (table : ℕ) (places records : List ℕ) → Joining a section first second table places records
    → Strings first.object.bytes (section_at first.object (names_index first.object)).offset (joined_bytes first second table places records) (length (with_code first second)) (section_at first.object (names_index first.object)).size
strings_are a section first second table places records it =
    let index = section_at first.object (names_index first.object) in
    let begin = names_first first second table it.table_is it.names (index_inside a section first it.plan) in
    let cut : length (own_strings first) ≡ index.offset + index.size - index.offset =
    slice_length first.object.bytes index.offset (index.offset + index.size) (later_most index.offset index.size) it.names.inside in
    let same : (k : ℕ) → k < index.size → get_or first.object.bytes (index.offset + k) 0 ≡ get_or (joined_bytes first second table places records) (length (with_code first second) + k) 0 =
    λ k low. sym (name_byte first second table places records it.room k (less_most k (length (own_strings first)) (length (all_names first second)) (cut_less (length (own_strings first)) index.offset index.size k cut low) begin.longer)
    ∙ begin.same k (cut_less (length (own_strings first)) index.offset index.size k cut low)
    ∙ slice_at first.object.bytes index.offset (index.offset + index.size) k (within index.offset index.size k low)) in
    record {
      same = same;
      here = it.names.inside;
      there = names_fit first second table places records it.room index.size (cut_most (length (own_strings first)) index.offset index.size (length (all_names first second)) cut begin.longer);
      some = it.names.some;
      ends = it.names.ends;
    }

pub named_again : (a section : List ℕ) (first second : Plan) (table : ℕ) (places records : List ℕ) → Joining a section first second table places records
    → (object : Elf) → object.bytes ≡ joined_bytes first second table places records → object.names ≡ length (with_code first second)
    → (i : ℕ) → i < length first.object.sections → (name : List ℕ) → IsText name
    → is_named object (section_at first.object i) name ≡ is_named first.object (section_at first.object i) name
named_again a section first second table places records it object bytes names i inside name text =
    let index = section_at first.object (names_index first.object) in
    let k = (section_at first.object i).name in
    ap (λ b. name_at b (object.names + k) name) bytes
    ∙ ap (λ n. name_at (joined_bytes first second table places records) (n + k) name) names
    ∙ sym (name_same first.object.bytes index.offset (joined_bytes first second table places records) (length (with_code first second)) index.size
    (strings_are a section first second table places records it) k (it.names.begin i inside) name text)
    ∙ ap (λ n. name_at first.object.bytes (n + k) name) (sym (names_begin a section first it.plan))

-- a section of the first object that isn't the code's passes no test that it didn't pass
first_other : (a section : List ℕ) (first second : Plan) (table : ℕ) (places records : List ℕ) → Joining a section first second table places records
    → (object : Elf) → object.bytes ≡ joined_bytes first second table places records → object.names ≡ length (with_code first second)
    → (flag : Bool) (name : List ℕ) → IsText name → (i : ℕ) → i < length first.object.sections → i ≢ first.parts.code.section
    → tests flag name first.object (section_at first.object i) ≡ false → tests flag name object (first_header first table (parts first second places records) i) ≡ false
first_other a section first second table places records it object bytes names flag name text i inside apart fails =
    let at = parts first second places records in
    let h = section_at first.object i in
    by_tests (λ s. tests flag name object s ≡ false) first table at i
    (λ e. absurd (apart (is_same i first.parts.code.section e)))
    (λ e. kind_no_code flag name object (lies_at h at.symbols at.relocations) 2
    (ap (λ i. (section_at first.object i).kind) (is_same i table e) ∙ table_kind a section first second table places records it) refl)
    (λ e. kind_no_code flag name object (lies_at h at.strings at.symbols) 3 (strings_kind a section first second table places records it i inside e) refl)
    refl
    (ap (λ b. is_code h && (if flag then b else not b)) (named_again a section first second table places records it object bytes names i inside name text) ∙ fails)

-- nor do the sections behind them
data_no_code : (flag : Bool) (name : List ℕ) (object : Elf) (it : SectionHeader) → (it.flags / 4 % 2 == 0) ≡ true → tests flag name object it ≡ false
data_no_code flag name object it e =
    let zero_there = is_same (it.flags / 4 % 2) 0 e in
    ap (λ n. ((it.kind == 1) && ((n == 1) && nat_lt 0 it.size)) && (if flag then is_named object it name else not (is_named object it name))) zero_there
    ∙ falls (it.kind == 1) (if flag then is_named object it name else not (is_named object it name))
  where
    falls : (a b : Bool) → ((a && false) && b) ≡ false
    falls true b = refl
    falls false b = refl

second_other : (flag : Bool) (name : List ℕ) (object : Elf) (second : Plan) (at : Places) (i : ℕ) → tests flag name object (second_header second at i) ≡ false
second_other flag name object second at i =
    let it = section_at second.object i in
    let moved : SectionHeader = record it { name = 0; offset = min (it.offset + at.second) 18446744073709551615 } in
    let fails : is_data second.object it ≡ true → tests flag name object moved ≡ false = λ e.
    let a = both ((it.kind == 1) || (it.kind == 8)) _ e in
    let b = both (it.flags / 2 % 2 == 1) _ a.1 in
    let c = both (it.flags / 4 % 2 == 0) _ b.1 in
    data_no_code flag name object moved c.0 in
    if_either (λ s. tests flag name object s ≡ false) (is_data second.object it) moved no_section fails (λ e. refl)

same_or : (a b : ℕ) → (a ≡ b) ⊎ (a ≢ b)
same_or a b = grind arith

last_other : (first second : Plan) (table : ℕ) (places records : List ℕ) → Room first second table places records → (flag : Bool) (name : List ℕ) (object : Elf) (i : ℕ)
    → (i ≡ length first.object.sections + length second.object.sections) ⊎ (i ≡ length first.object.sections + length second.object.sections + 1)
    → tests flag name object (section_header (joined_bytes first second table places records) (end first second places records + 64 * i)) ≡ false
last_other first second table places records room flag name object i (inl here) =
    ap (λ i. tests flag name object (section_header (joined_bytes first second table places records) (end first second places records + 64 * i))) here
    ∙ ap (tests flag name object) (relocations_read first second table places records room)
last_other first second table places records room flag name object i (inr here) =
    ap (λ i. tests flag name object (section_header (joined_bytes first second table places records) (end first second places records + 64 * i))) here
    ∙ ap (tests flag name object) (records_read first second table places records room)

read_other : (first second : Plan) (table : ℕ) (places records : List ℕ) → Room first second table places records → (flag : Bool) (name : List ℕ) (object : Elf) (i : ℕ)
    → length first.object.sections ≤ i → i < section_count first second
    → tests flag name object (section_header (joined_bytes first second table places records) (end first second places records + 64 * i)) ≡ false
read_other first second table places records room flag name object i low high = by (which i (length first.object.sections + length second.object.sections))
  where
    by : (i < length first.object.sections + length second.object.sections) ⊎ (length first.object.sections + length second.object.sections ≤ i)
        → tests flag name object (section_header (joined_bytes first second table places records) (end first second places records + 64 * i)) ≡ false
    by (inl less) =
        let place : i ≡ length first.object.sections + (i - length first.object.sections) = rest_is i (length first.object.sections) low in
        let inside : i - length first.object.sections < length second.object.sections = rest_less i (length first.object.sections) (length second.object.sections) low less in
        ap (λ i. tests flag name object (section_header (joined_bytes first second table places records) (end first second places records + 64 * i))) place
        ∙ ap (tests flag name object) (second_read first second table places records room (i - length first.object.sections) inside)
        ∙ second_other flag name object second (parts first second places records) (i - length first.object.sections)
    by (inr more) = last_other first second table places records room flag name object i (last_two i (length first.object.sections + length second.object.sections) more high)

others : (a section : List ℕ) (first second : Plan) (table : ℕ) (places records : List ℕ) → Joining a section first second table places records
    → (object : Elf) → Opens (joined_bytes first second table places records) object
    → (flag : Bool) (name : List ℕ) → (i : ℕ) → length first.object.sections ≤ i → i < section_count first second → tests flag name object (section_at object i) ≡ false
others a section first second table places records it object o flag name i low high =
    ap (tests flag name object) (section_again a section first second table places records it object o i high)
    ∙ read_other first second table places records it.room flag name object i low high

-- the section of the code again
pub code_header : (first : Plan) (table : ℕ) (at : Places) → first_header first table at first.parts.code.section ≡ lies_at (section_at first.object first.parts.code.section) at.code at.strings
code_header first table at =
    ap (λ b. if b then lies_at (section_at first.object first.parts.code.section) at.code at.strings else behind_code first table at first.parts.code.section)
    (same_is first.parts.code.section first.parts.code.section refl)

code_again : (h : SectionHeader) (from to : ℕ) → is_code h ≡ true → from < to → is_code (lies_at h from to) ≡ true
code_again h from to e order =
    let a = both (h.kind == 1) _ e in
    let b = both (h.flags / 4 % 2 == 1) _ a.1 in
    ap (λ k. k && ((h.flags / 4 % 2 == 1) && nat_lt 0 (to - from))) a.0
    ∙ ap (λ f. f && nat_lt 0 (to - from)) b.0
    ∙ less 0 (to - from) (minus_more from to order)

code_passes : (a section : List ℕ) (first second : Plan) (table : ℕ) (places records : List ℕ) → Joining a section first second table places records
    → (object : Elf) → object.bytes ≡ joined_bytes first second table places records → object.names ≡ length (with_code first second)
    → (flag : Bool) (name : List ℕ) → IsText name → is_code (section_at first.object first.parts.code.section) ≡ true → 0 < length (joined_code first second)
    → tests flag name object (first_header first table (parts first second places records) first.parts.code.section) ≡ tests flag name first.object (section_at first.object first.parts.code.section)
code_passes a section first second table places records it object bytes names flag name text code some =
    let c = first.parts.code.section in
    let h = section_at first.object c in
    let again = lies_at h (length (both_parts first second)) (length (with_code first second)) in
    ap (tests flag name object) (code_header first table (parts first second places records))
    ∙ ap (λ b. b && (if flag then is_named object again name else not (is_named object again name)))
    (code_again h (length (both_parts first second)) (length (with_code first second)) code (grows (both_parts first second) (joined_code first second) some) ∙ sym code)
    ∙ ap (λ b. is_code h && (if flag then b else not b)) (named_again a section first second table places records it object bytes names c it.room.code name text)

-- all sections
all_other : (a section : List ℕ) (first second : Plan) (table : ℕ) (places records : List ℕ) → Joining a section first second table places records
    → (object : Elf) → Opens (joined_bytes first second table places records) object → object.names ≡ length (with_code first second)
    → (flag : Bool) (name : List ℕ) → IsText name → (i : ℕ) → i < length object.sections → i ≢ first.parts.code.section
    → (i < length first.object.sections → tests flag name first.object (section_at first.object i) ≡ false) → tests flag name object (section_at object i) ≡ false
all_other a section first second table places records it object o names flag name text i inside apart fails = by (which i (length first.object.sections))
  where
    by : (i < length first.object.sections) ⊎ (length first.object.sections ≤ i) → tests flag name object (section_at object i) ≡ false
    by (inl low) =
        ap (tests flag name object) (first_again a section first second table places records it object o i low)
        ∙ first_other a section first second table places records it object o.bytes_are names flag name text i low apart (fails low)
    by (inr high) =
        others a section first second table places records it object o flag name i high
        (subst (λ n. i < n) (o.count ∙ sections_count first second table places records it.room) inside)

there : (a section : List ℕ) (first second : Plan) (table : ℕ) (places records : List ℕ) → Joining a section first second table places records
    → (object : Elf) → Opens (joined_bytes first second table places records) object → first.parts.code.section < length object.sections
there a section first second table places records it object o =
    subst (λ n. first.parts.code.section < n) (sym (o.count ∙ sections_count first second table places records it.room))
    (in_both first.parts.code.section (length first.object.sections) (length second.object.sections) it.room.code)

again_one : (a section : List ℕ) (first second : Plan) (table : ℕ) (places records : List ℕ) → Joining a section first second table places records
    → (object : Elf) → Opens (joined_bytes first second table places records) object → object.names ≡ length (with_code first second) → 0 < length (joined_code first second)
    → (flag : Bool) (name : List ℕ) → IsText name → found (tests flag name first.object) first.object.sections ≡ Only first.parts.code.section
    → found (tests flag name object) object.sections ≡ Only first.parts.code.section
again_one a section first second table places records it object o names some flag name text e =
    let c = first.parts.code.section in
    let one = is_one (tests flag name first.object) first.object.sections no_section c e in
    let code = code_kind flag name first.object (section_at first.object c) one.holds in
    one_found (tests flag name object) object.sections no_section c (record {
      inside = there a section first second table places records it object o;
      holds = ap (tests flag name object) (first_again a section first second table places records it object o c it.room.code)
          ∙ code_passes a section first second table places records it object o.bytes_are names flag name text code some ∙ one.holds;
      others = λ i inside apart. all_other a section first second table places records it object o names flag name text i inside apart (λ low. one.others i low apart);
    })

again_none : (a section : List ℕ) (first second : Plan) (table : ℕ) (places records : List ℕ) → Joining a section first second table places records
    → (object : Elf) → Opens (joined_bytes first second table places records) object → object.names ≡ length (with_code first second) → 0 < length (joined_code first second)
    → (flag : Bool) (name : List ℕ) → IsText name → is_code (section_at first.object first.parts.code.section) ≡ true → found (tests flag name first.object) first.object.sections ≡ Nothing
    → found (tests flag name object) object.sections ≡ Nothing
again_none a section first second table places records it object o names some flag name text code e =
    let c = first.parts.code.section in
    let none = is_none (tests flag name first.object) first.object.sections no_section e in
    none_found (tests flag name object) object.sections no_section (λ i inside. by i inside none (same_or i c))
  where
    by : (i : ℕ) → i < length object.sections → NoneOf (tests flag name first.object) first.object.sections no_section → (i ≡ first.parts.code.section) ⊎ (i ≢ first.parts.code.section)
        → tests flag name object (section_at object i) ≡ false
    by i inside none (inl here) =
        ap (λ i. tests flag name object (section_at object i)) here
        ∙ ap (tests flag name object) (first_again a section first second table places records it object o first.parts.code.section it.room.code)
        ∙ code_passes a section first second table places records it object o.bytes_are names flag name text code some
        ∙ none first.parts.code.section it.room.code
    by i inside none (inr apart) = all_other a section first second table places records it object o names flag name text i inside apart (λ low. none i low)

-- which one is chosen
chosen_is : (f t : Found) (unnamed : Bool) (c : ℕ) → chosen_in f t unnamed ≡ Ok c → (f ≡ Only c) ⊎ ((f ≡ Nothing) × ((unnamed ≡ true) × (t ≡ Only c)))
chosen_is (Only i) t unnamed c e = inl (ap Only (same e))
  where
    same : ◌≡◌ {A = Result ℕ LinkFault} (Ok i) (Ok c) → i ≡ c
    same e = cc
chosen_is Several t unnamed c e = absurd (clash e)
  where
    clash : ◌≡◌ {A = Result ℕ LinkFault} (Err link.ManySections) (Ok c) → ⊥
    clash e = cc
chosen_is Nothing t false c e = absurd (clash e)
  where
    clash : ◌≡◌ {A = Result ℕ LinkFault} (Err link.NoSection) (Ok c) → ⊥
    clash e = cc
chosen_is Nothing Nothing true c e = absurd (clash e)
  where
    clash : ◌≡◌ {A = Result ℕ LinkFault} (Err link.NoSection) (Ok c) → ⊥
    clash e = cc
chosen_is Nothing (Only i) true c e = inr (refl, (refl, ap Only (same e)))
  where
    same : ◌≡◌ {A = Result ℕ LinkFault} (Ok i) (Ok c) → i ≡ c
    same e = cc
chosen_is Nothing Several true c e = absurd (clash e)
  where
    clash : ◌≡◌ {A = Result ℕ LinkFault} (Err link.ManySections) (Ok c) → ⊥
    clash e = cc

-- the tests by which a section is chosen
chosen_unnamed : (object : Elf) (name : List ℕ) → (length name == 0) ≡ true → found (is_chosen object name) object.sections ≡ found (tests false (codes ".text") object) object.sections
chosen_unnamed object name e =
    ap (λ b. found (λ s. is_code s && (if b then not (is_named object s (codes ".text")) else is_named object s name)) object.sections) e

chosen_named : (object : Elf) (name : List ℕ) → (length name == 0) ≡ false → found (is_chosen object name) object.sections ≡ found (tests true name object) object.sections
chosen_named object name e =
    ap (λ b. found (λ s. is_code s && (if b then not (is_named object s (codes ".text")) else is_named object s name)) object.sections) e

-- the same section is chosen again
pub record Same (object : Elf) (section : List ℕ) (c : ℕ) : Type 0 where
  pub same : chosen_in (found (is_chosen object section) object.sections) (found (is_text object) object.sections) (length section == 0) ≡ Ok c

chosen_by : (object : Elf) (section : List ℕ) (c : ℕ) → found (is_chosen object section) object.sections ≡ Only c → Same object section c
chosen_by object section c e = record { same = ap (λ f. chosen_in f (found (is_text object) object.sections) (length section == 0)) e }

chosen_text : (object : Elf) (section : List ℕ) (c : ℕ) → found (is_chosen object section) object.sections ≡ Nothing → (length section == 0) ≡ true → found (is_text object) object.sections ≡ Only c → Same object section c
chosen_text object section c e u t = record {
  same = ap (λ f. chosen_in f (found (is_text object) object.sections) (length section == 0)) e ∙ ap (λ f. chosen_in Nothing f (length section == 0)) t ∙ ap (chosen_in Nothing (Only c)) u;
}

no_both : {b : Bool} → b ≡ true → b ≡ false → ⊥
no_both p q = clash (sym p ∙ q)
  where
    clash : ◌≡◌ {A = Bool} true false → ⊥
    clash e = cc

-- what is chosen in the first object is code
code_there : (a section : List ℕ) (first : Plan) → IsPlan a section first → is_code (section_at first.object first.parts.code.section) ≡ true
code_there a section first plan = by (chosen_is _ _ (length section == 0) first.parts.code.section plan.chosen)
  where
    by : (found (is_chosen first.object section) first.object.sections ≡ Only first.parts.code.section)
        ⊎ ((found (is_chosen first.object section) first.object.sections ≡ Nothing) × (((length section == 0) ≡ true) × (found (is_text first.object) first.object.sections ≡ Only first.parts.code.section)))
        → is_code (section_at first.object first.parts.code.section) ≡ true
    by (inl h) =
        (both (is_code (section_at first.object first.parts.code.section)) _ (is_one (is_chosen first.object section) first.object.sections no_section first.parts.code.section h).holds).0
    by (inr h) =
        (both (is_code (section_at first.object first.parts.code.section)) _ (is_one (is_text first.object) first.object.sections no_section first.parts.code.section h.1.1).holds).0

pub code_kind_there : (a section : List ℕ) (first : Plan) → IsPlan a section first → (section_at first.object first.parts.code.section).kind ≡ 1
code_kind_there a section first plan =
    is_same (section_at first.object first.parts.code.section).kind 1 (both ((section_at first.object first.parts.code.section).kind == 1) _ (code_there a section first plan)).0

pub chosen_again : (a section : List ℕ) (first second : Plan) (table : ℕ) (places records : List ℕ) → Joining a section first second table places records
    → (object : Elf) → Opens (joined_bytes first second table places records) object → object.names ≡ length (with_code first second) → 0 < length (joined_code first second)
    → Same object section first.parts.code.section
chosen_again a section first second table places records it object o names some =
    by (chosen_is (found (is_chosen first.object section) first.object.sections) (found (is_text first.object) first.object.sections) (length section == 0) first.parts.code.section it.plan.chosen) (length section == 0) refl
  where
    one : (flag : Bool) (name : List ℕ) → IsText name → found (tests flag name first.object) first.object.sections ≡ Only first.parts.code.section → found (tests flag name object) object.sections ≡ Only first.parts.code.section
    one = again_one a section first second table places records it object o names some

    none : (flag : Bool) (name : List ℕ) → IsText name → found (tests flag name first.object) first.object.sections ≡ Nothing → found (tests flag name object) object.sections ≡ Nothing
    none flag name text e = again_none a section first second table places records it object o names some flag name text (code_there a section first it.plan) e

    by : (found (is_chosen first.object section) first.object.sections ≡ Only first.parts.code.section)
        ⊎ ((found (is_chosen first.object section) first.object.sections ≡ Nothing) × (((length section == 0) ≡ true) × (found (is_text first.object) first.object.sections ≡ Only first.parts.code.section)))
        → (u : Bool) → (length section == 0) ≡ u → Same object section first.parts.code.section
    by (inl h) true u =
        chosen_by object section first.parts.code.section (chosen_unnamed object section u ∙ one false (codes ".text") text_name (sym (chosen_unnamed first.object section u) ∙ h))
    by (inl h) false u =
        chosen_by object section first.parts.code.section (chosen_named object section u ∙ one true section it.text (sym (chosen_named first.object section u) ∙ h))
    by (inr h) true u =
        chosen_text object section first.parts.code.section (chosen_unnamed object section u ∙ none false (codes ".text") text_name (sym (chosen_unnamed first.object section u) ∙ h.0)) u (one true (codes ".text") text_name h.1.1)
    by (inr h) false u = absurd (no_both h.1.0 u)

-- the code of a plan of the joined object
pub record CodeIs (first second : Plan) (plan : Plan) : Type 0 where
  pub section : plan.parts.code.section ≡ first.parts.code.section
  pub slots : plan.parts.code.slots ≡ joined_code first second

ok_number : (x y : ℕ) → ◌≡◌ {A = Result ℕ LinkFault} (Ok x) (Ok y) → x ≡ y
ok_number x y e = cc

pub code_is : (a section : List ℕ) (first second : Plan) (table : ℕ) (places records : List ℕ) → Joining a section first second table places records → 0 < length (joined_code first second)
    → (plan : Plan) → IsPlan (joined_bytes first second table places records) section plan → CodeIs first second plan
code_is a section first second table places records it some plan again =
    let o = again.object in
    let kind = code_kind_there a section first it.plan in
    let names = names_again a section first second table places records it first.parts.code.section refl kind plan.object o in
    let chosen = chosen_again a section first second table places records it plan.object o names some in
    let here : plan.parts.code.section ≡ first.parts.code.section = ok_number _ _ (sym again.chosen ∙ chosen.same) in
    let header : section_at plan.object plan.parts.code.section ≡ lies_at (section_at first.object first.parts.code.section) (length (both_parts first second)) (length (with_code first second)) =
    ap (section_at plan.object) here ∙ first_again a section first second table places records it plan.object o first.parts.code.section it.room.code
    ∙ code_header first table (parts first second places records) in
    record {
      section = here;
      slots = again.code ∙ ap (bytes_of plan.object) header
          ∙ ap (λ bytes. slice_range bytes (length (both_parts first second)) (length (both_parts first second) + (length (with_code first second) - length (both_parts first second)))) o.bytes_are
          ∙ code_bytes first second table places records it.room;
    }
