-- The file of a joined object: where its parts stand, and what its headers read as.
use Rattle.std.proofs.Common.{◌≡◌, ◌<◌, ◌≤◌, ℕ, ◌+◌, ◌-◌, ◌*◌, ◌==◌, Bool, true, false, List, ◌++◌, length, get_or, refl, ap, ◌∙◌, arith, length-append}
use Rattle.std.specs.Prelude.{if◌then◌else◌, min, slice_range}
use Rattle.std.proofs.lemmas.List.{get_or_append_left, get_or-append-add}
use Rattle.bpf_isa.specs.Words.{u16_at}
use Rattle.bpf_link.specs.declared.layout.SectionHeader.{SectionHeader}
use Rattle.bpf_link.specs.declared.plan.Plan.{Plan}
use Rattle.bpf_link.specs.Layout.{section_header, u64_at}
use Rattle.bpf_link.specs.Objects.{no_section, section_at}
use Rattle.bpf_link.specs.Sections.{is_data}
use Rattle.bpf_join.specs.Codes.{joined_code}
use Rattle.bpf_join.specs.Gathered.{gathered}
use Rattle.bpf_join.specs.Joined.{body, both_parts, joined_bytes, more_by, others_by, own_part, parts, section_count, with_code, with_names, with_relocations, with_symbols}
use Rattle.bpf_join.specs.Names.{all_names, whole, zeros_behind}
use Rattle.bpf_join.specs.Symbols.{more_symbols, own_symbols}
use Rattle.bpf_join.specs.Moved.{joined_relocations}
use Rattle.bpf_join.specs.Tables.{first_header, first_headers, header_bytes, headers, is_gone, is_strings, lies_at, records_header, records_section, relocations_header, second_header, second_headers}
use Rattle.bpf_join.specs.declared.places.Places.{Places}
use Rattle.bpf_link_laws.proofs.Headed.{end_small, headed_length, in_table, keeps, stays_62, table_count, table_place}
use Rattle.bpf_link_laws.proofs.Headers.{Fits, header_back, header_length, read_same}
use Rattle.bpf_link_laws.proofs.Orders.{below_16, from_zero, index_less, minus_less, most_less, most_most, moved_in, one_more, place_in}
use Rattle.bpf_link_laws.proofs.Pieces.{Begins, Keeps, begins_here, begins_on, begins_with, gathered_at, gathered_length, part_byte, part_cut, part_fits}

-- where the parts begin
names_begin : (first second : Plan) (places records : List ℕ) → Begins (with_names first second) (body first second places records)
names_begin first second places records =
    let own = own_symbols first second places (records_section first second) (more_by first) in
    let more = more_symbols first second (others_by first) in
    begins_on (with_names first second) (with_relocations first second places) records
    (begins_on (with_names first second) (with_symbols first second places) (joined_relocations first second)
    (begins_on (with_names first second) (with_names first second ++ own) more (begins_here (with_names first second) own)))

symbols_begin : (first second : Plan) (places records : List ℕ) → Begins (with_symbols first second places) (body first second places records)
symbols_begin first second places records =
    begins_on (with_symbols first second places) (with_relocations first second places) records (begins_here (with_symbols first second places) (joined_relocations first second))

relocations_begin : (first second : Plan) (places records : List ℕ) → Begins (with_relocations first second places) (body first second places records)
relocations_begin first second places records = begins_here (with_relocations first second places) records

pub code_begins : (first second : Plan) (places records : List ℕ) → Begins (with_code first second) (body first second places records)
code_begins first second places records =
    begins_with (with_code first second) (with_names first second) (body first second places records)
    (begins_here (with_code first second) (whole (all_names first second))) (names_begin first second places records)

pub both_begins : (first second : Plan) (places records : List ℕ) → Begins (both_parts first second) (body first second places records)
both_begins first second places records =
    begins_with (both_parts first second) (with_code first second) (body first second places records)
    (begins_here (both_parts first second) (joined_code first second)) (code_begins first second places records)

own_first : (first second : Plan) → Begins first.object.bytes (both_parts first second)
own_first first second =
    begins_on first.object.bytes (own_part first) (whole second.object.bytes) (begins_here first.object.bytes (zeros_behind (length first.object.bytes)))

pub own_begins : (first second : Plan) (places records : List ℕ) → Begins first.object.bytes (body first second places records)
own_begins first second places records =
    begins_with first.object.bytes (both_parts first second) (body first second places records) (own_first first second) (both_begins first second places records)

-- where the table of sections begins
abbrev pub end : Plan → Plan → List ℕ → List ℕ → ℕ
end first second places records = length (body first second places records)

-- what is asked of a file to be read again
pub record Room (first second : Plan) (table : ℕ) (places records : List ℕ) : Type 0 where
  pub long : 64 ≤ length first.object.bytes
  pub few : section_count first second < 0xff00
  pub short : length (joined_bytes first second table places records) < 18446744073709551616
  pub code : first.parts.code.section < length first.object.sections
  pub table_in : table < length first.object.sections
  pub own : (i : ℕ) → i < length first.object.sections → Fits (section_at first.object i)
  pub more : (i : ℕ) → i < length second.object.sections → Fits (section_at second.object i)

pub body_long : (first second : Plan) (places records : List ℕ) → 64 ≤ length first.object.bytes → 64 ≤ length (body first second places records)
body_long first second places records long =
    most_most 64 (length first.object.bytes) (length (body first second places records)) long (own_begins first second places records).longer

pub both_long : (first second : Plan) → 64 ≤ length first.object.bytes → 64 ≤ length (both_parts first second)
both_long first second long = most_most 64 (length first.object.bytes) (length (both_parts first second)) long (own_first first second).longer

pub code_long : (first second : Plan) → 64 ≤ length first.object.bytes → 64 ≤ length (with_code first second)
code_long first second long =
    most_most 64 (length (both_parts first second)) (length (with_code first second)) (both_long first second long) (begins_here (both_parts first second) (joined_code first second)).longer

-- the body in the file
pub in_file : (first second : Plan) (table : ℕ) (places records : List ℕ) → Room first second table places records
    → Keeps (joined_bytes first second table places records) (body first second places records)
in_file first second table places records room =
    keeps (body first second places records) (headers first second table (parts first second places records)) (section_count first second) (body_long first second places records room.long)

ends_small : (first second : Plan) (table : ℕ) (places records : List ℕ) → Room first second table places records → end first second places records < 18446744073709551616
ends_small first second table places records room =
    end_small (body first second places records) (headers first second table (parts first second places records)) (section_count first second) (body_long first second places records room.long) room.short

pub sections_at : (first second : Plan) (table : ℕ) (places records : List ℕ) → Room first second table places records
    → u64_at (joined_bytes first second table places records) 40 ≡ end first second places records
sections_at first second table places records room =
    table_place (body first second places records) (headers first second table (parts first second places records)) (section_count first second) (body_long first second places records room.long) room.short

pub sections_count : (first second : Plan) (table : ℕ) (places records : List ℕ) → Room first second table places records
    → u16_at (joined_bytes first second table places records) 60 ≡ section_count first second
sections_count first second table places records room =
    table_count (body first second places records) (headers first second table (parts first second places records)) (section_count first second) (body_long first second places records room.long)
    (below_16 (length first.object.sections) (length second.object.sections) room.few)

pub names_number : (first second : Plan) (table : ℕ) (places records : List ℕ) → Room first second table places records
    → u16_at (joined_bytes first second table places records) 62 ≡ u16_at first.object.bytes 62
names_number first second table places records room =
    stays_62 (body first second places records) (headers first second table (parts first second places records)) first.object.bytes (section_count first second)
    (body_long first second places records room.long) room.long (own_begins first second places records).same

-- the bytes of the code
pub code_bytes : (first second : Plan) (table : ℕ) (places records : List ℕ) → Room first second table places records
    → slice_range (joined_bytes first second table places records) (length (both_parts first second)) (length (both_parts first second) + (length (with_code first second) - length (both_parts first second)))
    ≡ joined_code first second
code_bytes first second table places records room =
    part_cut (both_parts first second) (joined_code first second) (body first second places records) (joined_bytes first second table places records) (code_begins first second places records)
    (in_file first second table places records room) (both_long first second room.long)

-- a byte of the names
pub name_byte : (first second : Plan) (table : ℕ) (places records : List ℕ) → Room first second table places records → (k : ℕ) → k < length (all_names first second)
    → get_or (joined_bytes first second table places records) (length (with_code first second) + k) 0 ≡ get_or (all_names first second) k 0
name_byte first second table places records room =
    part_byte (with_code first second) (all_names first second) (zeros_behind (length (all_names first second))) (body first second places records) (joined_bytes first second table places records)
    (names_begin first second places records) (in_file first second table places records room) (code_long first second room.long)

pub names_fit : (first second : Plan) (table : ℕ) (places records : List ℕ) → Room first second table places records → (s : ℕ) → s ≤ length (all_names first second)
    → length (with_code first second) + s ≤ length (joined_bytes first second table places records)
names_fit first second table places records room s low =
    part_fits (with_code first second) (all_names first second) (zeros_behind (length (all_names first second))) (body first second places records) (joined_bytes first second table places records) s
    (names_begin first second places records) (in_file first second table places records room) low

-- headers that fit their bytes
no_fits : Fits no_section
no_fits = record { name = omega arith; kind = omega arith; flags = omega arith; offset = omega arith; size = omega arith; link = omega arith; info = omega arith }

lies_fits : (it : SectionHeader) (from to : ℕ) → Fits it → from < 18446744073709551616 → to < 18446744073709551616 → Fits (lies_at it from to)
lies_fits it from to fits low high = record { name = fits.name; kind = fits.kind; flags = fits.flags; offset = low; size = omega arith; link = fits.link; info = fits.info }

pub if_either : (P : SectionHeader → Type 0) (b : Bool) (x y : SectionHeader) → (b ≡ true → P x) → (b ≡ false → P y) → P (if b then x else y)
if_either P true x y passes fails = passes refl
if_either P false x y passes fails = fails refl

-- the header of a section of the first object, test by test
abbrev pub stays_or_goes : Plan → ℕ → SectionHeader
stays_or_goes first i = if is_gone first i (section_at first.object i) then no_section else section_at first.object i

abbrev pub behind_table : Plan → ℕ → Places → ℕ → SectionHeader
behind_table first table at i = if is_strings first.object table i then lies_at (section_at first.object i) at.strings at.symbols else stays_or_goes first i

abbrev pub behind_code : Plan → ℕ → Places → ℕ → SectionHeader
behind_code first table at i = if i == table then lies_at (section_at first.object i) at.symbols at.relocations else behind_table first table at i

pub by_tests : (P : SectionHeader → Type 0) (first : Plan) (table : ℕ) (at : Places) (i : ℕ)
    → ((i == first.parts.code.section) ≡ true → P (lies_at (section_at first.object i) at.code at.strings))
    → ((i == table) ≡ true → P (lies_at (section_at first.object i) at.symbols at.relocations))
    → (is_strings first.object table i ≡ true → P (lies_at (section_at first.object i) at.strings at.symbols))
    → P no_section → P (section_at first.object i) → P (first_header first table at i)
by_tests P first table at i code symbols strings gone stays =
    if_either P (i == first.parts.code.section) (lies_at (section_at first.object i) at.code at.strings) (behind_code first table at i) code
    (λ a. if_either P (i == table) (lies_at (section_at first.object i) at.symbols at.relocations) (behind_table first table at i) symbols
    (λ b. if_either P (is_strings first.object table i) (lies_at (section_at first.object i) at.strings at.symbols) (stays_or_goes first i) strings
    (λ c. if_either P (is_gone first i (section_at first.object i)) no_section (section_at first.object i) (λ d. gone) (λ d. stays))))

first_fits : (first : Plan) (table : ℕ) (at : Places) (i : ℕ) → Fits (section_at first.object i) → at.code < 18446744073709551616 → at.strings < 18446744073709551616
    → at.symbols < 18446744073709551616 → at.relocations < 18446744073709551616 → Fits (first_header first table at i)
first_fits first table at i fits code strings symbols relocations =
    by_tests Fits first table at i
    (λ e. lies_fits (section_at first.object i) at.code at.strings fits code strings)
    (λ e. lies_fits (section_at first.object i) at.symbols at.relocations fits symbols relocations)
    (λ e. lies_fits (section_at first.object i) at.strings at.symbols fits strings symbols)
    no_fits fits

least : (n : ℕ) → min n 18446744073709551615 < 18446744073709551616
least n = omega arith

second_fits : (second : Plan) (at : Places) (i : ℕ) → Fits (section_at second.object i) → Fits (second_header second at i)
second_fits second at i fits =
    let it = section_at second.object i in
    let moved : SectionHeader = record it { name = 0; offset = min (it.offset + at.second) 18446744073709551615 } in
    let moved_fits : Fits moved = record {
      name = omega arith;
      kind = fits.kind;
      flags = fits.flags;
      offset = least (it.offset + at.second);
      size = fits.size;
      link = fits.link;
      info = fits.info;
    } in
    if_either Fits (is_data second.object it) moved no_section (λ e. moved_fits) (λ e. no_fits)

-- a header in the table
read_at : (body bytes table : List ℕ) (i : ℕ) (it : SectionHeader) → Fits it → ((j : ℕ) → get_or bytes (length body + j) 0 ≡ get_or table j 0)
    → ((k : ℕ) → k < 64 → get_or table (64 * i + k) 0 ≡ get_or (header_bytes it) k 0) → section_header bytes (length body + 64 * i) ≡ it
read_at body bytes table i it fits told same =
    read_same bytes (length body + 64 * i) (header_bytes it) 0
    (λ k inside. ap (λ j. get_or bytes j 0) (place_in (length body) i k) ∙ told (64 * i + k) ∙ same k inside ∙ ap (λ j. get_or (header_bytes it) j 0) (from_zero k))
    ∙ header_back it fits

read_table : (first second : Plan) (table : ℕ) (places records : List ℕ) → Room first second table places records → (i : ℕ) (it : SectionHeader) → Fits it
    → ((k : ℕ) → k < 64 → get_or (headers first second table (parts first second places records)) (64 * i + k) 0 ≡ get_or (header_bytes it) k 0)
    → section_header (joined_bytes first second table places records) (end first second places records + 64 * i) ≡ it
read_table first second table places records room i it fits same =
    read_at (body first second places records) (joined_bytes first second table places records) (headers first second table (parts first second places records)) i it fits
    (in_table (body first second places records) (headers first second table (parts first second places records)) (section_count first second) (body_long first second places records room.long)) same

-- the tables, over pieces
front_table : (piece : ℕ → List ℕ) (n i : ℕ) (rest : List ℕ) → ((i : ℕ) → length (piece i) ≡ 64) → i < n → (k : ℕ) → k < 64
    → get_or (gathered piece n ++ rest) (64 * i + k) 0 ≡ get_or (piece i) k 0
front_table piece n i rest sizes inside k low =
    let size = gathered_length piece n sizes in
    get_or_append_left (gathered piece n) rest 0 (64 * i + k) (omega (arith, size)) ∙ gathered_at piece n i k sizes inside low

back_table : (piece : ℕ → List ℕ) (n : ℕ) (rest : List ℕ) → ((i : ℕ) → length (piece i) ≡ 64) → (j : ℕ) → get_or (gathered piece n ++ rest) (64 * n + j) 0 ≡ get_or rest j 0
back_table piece n rest sizes j =
    let size = gathered_length piece n sizes in
    let place : 64 * n + j ≡ length (gathered piece n) + j = omega (arith, size) in
    ap (λ j. get_or (gathered piece n ++ rest) j 0) place ∙ get_or-append-add (gathered piece n) rest j 0

pub first_read : (first second : Plan) (table : ℕ) (places records : List ℕ) → Room first second table places records → (i : ℕ) → i < length first.object.sections
    → section_header (joined_bytes first second table places records) (end first second places records + 64 * i) ≡ first_header first table (parts first second places records) i
first_read first second table places records room i inside =
    let at = parts first second places records in
    let last = ends_small first second table places records room in
    read_table first second table places records room i (first_header first table at i)
    (first_fits first table at i (room.own i inside)
    (most_less (length (both_parts first second)) (end first second places records) 18446744073709551616 (both_begins first second places records).longer last)
    (most_less (length (with_code first second)) (end first second places records) 18446744073709551616 (code_begins first second places records).longer last)
    (most_less (length (with_names first second)) (end first second places records) 18446744073709551616 (names_begin first second places records).longer last)
    (most_less (length (with_symbols first second places)) (end first second places records) 18446744073709551616 (symbols_begin first second places records).longer last))
    (front_table (λ i. header_bytes (first_header first table at i)) (length first.object.sections) i
    (second_headers second at ++ (header_bytes (relocations_header first table at) ++ header_bytes (records_header at))) (λ i. header_length (first_header first table at i)) inside)

-- behind the first one's
rest_at : (first second : Plan) (table : ℕ) (at : Places) (j : ℕ)
    → get_or (headers first second table at) (64 * length first.object.sections + j) 0
    ≡ get_or (second_headers second at ++ (header_bytes (relocations_header first table at) ++ header_bytes (records_header at))) j 0
rest_at first second table at =
    back_table (λ i. header_bytes (first_header first table at i)) (length first.object.sections)
    (second_headers second at ++ (header_bytes (relocations_header first table at) ++ header_bytes (records_header at))) (λ i. header_length (first_header first table at i))

last_at : (first second : Plan) (table : ℕ) (at : Places) (j : ℕ)
    → get_or (headers first second table at) (64 * (length first.object.sections + length second.object.sections) + j) 0
    ≡ get_or (header_bytes (relocations_header first table at) ++ header_bytes (records_header at)) j 0
last_at first second table at j =
    ap (λ j. get_or (headers first second table at) j 0) (moved_in (length first.object.sections) (length second.object.sections) 0 j)
    ∙ rest_at first second table at (64 * length second.object.sections + j)
    ∙ back_table (λ i. header_bytes (second_header second at i)) (length second.object.sections) (header_bytes (relocations_header first table at) ++ header_bytes (records_header at))
    (λ i. header_length (second_header second at i)) j

pub second_read : (first second : Plan) (table : ℕ) (places records : List ℕ) → Room first second table places records → (i : ℕ) → i < length second.object.sections
    → section_header (joined_bytes first second table places records) (end first second places records + 64 * (length first.object.sections + i)) ≡ second_header second (parts first second places records) i
second_read first second table places records room i inside =
    let at = parts first second places records in
    let behind_both = header_bytes (relocations_header first table at) ++ header_bytes (records_header at) in
    read_table first second table places records room (length first.object.sections + i) (second_header second at i) (second_fits second at i (room.more i inside))
    (λ k low. ap (λ j. get_or (headers first second table at) j 0) (moved_in (length first.object.sections) i 0 k)
    ∙ rest_at first second table at (64 * i + k)
    ∙ front_table (λ i. header_bytes (second_header second at i)) (length second.object.sections) i behind_both (λ i. header_length (second_header second at i)) inside k low)

two_front : (x y : SectionHeader) (k : ℕ) → k < 64 → get_or (header_bytes x ++ header_bytes y) k 0 ≡ get_or (header_bytes x) k 0
two_front x y k low = get_or_append_left (header_bytes x) (header_bytes y) 0 k low

two_back : (x y : SectionHeader) (k : ℕ) → get_or (header_bytes x ++ header_bytes y) (64 + k) 0 ≡ get_or (header_bytes y) k 0
two_back x y k = get_or-append-add (header_bytes x) (header_bytes y) k 0

relocations_fit : (first : Plan) (table : ℕ) (at : Places) → at.relocations < 18446744073709551616 → at.records < 18446744073709551616 → table < 4294967296
    → first.parts.code.section < 4294967296 → Fits (relocations_header first table at)
relocations_fit first table at low high link info = record {
  name = omega arith;
  kind = omega arith;
  flags = omega arith;
  offset = low;
  size = minus_less at.records at.relocations 18446744073709551616 high;
  link = link;
  info = info;
}

records_fit : (at : Places) → at.records < 18446744073709551616 → at.end < 18446744073709551616 → Fits (records_header at)
records_fit at low high = record {
  name = omega arith;
  kind = omega arith;
  flags = omega arith;
  offset = low;
  size = minus_less at.end at.records 18446744073709551616 high;
  link = omega arith;
  info = omega arith;
}

pub relocations_read : (first second : Plan) (table : ℕ) (places records : List ℕ) → Room first second table places records
    → section_header (joined_bytes first second table places records) (end first second places records + 64 * (length first.object.sections + length second.object.sections))
    ≡ relocations_header first table (parts first second places records)
relocations_read first second table places records room =
    let at = parts first second places records in
    let last = ends_small first second table places records room in
    read_table first second table places records room (length first.object.sections + length second.object.sections) (relocations_header first table at)
    (relocations_fit first table at
    (most_less (length (with_symbols first second places)) (end first second places records) 18446744073709551616 (symbols_begin first second places records).longer last)
    (most_less (length (with_relocations first second places)) (end first second places records) 18446744073709551616 (relocations_begin first second places records).longer last)
    (index_less table (length first.object.sections) (length second.object.sections) room.table_in room.few)
    (index_less first.parts.code.section (length first.object.sections) (length second.object.sections) room.code room.few))
    (λ k low. last_at first second table at k ∙ two_front (relocations_header first table at) (records_header at) k low)

pub records_read : (first second : Plan) (table : ℕ) (places records : List ℕ) → Room first second table places records
    → section_header (joined_bytes first second table places records) (end first second places records + 64 * (length first.object.sections + length second.object.sections + 1))
    ≡ records_header (parts first second places records)
records_read first second table places records room =
    let at = parts first second places records in
    let last = ends_small first second table places records room in
    read_table first second table places records room (length first.object.sections + length second.object.sections + 1) (records_header at)
    (records_fit at
    (most_less (length (with_relocations first second places)) (end first second places records) 18446744073709551616 (relocations_begin first second places records).longer last) last)
    (λ k low. ap (λ j. get_or (headers first second table at) j 0) (one_more (length first.object.sections + length second.object.sections) k)
    ∙ last_at first second table at (64 + k) ∙ two_back (relocations_header first table at) (records_header at) k)

-- how long it is
four_length : (a b c d : List ℕ) (n m : ℕ) → length a ≡ 64 * n → length b ≡ 64 * m → length c ≡ 64 → length d ≡ 64 → length (a ++ (b ++ (c ++ d))) ≡ 64 * (n + m + 1 + 1)
four_length a b c d n m one two three four =
    let first = length-append a (b ++ (c ++ d)) in
    let second = length-append b (c ++ d) in
    let third = length-append c d in
    omega (arith, first, second, third, one, two, three, four)

pub headers_length : (first second : Plan) (table : ℕ) (places records : List ℕ) → Room first second table places records
    → length (joined_bytes first second table places records) ≡ end first second places records + 64 * section_count first second
headers_length first second table places records room =
    let at = parts first second places records in
    headed_length (body first second places records) (headers first second table at) (section_count first second) (body_long first second places records room.long)
    ∙ ap (λ n. end first second places records + n) (four_length (first_headers first table at) (second_headers second at) (header_bytes (relocations_header first table at)) (header_bytes (records_header at))
    (length first.object.sections) (length second.object.sections)
    (gathered_length (λ i. header_bytes (first_header first table at i)) (length first.object.sections) (λ i. header_length (first_header first table at i)))
    (gathered_length (λ i. header_bytes (second_header second at i)) (length second.object.sections) (λ i. header_length (second_header second at i)))
    (header_length (relocations_header first table at)) (header_length (records_header at)))
