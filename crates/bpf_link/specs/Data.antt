-- The data that a program refers to: sections, each of which becomes a map after the object's own.
use Rattle.std.specs.Prelude.{◌<◌, ◌≤◌, All, ℕ, ◌+◌, ◌==◌, nat_lt, Bool, ◌&&◌, if◌then◌else◌, List, [], ◌∷◌, ◌++◌, Result, Ok, count_by, length, slice_index}
use Rattle.std.specs.List.{list_any}
use Rattle.bpf_link.specs.declared.fault.LinkFault.{LinkFault}
use Rattle.bpf_link.specs.declared.fault.LinkFault.TheVariants.{TooManyMaps}
use Rattle.bpf_link.specs.declared.layout.RelocationEntry.{RelocationEntry}
use Rattle.bpf_link.specs.declared.plan.Plan.{Plan}
use Rattle.bpf_link.specs.Objects.{provided, section_at}
use Rattle.bpf_link.specs.Sections.{is_data, relocations_of}
use Rattle.bpf_link.specs.Plans.{after, steps, relocations_in}
use Rattle.bpf_link.specs.Tables.{relocation_at, symbol_at}
use Rattle.bpf_isa.specs.Maps.{most_maps}

-- A section is among some.
abbrev pub is_among : List ℕ → ℕ → Bool
is_among sections section = list_any (λ other. other == section) sections

-- A relocation is of a kind, and against a symbol of a section of data. That of a wide load is R_BPF_64_64, 1, and that of an address in data R_BPF_64_ABS64, 2.
abbrev pub refers_to_data : Plan → ℕ → RelocationEntry → Bool
refers_to_data plan kind relocation =
    let section = (symbol_at plan.symbols relocation.symbol).section in
    (relocation.kind == kind)
    && (nat_lt relocation.symbol (length plan.symbols)
    && (nat_lt section (length plan.object.sections) && is_data plan.object (section_at plan.object section)))

-- One more section, of at most so many as a program may have maps.
abbrev pub with_section : ℕ → List ℕ → Result (List ℕ) LinkFault
with_section section found =
    if is_among found section then Ok found else provided (nat_lt (length found) most_maps) TooManyMaps (Ok (found ++ section ∷ []))

-- The sections of data with those that relocations of a kind refer to.
abbrev pub with_referred : Plan → ℕ → RelocationEntry → List ℕ → Result (List ℕ) LinkFault
with_referred plan kind relocation found =
    if refers_to_data plan kind relocation then with_section (symbol_at plan.symbols relocation.symbol).section found else Ok found

abbrev pub with_reference : Plan → ℕ → List RelocationEntry → ℕ → List ℕ → Result (List ℕ) LinkFault
with_reference plan kind relocations i found = with_referred plan kind (relocation_at relocations i) found

abbrev pub with_references : Plan → ℕ → List RelocationEntry → List ℕ → Result (List ℕ) LinkFault
with_references plan kind relocations found = steps (with_reference plan kind relocations) found (length relocations)

-- The relocations of a section of data.
abbrev pub pointers_of : Plan → ℕ → Result (List RelocationEntry) LinkFault
pointers_of plan section = relocations_in plan.object plan.table (relocations_of plan.object section)

-- Those with what the k-th of them refers to by the addresses in it.
abbrev pub with_pointed : Plan → ℕ → List ℕ → Result (List ℕ) LinkFault
with_pointed plan k found =
    if nat_lt k (length found)
    then after (pointers_of plan (slice_index found k)) (λ relocations. with_references plan 2 relocations found)
    else Ok found

abbrev pub with_all_pointed : Plan → List ℕ → Result (List ℕ) LinkFault
with_all_pointed plan found = steps (with_pointed plan) found most_maps

-- All that the program refers to, by its wide loads or by way of data.
abbrev pub referred : Plan → Result (List ℕ) LinkFault
referred plan =
    after (with_references plan 1 plan.parts.code.relocations []) (λ found.
    after (with_references plan 1 plan.parts.text.relocations found) (λ found.
    with_all_pointed plan found))

-- They in the order of their numbers.
abbrev pub with_taken : List ℕ → ℕ → List ℕ → Result (List ℕ) LinkFault
with_taken found section taken =
    if is_among found section then provided (nat_lt (length taken) most_maps) TooManyMaps (Ok (taken ++ section ∷ [])) else Ok taken

abbrev pub in_order : List ℕ → ℕ → Result (List ℕ) LinkFault
in_order found count = steps (with_taken found) [] count

abbrev pub data_of : Plan → Result (List ℕ) LinkFault
data_of plan = after (referred plan) (λ found. in_order found (length plan.object.sections))

-- All sections are below a number.
abbrev pub AllBelow : ℕ → List ℕ → Type 0
AllBelow n sections = All (λ section. section < n) sections

-- A plan, where its own maps stand in their section, and the sections of data that become maps after those.
pub record Numbered : Type 0 where
  pub plan : Plan
  pub maps : List ℕ
  pub taken : List ℕ

abbrev pub numbered : Plan → List ℕ → List ℕ → Numbered
numbered plan maps taken = record { plan = plan; maps = maps; taken = taken }

-- They are at most as many as a program may have, and the sections are the plan's.
pub record HasMaps (placed : Numbered) : Type 0 where
  pub few : length placed.maps + length placed.taken ≤ most_maps
  pub below : AllBelow (length placed.plan.object.sections) placed.taken

-- The number of the map that a section becomes: after the object's own, and the sections before it.
abbrev pub data_number : Numbered → ℕ → ℕ
data_number placed section = length placed.maps + count_by (λ other. nat_lt other section) placed.taken
