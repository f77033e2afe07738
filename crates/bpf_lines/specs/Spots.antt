-- The name of a byte of a value, by the value's type: the fields and elements that it lies in, from outside in. The order of types is BTF's; the
-- names are bpfdb's own choice, as C writes them.
use Rattle.std.specs.Prelude.{ℕ, zero, suc, ◌+◌, ◌-◌, ◌*◌, ◌/◌, ◌%◌, ◌==◌, nat_le, nat_lt, Bool, ◌||◌, if◌then◌else◌, List, [], ◌∷◌, ◌++◌, Option, Some, None, codes, decimal}
use Rattle.bpf_isa.specs.Words.{u32_at}
use Rattle.bpf_btf.specs.Layout.{array_entry}
use Rattle.bpf_btf.specs.Maps.{last_below}
use Rattle.bpf_btf.specs.Maps as maps
use Rattle.bpf_btf.specs.Sizes.{is_modifier, size_of}
use Rattle.bpf_btf.specs.Types.{Types, start_of, type_of}
use Rattle.bpf_btf.specs.declared.layout.TypeEntry.{TypeEntry}
use Rattle.bpf_link.specs.Names.{built, short_at}
use Rattle.bpfdb_script.specs.Shown.{shown}
use Rattle.bpf_lines.specs.declared.spot.Spot.{Spot}
use Rattle.bpf_lines.specs.declared.spot.Part.{Part}
use Rattle.bpf_lines.specs.declared.spot.Part.TheVariants.{Same, Element, Member, Whole}

-- A member begins at the byte of its first bit, struct btf_member's third number. Where the top bit of the struct's second number says that its
-- members have bits, that place has 24 bits.
abbrev pub has_bits : Types → ℕ → Bool
has_bits types id = nat_le 2147483648 (u32_at types.bytes (start_of types id + 4))

abbrev pub begin_of : Types → ℕ → ℕ → ℕ
begin_of types id i =
    let bits = u32_at types.bytes (start_of types id + (20 + 12 * i)) in
    if has_bits types id then bits % 16777216 / 8 else bits / 8

-- A byte lies in the last member of a struct, STRUCT, 4, that begins at it or before it, so padding counts as what stands before it; and in the
-- first member of a union, UNION, 5. Of a struct of more than 1024 members it lies in none.
abbrev pub last_begun : Types → Spot → Option ℕ
last_begun types spot = last_below (λ i. nat_le (begin_of types spot.of i) spot.offset) (type_of types spot.of).count

abbrev pub member_of : Types → TypeEntry → Spot → Option ℕ
member_of types entry spot =
    if (entry.count == 0) || nat_lt 1024 entry.count then None
    else (if entry.kind == 4 then last_begun types spot else (if entry.kind == 5 then Some 0 else None))

abbrev pub member_at : Types → Spot → Option ℕ → Part
member_at types spot None = Whole
member_at types spot (Some i) =
    let entry = maps.member_at types spot.of i in Member entry.of entry.name (spot.offset - begin_of types spot.of i)

-- A byte of an array, ARRAY, 3, lies in one of its elements, where these have a size.
abbrev pub element_at : ℕ → ℕ → Option ℕ → ℕ → Part
element_at of count None offset = Whole
element_at of count (Some size) offset =
    if (size == 0) || nat_le count (offset / size) then Whole else Element of (offset / size) (offset % size)

-- What of a value a byte lies in.
unfoldable pub part_at : Types → Spot → Part
part_at types spot =
    let entry = type_of types spot.of in
    let array = array_entry types.bytes (start_of types spot.of + 12) in
    if is_modifier entry then Same entry.of
    else (if entry.kind == 3 then element_at array.of array.count (size_of types array.of) spot.offset
    else member_at types spot (member_of types entry spot))

-- The byte in that.
abbrev pub inside : Spot → Part → Spot
inside spot (Same of) = record { of = of; offset = spot.offset }
inside spot (Element of index offset) = record { of = of; offset = offset }
inside spot (Member of name offset) = record { of = of; offset = offset }
inside spot Whole = spot

-- How that is written: a field by its name, of at most 255 bytes, and an element by its index. A member without a name adds nothing.
abbrev pub field_text : List ℕ → List ℕ
field_text [] = []
field_text (b ∷ name) = codes "." ++ shown (b ∷ name)

unfoldable pub index_text : ℕ → List ℕ
index_text index = codes "[" ++ decimal index ++ codes "]"

abbrev pub part_text : List ℕ → Part → List ℕ
part_text strings (Element of index offset) = index_text index
part_text strings (Member of name offset) = field_text (short_at strings name)
part_text strings _ = []

-- How far it lies behind the beginning of the innermost.
unfoldable pub some_rest : ℕ → List ℕ
some_rest offset = codes "+" ++ decimal offset

abbrev pub rest_text : ℕ → List ℕ
rest_text offset = if offset == 0 then [] else some_rest offset

-- The byte in what it lies in, so many parts, names and qualifiers further in; and what is written of the first so many.
abbrev pub spot_in : Types → Spot → ℕ → Spot
spot_in types spot zero = spot
spot_in types spot (suc n) = let at = spot_in types spot n in inside at (part_at types at)

abbrev pub with_part : Types → Spot → ℕ → List ℕ → List ℕ
with_part types spot n text = text ++ part_text types.strings (part_at types (spot_in types spot n))

-- What is written of a byte: 32 of them at most, since a type of hostile BTF may lie in itself.
unfoldable pub path_text : Types → Spot → List ℕ
path_text types spot = built (with_part types spot) 32 ++ rest_text (spot_in types spot 32).offset
