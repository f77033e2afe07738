-- The BTF in which a map has so many entries: that of the object, with types and strings behind its own that define the map once more. What is defined last
-- counts: the last section of maps, and of its variables of one name the last.
use Rattle.std.specs.Prelude.{ℕ, zero, suc, ◌+◌, ◌/◌, min, List, [], ◌∷◌, ◌++◌, codes, get_or, length}
use Rattle.byteorder.specs.Endian.{little_bytes}
use Rattle.bpf_btf.specs.declared.maps.MapDescription.{MapDescription}
use Rattle.bpf_counts.specs.Walks.{listed_at}
use Rattle.bpf_counts.specs.declared.walk.Walk.{Walk}

-- Numbers of 32 bits, one behind another.
abbrev pub first_bytes : List ℕ → ℕ → List ℕ
first_bytes words zero = []
first_bytes words (suc i) = first_bytes words i ++ little_bytes 4 (get_or words i 0)

abbrev pub with_words : List ℕ → List ℕ → List ℕ
with_words bytes words = bytes ++ first_bytes words (length words)

abbrev pub narrow : ℕ → ℕ
narrow n = min n 4294967295

-- A name, and a zero behind it.
abbrev pub with_name : List ℕ → List ℕ → List ℕ
with_name strings name = (strings ++ name) ++ 0 ∷ []

-- The names of a map's definition, in this order; each is said where it stands behind the others.
abbrev pub with_own_names : List ℕ → List ℕ
with_own_names strings =
    with_name (with_name (with_name (with_name (with_name strings (codes "type")) (codes "key_size")) (codes "value_size")) (codes "max_entries")) (codes ".maps")

abbrev pub with_names : List ℕ → List ℕ → List ℕ
with_names strings name = with_name (with_own_names strings) name

-- A number: a pointer, PTR, 2, to an array, ARRAY, 3, of so many elements, whose type counts for nothing. The array has the number id, the pointer id + 1.
abbrev pub number_words : ℕ → ℕ → List ℕ
number_words id n = 0 ∷ (0x03000000 ∷ (0 ∷ (0 ∷ (0 ∷ (n ∷ (0 ∷ (0x02000000 ∷ (narrow id ∷ []))))))))

-- The four numbers of a map, from a type's number on: its kind, the sizes of its keys and values, and how many entries it has.
abbrev pub with_numbers : List ℕ → ℕ → MapDescription → ℕ → List ℕ
with_numbers types first said count =
    with_words (with_words (with_words (with_words types (number_words first said.kind)) (number_words (first + 2) said.key_size))
    (number_words (first + 4) said.value_size)) (number_words (first + 6) count)

-- The struct, STRUCT, 4, whose four members are pointers of 8 bytes to these numbers, and whose names stand from a place on.
abbrev pub struct_words : ℕ → ℕ → List ℕ
struct_words first at =
    0 ∷ (0x04000004 ∷ (32 ∷ (narrow at ∷ (narrow (first + 1) ∷ (0 ∷ (narrow (at + 5) ∷ (narrow (first + 3) ∷ (64 ∷
    (narrow (at + 14) ∷ (narrow (first + 5) ∷ (128 ∷ (narrow (at + 25) ∷ (narrow (first + 7) ∷ (192 ∷ []))))))))))))))

-- The variable, VAR, 14, of that struct, known outside the object.
abbrev pub variable_words : ℕ → ℕ → List ℕ
variable_words first at = narrow (at + 43) ∷ (0x0e000000 ∷ (narrow (first + 8) ∷ (1 ∷ [])))

-- The section of maps, DATASEC, 15: what the one before lists, and the variable of 32 bytes.
abbrev pub section_words : ℕ → ℕ → List ℕ
section_words at count = narrow (at + 37) ∷ ((0x0f000000 + count) ∷ (0 ∷ []))

abbrev pub entry_words : ℕ → List ℕ
entry_words first = narrow (first + 9) ∷ (0 ∷ (32 ∷ []))

abbrev pub with_section : List ℕ → ℕ → ℕ → List ℕ → List ℕ
with_section types first at listed =
    with_words (with_words types (section_words at (length listed / 12 + 1)) ++ listed) (entry_words first)

-- All of it: the first of these types has the number behind those that there are, and their names stand behind the strings.
abbrev pub with_definition : List ℕ → ℕ → ℕ → MapDescription → ℕ → List ℕ
with_definition types first at said count =
    with_words (with_words (with_numbers types first said count) (struct_words first at)) (variable_words first at)

abbrev pub types_with : List ℕ → List ℕ → Walk → MapDescription → ℕ → List ℕ
types_with types strings walk said count =
    with_section (with_definition types (walk.count + 1) (length strings) said count) (walk.count + 1) (length strings) (listed_at types walk.maps)

-- The section: its header (magic 0xeb9f, version 1, 24 bytes), the types and the strings.
abbrev pub header_words : ℕ → ℕ → List ℕ
header_words types strings = 0x0001eb9f ∷ (24 ∷ (0 ∷ (narrow types ∷ (narrow types ∷ (narrow strings ∷ [])))))

abbrev pub btf_of : List ℕ → List ℕ → List ℕ
btf_of types strings = (with_words [] (header_words (length types) (length strings)) ++ types) ++ strings

abbrev pub btf_with : List ℕ → List ℕ → Walk → MapDescription → List ℕ → ℕ → List ℕ
btf_with types strings walk said name count = btf_of (types_with types strings walk said count) (with_names strings name)
