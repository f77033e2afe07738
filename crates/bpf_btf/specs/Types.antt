-- The types of BTF, one behind another (the kernel's document 'BPF Type Format (BTF)', section 2.2), and how one is found by its number.
use Rattle.std.specs.Prelude.{◌≡◌, ◌<◌, ℕ, zero, suc, ◌+◌, ◌-◌, ◌*◌, ◌==◌, nat_le, nat_lt, Bool, true, false, ◌&&◌, ◌||◌, if◌then◌else◌, List, [], ◌∷◌, ◌++◌, length, slice_index_or}
use Rattle.bpf_btf.specs.declared.fault.BtfFault.{BtfFault}
use Rattle.bpf_btf.specs.declared.fault.BtfFault.TheVariants.{UnknownType, CutType}
use Rattle.bpf_btf.specs.declared.layout.TypeEntry.{TypeEntry}
use Rattle.bpf_btf.specs.Layout.{type_entry}

-- How many bytes a type has behind its first 12, by its kind and the number of its parts: INT, 1, VAR, 14, and DECL_TAG, 17, have a number; ARRAY, 3, has three;
-- ENUM, 6, and FUNC_PROTO, 13, have two a part; STRUCT, 4, UNION, 5, DATASEC, 15, and ENUM64, 19, three a part; and the other kinds have none: PTR, 2, FWD, 7,
-- TYPEDEF, 8, VOLATILE, 9, CONST, 10, RESTRICT, 11, FUNC, 12, FLOAT, 16, TYPE_TAG, 18.
abbrev pub rest_size : TypeEntry → ℕ
rest_size entry =
    if (entry.kind == 1) || ((entry.kind == 14) || (entry.kind == 17)) then 4
    else (if entry.kind == 3 then 12
    else (if (entry.kind == 6) || (entry.kind == 13) then 8 * entry.count
    else (if (entry.kind == 4) || ((entry.kind == 5) || ((entry.kind == 15) || (entry.kind == 19))) then 12 * entry.count
    else 0)))

-- There are the kinds 1 to 19.
abbrev pub is_known : TypeEntry → Bool
is_known entry = nat_lt 0 entry.kind && nat_le entry.kind 19

-- Where the type behind the one at a place stands.
abbrev pub behind : List ℕ → ℕ → ℕ
behind types at = at + (12 + rest_size (type_entry types at))

-- A type of a known kind at a place lies among the bytes.
abbrev pub is_whole : List ℕ → ℕ → Bool
is_whole types at = is_known (type_entry types at) && nat_le (behind types at) (length types)

-- Where the type number n + 1 stands: the first one at 0, and each behind the one before.
abbrev pub place : List ℕ → ℕ → ℕ
place types zero = 0
place types (suc n) = behind types (place types n)

-- The first n types are whole.
abbrev pub are_whole : List ℕ → ℕ → Bool
are_whole types zero = true
are_whole types (suc n) = are_whole types n && is_whole types (place types n)

-- Where the first n types stand.
abbrev pub places : List ℕ → ℕ → List ℕ
places types zero = []
places types (suc n) = places types n ++ place types n ∷ []

-- Where the types stand, up to the last one, which ends where the bytes do.
pub record AreTypes (types starts : List ℕ) : Type 0 where
  pub listed : starts ≡ places types (length starts)
  pub whole : are_whole types (length starts) ≡ true
  pub all : place types (length starts) ≡ length types

-- There is no whole type at a place, and why.
pub record IsBroken (types : List ℕ) (at : ℕ) (fault : BtfFault) : Type 0 where
  pub broken : is_whole types at ≡ false
  pub told : fault ≡ (if is_known (type_entry types at) then CutType else UnknownType)

-- The first type that isn't whole, and why.
pub record HasBadType (types : List ℕ) (fault : BtfFault) : Type 0 where
  pub n : ℕ
  pub before : are_whole types n ≡ true
  pub begins : place types n < length types
  pub broken : is_whole types (place types n) ≡ false
  pub told : fault ≡ (if is_known (type_entry types (place types n)) then CutType else UnknownType)

-- The types of a section, its strings, and where the types stand.
pub record Types : Type 0 where
  pub bytes : List ℕ
  pub strings : List ℕ
  pub starts : List ℕ

-- Where the type of a number stands. Type 0, void, and one that isn't there stand behind all others, where they read as of kind 0 and of size 0.
abbrev pub start_of : Types → ℕ → ℕ
start_of types id = if nat_lt 0 id then slice_index_or types.starts (id - 1) (length types.bytes) else length types.bytes

-- How it begins.
abbrev pub type_of : Types → ℕ → TypeEntry
type_of types id = type_entry types.bytes (start_of types id)
