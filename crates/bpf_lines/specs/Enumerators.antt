-- Enumerators by their names (the kernel's document 'BPF Type Format (BTF)', section 2.2).
use Rattle.std.specs.Prelude.{ℕ, zero, suc, ◌+◌, ◌*◌, ◌==◌, ◌||◌, nat_lt, Bool, if◌then◌else◌, List, length}
use Rattle.bpf_btf.specs.Layout.{is_called}
use Rattle.bpf_btf.specs.Types.{Types, start_of, type_of}
use Rattle.bpf_btf.specs.declared.layout.TypeEntry.{TypeEntry}
use Rattle.bpf_isa.specs.Words.{u32_at}
use Rattle.bpf_lines.specs.declared.enumerators.Enumerator.{Enumerator}
use Rattle.bpf_lines.specs.declared.enumerators.Enumerator.TheVariants.{Nothing, Value, Several}

-- A type with enumerators: ENUM, 6, or ENUM64, 19.
abbrev pub is_enum : TypeEntry → Bool
is_enum entry = (entry.kind == 6) || (entry.kind == 19)

-- Behind its first 12 bytes an ENUM has two numbers for each, the name and the value, and an ENUM64 three, the name and the halves of the value, the low
-- one first. A negative value is that number of as many bits.
abbrev pub number_at : Types → ℕ → ℕ → ℕ
number_at types id behind = u32_at types.bytes (start_of types id + behind)

abbrev pub name_of : Types → ℕ → ℕ → ℕ
name_of types id i = if (type_of types id).kind == 6 then number_at types id (12 + 8 * i) else number_at types id (12 + 12 * i)

abbrev pub value_of : Types → ℕ → ℕ → ℕ
value_of types id i =
    if (type_of types id).kind == 6 then number_at types id (16 + 8 * i)
    else number_at types id (16 + 12 * i) + 4294967296 * number_at types id (20 + 12 * i)

-- The values of a name: one, even if several enumerators have it, or more.
abbrev pub with_value : Enumerator → ℕ → Enumerator
with_value Nothing v = Value v
with_value (Value w) v = if w == v then Value w else Several
with_value Several v = Several

abbrev pub with_entry : Types → List ℕ → ℕ → ℕ → Enumerator → Enumerator
with_entry types name id i found = if is_called types.strings (name_of types id i) name then with_value found (value_of types id i) else found

abbrev pub in_entries : Types → List ℕ → ℕ → Enumerator → ℕ → Enumerator
in_entries types name id found zero = found
in_entries types name id found (suc n) = with_entry types name id n (in_entries types name id found n)

abbrev pub with_type : Types → List ℕ → ℕ → Enumerator → Enumerator
with_type types name id found = if is_enum (type_of types id) then in_entries types name id found (type_of types id).count else found

abbrev pub in_types : Types → List ℕ → ℕ → Enumerator
in_types types name zero = Nothing
in_types types name (suc n) = with_type types name (suc n) (in_types types name n)

-- A name of more than 255 bytes is none.
abbrev pub enumerator : Types → List ℕ → Enumerator
enumerator types name = if nat_lt 255 (length name) then Nothing else in_types types name (length types.starts)
