-- The struct by which the kernel gives a program its packet, as the type of the program's first parameter tells it.
use Rattle.std.specs.Prelude.{ℕ, ◌+◌, ◌==◌, nat_le, nat_lt, Bool, false, ◌&&◌, if◌then◌else◌, List, Option, Some, None, length, codes}
use Rattle.bpf_isa.specs.Words.{u32_at}
use Rattle.bpf_btf.specs.Layout.{is_called}
use Rattle.bpf_btf.specs.Maps.{last_below, member_at, member_of, pointed}
use Rattle.bpf_btf.specs.Sizes.{resolved, size_of}
use Rattle.bpf_btf.specs.Types.{Types, start_of, type_of}

-- The function of a name: the last type of kind FUNC, 12, that is called so; found is how many types stand before it.
abbrev pub is_function : Types → List ℕ → ℕ → Bool
is_function types name id = ((type_of types id).kind == 12) && is_called types.strings (type_of types id).name name

abbrev pub is_function_at : Types → List ℕ → ℕ → Bool
is_function_at types name i = is_function types name (i + 1)

abbrev pub function_of : Types → List ℕ → Option ℕ
function_of types name = last_below (is_function_at types name) (length types.starts)

-- The type of the first parameter: behind the beginning of a FUNC_PROTO, 13, stands a struct btf_param for each, name_off and type. Void, 0, of one without.
abbrev pub first_parameter : Types → ℕ → ℕ
first_parameter types id =
    let entry = type_of types id in
    if (entry.kind == 13) && nat_lt 0 entry.count then u32_at types.bytes (start_of types id + 16) else 0

-- The struct of a name, STRUCT, 4.
abbrev pub is_struct : Types → List ℕ → ℕ → Bool
is_struct types of id =
    let entry = type_of types id in
    (entry.kind == 4) && is_called types.strings entry.name of

-- A type of 4 bytes, and a member that has one.
abbrev pub has_four : Option ℕ → Bool
has_four None = false
has_four (Some size) = size == 4

abbrev pub is_narrow : Types → ℕ → Option ℕ → Bool
is_narrow types definition None = false
is_narrow types definition (Some i) = has_four (size_of types (member_at types definition i).of)

-- The kernel's own structs of packets have a member `data` of 32 bits.
abbrev pub is_kernels : Types → List ℕ → ℕ → Bool
is_kernels types of id = is_struct types of id && is_narrow types id (member_of types id (codes "data"))

abbrev pub points_to : Types → List ℕ → Option ℕ → Bool
points_to types of None = false
points_to types of (Some id) = is_kernels types of (resolved types id)

abbrev pub function_takes : Types → List ℕ → Option ℕ → Bool
function_takes types of None = false
function_takes types of (Some i) = points_to types of (pointed types (first_parameter types (type_of types (i + 1)).of))

-- The function of a name, of at most 255 bytes, takes the one that is called so.
abbrev pub takes : Types → List ℕ → List ℕ → Bool
takes types of name = nat_le (length name) 255 && function_takes types of (function_of types name)
