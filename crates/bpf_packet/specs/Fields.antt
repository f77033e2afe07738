-- The kernel's structs of packets, and where bpfdb has their fields: as share/bpfdb.h lays them out, with addresses of 64 bits.
use Rattle.std.specs.Prelude.{ℕ, ◌+◌, ◌*◌, ◌%◌, ◌==◌, nat_le, nat_lt, Bool, false, ◌&&◌, ◌||◌, if◌then◌else◌, Option, Some, None}
use Rattle.bpf_packet.specs.declared.packet.Packet.{Packet}
use Rattle.bpf_packet.specs.declared.packet.Packet.TheVariants.{Xdp, Tc}
use Rattle.bpf_packet.specs.declared.packet.Access.{Access}

-- Loads of W, H and B, stores of W, and accesses of DW (MEM, RFC 9669, section 5.1).
abbrev pub is_load : ℕ → Bool
is_load opcode = (opcode == 0x61) || ((opcode == 0x69) || (opcode == 0x71))

abbrev pub is_word_store : ℕ → Bool
is_word_store opcode = (opcode == 0x62) || (opcode == 0x63)

abbrev pub is_double : ℕ → Bool
is_double opcode = (opcode == 0x79) || ((opcode == 0x7a) || (opcode == 0x7b))

-- How many bytes such a load has.
abbrev pub load_size : ℕ → ℕ
load_size opcode = if opcode == 0x61 then 4 else (if opcode == 0x69 then 2 else 1)

-- Where an address of the kernel's struct lies in bpfdb's: data, data_end and data_meta are the first three there, of eight bytes each.
abbrev pub address_of : Packet → ℕ → Option ℕ
address_of Xdp at = if (at == 0) || ((at == 4) || (at == 8)) then Some (2 * at) else None
address_of Tc at = if at == 76 then Some 0 else (if at == 80 then Some 8 else (if at == 140 then Some 16 else None))

-- Where a byte of a number lies: xdp_md has ingress_ifindex, rx_queue_index and egress_ifindex from 12 to 23, and __sk_buff the numbers from len to
-- tc_classid up to 75.
abbrev pub number_of : Packet → ℕ → Option ℕ
number_of Xdp at = if nat_le 12 at && nat_lt at 24 then Some (at + 12) else None
number_of Tc at = if nat_lt at 76 then Some (at + 24) else None

-- The numbers that a program may store, as the kernel has it: queue_mapping and mark, priority, tc_index and cb, tc_classid.
abbrev pub may_store : Packet → ℕ → Bool
may_store Xdp at = false
may_store Tc at = ((at == 8) || (at == 12)) || ((at == 32) || (nat_le 44 at && (nat_lt at 68 || (at == 72))))

-- An access to a number, as it is but for its place.
abbrev pub numbered : ℕ → Option ℕ → Option Access
numbered opcode None = None
numbered opcode (Some place) = Some (record { opcode = opcode; offset = place })

-- A load: of an address all of it, which becomes one of DW.
abbrev pub loaded : Packet → ℕ → ℕ → Option ℕ → Option Access
loaded packet opcode at None = numbered opcode (number_of packet at)
loaded packet opcode at (Some place) = if opcode == 0x61 then Some (record { opcode = 0x79; offset = place }) else None

-- An access of DW is to one of the first three fields of bpfdb's own struct: what is linked to the program may know that one.
abbrev pub own_field : ℕ → ℕ → Option Access
own_field opcode at = if (at == 0) || ((at == 8) || (at == 16)) then Some (record { opcode = opcode; offset = at }) else None

-- What an access at a place of the kernel's struct becomes, if there is such a field.
abbrev pub field_of : Packet → ℕ → ℕ → Option Access
field_of packet opcode at =
    if is_double opcode then own_field opcode at
    else (if is_load opcode && (at % load_size opcode == 0) then loaded packet opcode at (address_of packet at)
    else (if is_word_store opcode && ((at % 4 == 0) && may_store packet at) then numbered opcode (number_of packet at)
    else None))
