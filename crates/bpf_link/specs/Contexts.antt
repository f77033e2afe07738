-- Programs that the kernel gives a packet by a struct of its own: what BTF says of the entry.
use Rattle.std.specs.Prelude.{◌≡◌, ◌⊎◌, ℕ, Bool, true, false, if◌then◌else◌, List, Option, Some, None, Ok, Err, length, codes}
use Rattle.bpf_btf.specs.Contexts.{takes}
use Rattle.bpf_btf.specs.Sections.{IsRead}
use Rattle.bpf_btf.specs.Types.{Types}
use Rattle.bpf_packet.specs.declared.packet.Packet.{Packet}
use Rattle.bpf_packet.specs.declared.packet.Packet.TheVariants.{Xdp, Tc}
use Rattle.bpf_link.specs.declared.fault.LinkFault.{LinkFault}
use Rattle.bpf_link.specs.declared.fault.LinkFault.TheVariants as link
use Rattle.bpf_link.specs.declared.plan.Plan.{Plan}
use Rattle.bpf_link.specs.declared.sections.Found.{Found}
use Rattle.bpf_link.specs.declared.sections.Found.TheVariants.{Nothing, Only, Several}
use Rattle.bpf_link.specs.Entries.{entry_found}
use Rattle.bpf_link.specs.FieldRelocations.{ext_found, short_name}
use Rattle.bpf_link.specs.Links.{planned}
use Rattle.bpf_link.specs.MapTypes.{is_something, name_from, types_bytes, types_found}
use Rattle.bpf_link.specs.Plans.{symbol_place}
use Rattle.bpf_link.specs.Refusals.{HasReadFault}
use Rattle.bpf_link.specs.Tables.{symbol_at}

-- Where the name of the entry stands in the file: that of its symbol, if it has at most 255 bytes; else the file's end, where there is none.
abbrev pub found_place : Plan → Found → ℕ
found_place plan (Only i) = short_name plan.object.bytes (symbol_place plan (symbol_at plan.symbols i))
found_place plan Nothing = length plan.object.bytes
found_place plan Several = length plan.object.bytes

abbrev pub entry_place : Plan → List ℕ → ℕ
entry_place plan entry = found_place plan (entry_found plan entry)

-- BTF says which of the kernel's own structs the function of a name takes, if it takes one.
abbrev pub packet_in : Types → List ℕ → Option Packet
packet_in types name =
    if takes types (codes "xdp_md") name then Some Xdp else if takes types (codes "__sk_buff") name then Some Tc else None

pub record ReadContext (plan : Plan) (entry : List ℕ) (packet : Option Packet) : Type 0 where
  pub types : Types
  pub read : IsRead (types_bytes plan.object (types_found plan.object)) types
  pub told : packet ≡ packet_in types (name_from plan.object.bytes (entry_place plan entry))

-- It is looked at where relocations of fields are, which clang lists whenever it writes types of functions: in an object that has `.BTF.ext`.
abbrev pub PlanContext : Bool → Plan → List ℕ → Option Packet → Type 0
PlanContext false plan entry packet = packet ≡ None
PlanContext true plan entry packet = ReadContext plan entry packet

abbrev pub HasContext : List ℕ → List ℕ → List ℕ → Option Packet → Type 0
HasContext object name entry packet = (plan : Plan) × (planned object name ≡ Ok plan)
    × PlanContext (is_something (ext_found plan)) plan entry packet

-- The types aren't read.
pub record HasUnreadTypes (object name : List ℕ) (fault : LinkFault) : Type 0 where
  pub plan : Plan
  pub plans : planned object name ≡ Ok plan
  pub listed : is_something (ext_found plan) ≡ true
  pub why : (fault ≡ link.Memory) ⊎ HasReadFault plan fault

-- The entry takes the kernel's own struct.
pub record HasKernelContext (object name entry : List ℕ) (fault : LinkFault) : Type 0 where
  pub plan : Plan
  pub plans : planned object name ≡ Ok plan
  pub packet : Packet
  pub takes : PlanContext (is_something (ext_found plan)) plan entry (Some packet)
  pub told : fault ≡ link.Context (entry_place plan entry)

-- Nothing is known of it.
abbrev pub IsUnknownContext : List ℕ → List ℕ → LinkFault → Type 0
IsUnknownContext object name fault = (planned object name ≡ Err fault) ⊎ HasUnreadTypes object name fault

-- Why the machine's context isn't the entry's.
abbrev pub IsContextFault : List ℕ → List ℕ → List ℕ → LinkFault → Type 0
IsContextFault object name entry fault = IsUnknownContext object name fault ⊎ HasKernelContext object name entry fault
