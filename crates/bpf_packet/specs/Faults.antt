-- Faults: each its number, which is printed after E, and its text. bpfdb's own choice.
use Rattle.std.specs.Prelude.{ℕ, List, codes}
use Rattle.bpf_packet.specs.declared.fault.UseFault.{UseFault}
use Rattle.bpf_packet.specs.declared.fault.UseFault.TheVariants.{NoField, Mixed, Arithmetic, Escapes}

abbrev pub use_row : UseFault → ℕ × List ℕ
use_row NoField = (56, codes "access to no field of the packet's struct")
use_row Mixed = (57, codes "access to the packet's struct on some ways, to something else on others")
use_row Arithmetic = (58, codes "arithmetic on the address of the packet's struct")
use_row Escapes = (59, codes "address of the packet's struct is stored, passed or returned")
