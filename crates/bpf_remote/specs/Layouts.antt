-- Which machine gdb takes this one for.
use Rattle.std.specs.Prelude.{ℕ, Bool, true, false, List, []}
use Rattle.bpf_remote.specs.declared.description.TheConstants.{X86_XML, RISCV_XML}
use Rattle.bpf_remote.specs.declared.layout.Layout.{Layout}
use Rattle.bpf_remote.specs.declared.layout.Layout.TheVariants as layout

-- The description, which is the one in the code; none where gdb knows the machine.
unfoldable pub described : Layout → List ℕ
described layout.Bpf = []
described layout.X86 = X86_XML.now
described layout.Riscv = RISCV_XML.now

-- How many of r0 to r10 gdb is told of once more, under their own names.
abbrev pub described_again : Layout → ℕ
described_again layout.Bpf = 0
described_again layout.X86 = 8
described_again layout.Riscv = 11

-- Whether gdb is told of a register that says how many moves lie before the state.
abbrev pub has_moves : Layout → Bool
has_moves layout.Bpf = false
has_moves _ = true
