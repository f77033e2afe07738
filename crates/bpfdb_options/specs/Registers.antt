-- The names of machines that gdb may take this one for.
use Rattle.std.specs.Prelude.{ℕ, List, codes}
use Rattle.bpfdb_options.specs.declared.registers.Registers.{Registers}
use Rattle.bpfdb_options.specs.declared.registers.Registers.TheVariants.{Bpf, X86, Riscv}

-- As `--registers` takes them.
abbrev pub registers_name : Registers → List ℕ
registers_name Bpf = codes "bpf"
registers_name X86 = codes "x86"
registers_name Riscv = codes "riscv"
