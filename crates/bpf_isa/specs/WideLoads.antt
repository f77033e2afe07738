-- Wide loads (RFC 9669, section 5.4): opcode 0x18, told apart by src_reg.
use Rattle.std.specs.Prelude.{ℕ}
use Rattle.bpf_isa.specs.declared.mnemonic.WideKind.{WideKind}
use Rattle.bpf_isa.specs.declared.mnemonic.WideKind.TheVariants.{Number, Map, MapValue}
use Rattle.bpf_isa.specs.declared.row.Field.{Field}
use Rattle.bpf_isa.specs.declared.row.Field.TheVariants.{Unused, Code, Used}
use Rattle.bpf_isa.specs.declared.row.Row.{Row}

-- The one opcode whose instructions have two slots.
abbrev pub wide_opcode : ℕ
wide_opcode = 0x18

-- src tells the kind, and next is used or not.
abbrev pub wide_with : ℕ → Field → Row
wide_with src next = record { opcode = wide_opcode; dst = Used; src = Code src; offset = Unused; imm = Used; next = next }

-- A number of 64 bits, its high half in next; a map by its index; a byte of a map's values, its offset in next.
abbrev pub wide_row : WideKind → Row
wide_row Number = wide_with 0 Used
wide_row Map = wide_with 5 Unused
wide_row MapValue = wide_with 6 Used
