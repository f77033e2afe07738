-- Tables of an object: entries of one size, one after the other.
use Rattle.std.specs.Prelude.{ℕ, ◌*◌, ◌/◌, List, get_or, length}
use Rattle.bpf_link.specs.declared.layout.RelocationEntry.{RelocationEntry}
use Rattle.bpf_link.specs.declared.layout.SymbolEntry.{SymbolEntry}
use Rattle.bpf_link.specs.Layout.{relocation_entry, symbol_entry}
use Rattle.bpf_link.specs.Objects.{below}

-- The symbols in bytes, of 24 bytes each, and one by its index; behind the last one there is none.
abbrev pub symbols_in : List ℕ → List SymbolEntry
symbols_in bytes = below (λ i. symbol_entry bytes (24 * i)) (length bytes / 24)

abbrev pub symbol_at : List SymbolEntry → ℕ → SymbolEntry
symbol_at symbols i = get_or symbols i (record { name = 0; kind = 0; binding = 0; section = 0; value = 0 })

-- The relocations in bytes, of 16 bytes each, and one by its index.
abbrev pub relocations_in : List ℕ → List RelocationEntry
relocations_in bytes = below (λ i. relocation_entry bytes (16 * i)) (length bytes / 16)

abbrev pub relocation_at : List RelocationEntry → ℕ → RelocationEntry
relocation_at relocations i = get_or relocations i (record { offset = 0; kind = 0; symbol = 0 })
