-- The names of registers (RFC 9669, section 2.1), as listings and commands write them. That no zero stands in front is bpfdb's own choice.
use Rattle.std.specs.Prelude.{ℕ, ◌-◌, ◌==◌, ◌&&◌, nat_le, if◌then◌else◌, List, [], ◌∷◌, ◌++◌, Option, Some, None, codes, decimal}

-- A register's name: r and its number.
abbrev pub register_text : ℕ → List ℕ
register_text r = codes "r" ++ decimal r

-- The register that a text names: r (114) and a digit (48 to 57), or r10.
abbrev pub register_named : List ℕ → Option ℕ
register_named (a ∷ b ∷ []) = if a == 114 && nat_le 48 b && nat_le b 57 then Some (b - 48) else None
register_named (a ∷ b ∷ c ∷ []) = if a == 114 && b == 49 && c == 48 then Some 10 else None
register_named _ = None
