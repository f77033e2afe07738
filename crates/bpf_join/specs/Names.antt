-- The names in a joined object: those of the first one's sections and symbols, and of the second one's symbols.
use Rattle.std.specs.Prelude.{ℕ, ◌-◌, ◌%◌, ◌==◌, nat_lt, if◌then◌else◌, Bool, ◌&&◌, false, List, [], ◌++◌, length, replicate}
use Rattle.bpf_link.specs.MapTypes.{section_bytes}
use Rattle.bpf_link.specs.Objects.{Elf, section_at}
use Rattle.bpf_link.specs.declared.plan.Plan.{Plan}
use Rattle.bpf_link.specs.declared.sections.Found.{Found}
use Rattle.bpf_link.specs.declared.sections.Found.TheVariants.{Only}
use Rattle.bpf_join.specs.Tables.{names_index}

-- The strings in a section of an object. One that isn't there has none.
abbrev pub strings_at : Elf → ℕ → List ℕ
strings_at object i = if nat_lt i (length object.sections) then section_bytes object (section_at object i) else []

-- Those of the names of its sections, and of its symbols.
abbrev pub section_names : Elf → List ℕ
section_names object = strings_at object (names_index object)

abbrev pub symbol_names : Elf → Found → List ℕ
symbol_names object (Only i) = if nat_lt i (length object.sections) then strings_at object (section_at object i).link else []
symbol_names object _ = []

-- They lie at one place of the file, as in an object that was joined.
abbrev pub lie_alike : Elf → ℕ → ℕ → Bool
lie_alike object a b =
    nat_lt a (length object.sections) && (nat_lt b (length object.sections)
    && (((section_at object a).offset == (section_at object b).offset) && ((section_at object a).size == (section_at object b).size)))

abbrev pub shares_names : Elf → Found → Bool
shares_names object (Only i) = nat_lt i (length object.sections) && lie_alike object (section_at object i).link (names_index object)
shares_names object _ = false

-- Those that stand before the names of symbols: none twice.
abbrev pub front_names : Plan → List ℕ
front_names first = if shares_names first.object first.table then [] else section_names first.object

abbrev pub all_names : Plan → Plan → List ℕ
all_names first second =
    front_names first ++ symbol_names first.object first.table ++ symbol_names second.object second.table

-- Zeros behind so many bytes, up to a whole number of eight.
abbrev pub zeros_behind : ℕ → List ℕ
zeros_behind size = replicate ((8 - size % 8) % 8) 0

-- Bytes, and zeros behind them up to a whole number of eight.
abbrev pub whole : List ℕ → List ℕ
whole bytes = bytes ++ zeros_behind (length bytes)
