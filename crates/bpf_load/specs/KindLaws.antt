-- The words of a program are taken for nothing else.
use Rattle.std.specs.Prelude.{◌≡◌, ℕ, List}
use Rattle.bpf_isa.specs.Programs.{Checked, IsProgram}
use Rattle.bpf_load.specs.declared.target.SourceKind.TheVariants.{Words}
use Rattle.bpf_load.specs.Kinds.{kind_of}

-- Bytes that the checker accepts, with whatever maps, are words, and no object or listing, whatever the file's name.
abbrev pub ProgramsAreWords : Type 0
ProgramsAreWords = (name : List ℕ) (p : Checked) → IsProgram p → kind_of name p.bytes ≡ Words
