-- What a user expects of the table of lines: its rows tell of the words that run.
use Rattle.std.specs.Prelude.{◌≡◌, ◌<◌, ℕ, ◌+◌, ◌*◌, List, [], get_or, length, slice_index}
use Rattle.bpf_link.specs.Programs.{Asked, IsLinkedAs}
use Rattle.bpf_link.specs.declared.linker.Linked.{Linked}
use Rattle.bpf_lines.specs.Objects.{AreProgramLines, program_table}
use Rattle.bpf_lines.specs.declared.objects.ObjectLines.{ObjectLines}
use Rattle.bpf_load.specs.Targets.{LinksTo, contents}
use Rattle.bpf_load.specs.declared.loading.LinkedObject.{LinkedObject}
use Rattle.bpf_load.specs.declared.target.Target.{Target}
use Rattle.bpf_lines_laws.specs.Joins.{AreOthers, CallsNone}
use Rattle.bpf_lines_laws.specs.Kept.{IsKept, code_begin}
use Rattle.bpf_lines_laws.specs.Origins.{Origin, origins, own_byte, rows_from}

-- The table of a program has a row for each slot of the sections that its code comes from, in their order, from the slot of the words on at which the
-- code begins; and the slot of the words that a row names has the eight bytes of the one of which the row tells, if that stays. (d is behind the last
-- one.)
pub record AreTheSlots {asked : Asked} {program : Linked} (it : IsLinkedAs asked program) (all : List ObjectLines)
    (Stays : ℕ → Type 0) : Type 0 where
  pub rows : program_table asked.packet program.words.items all ≡ rows_from program.words.items (code_begin it) (origins all)
  pub slots : (n k : ℕ) (d : Origin) → n < length (origins all) → Stays n → k < 8
      → slice_index program.words.items (8 * (code_begin it + n) + k) ≡ own_byte (get_or (origins all) n d) k

-- So it is of each program that is loaded of FILE alone: of that with the entries that its maps are told, and with its programs in turn.
abbrev pub LinesAreTheSlots : Type 0
LinesAreTheSlots =
    (target : Target) (file : List ℕ) (loaded : LinkedObject) (loads : LinksTo target file loaded) (all : List ObjectLines)
    → contents target.with.now ≡ [] → AreProgramLines loaded.sources.own.items target.section.now [] all
    → AreTheSlots loads.linked all (IsKept loads.linked)

-- And of each that is loaded of FILE and others that are joined to it, but for what these answer.
abbrev pub JoinedLinesAreTheSlots : Type 0
JoinedLinesAreTheSlots =
    (target : Target) (file : List ℕ) (loaded : LinkedObject) (loads : LinksTo target file loaded) (joins : AreOthers target loaded.sources)
    (all : List ObjectLines) → AreProgramLines loaded.sources.own.items target.section.now (contents target.with.now) all
    → AreTheSlots loads.linked all (λ n. IsKept loads.linked n × CallsNone target loaded.sources joins n)
