-- Why no file of tests comes of one that names files: the first of its pieces in whose place nothing can stand.
use Rattle.std.specs.Prelude.{ℕ, ◌≡◌, ◌⊎◌, ◌<◌, Bool, true, false, List, [], ◌++◌, Option, Some, None, get_or, length, ⊤}
use Rattle.bpf_lines.specs.Objects.{IsProgramLinesFault}
use Rattle.bpf_lines.specs.declared.objects.LinesFault.{LinesFault}
use Rattle.bpf_link.specs.declared.fault.LinkFault.{LinkFault}
use Rattle.bpf_load.specs.Faults.{IsObjectFault, name_of}
use Rattle.bpf_load.specs.Targets.{LinksTo, contents}
use Rattle.bpf_load.specs.declared.fault.ObjectFault.{ObjectFault}
use Rattle.bpf_load.specs.declared.loading.LinkedObject.{LinkedObject}
use Rattle.bpf_load.specs.declared.target.Target.{Target}
use Rattle.suite_files.specs.Asks.{Asks, AsksNothing}
use Rattle.suite_files.specs.Joining.{Completes}
use Rattle.suite_files.specs.Links.{IsTargetOf, names_told}
use Rattle.suite_files.specs.Replaced.{IsPut, ReadFirst, ReplacesFirst, capture_name, linux_of, no_piece, packet_number, paths_first}
use Rattle.suite_files.specs.Shelves.{IsFile, IsNameFault, with_names}
use Rattle.suite_files.specs.declared.asked.Asked.{Asked}
use Rattle.suite_files.specs.declared.fault.FilesFault.{FilesFault}
use Rattle.suite_files.specs.declared.fault.FilesFault.TheVariants as whole
use Rattle.suite_files.specs.declared.fault.KeptFault.{KeptFault}
use Rattle.suite_files.specs.declared.fault.NamedFault.TheVariants.{Malformed, NoPacket, TooMuch}
use Rattle.suite_files.specs.declared.fault.PutFault.{PutFault}
use Rattle.suite_files.specs.declared.fault.PutFault.TheVariants.{Named, Link, Memory}
use Rattle.suite_files.specs.declared.place.Place.{Place}
use Rattle.suite_files.specs.declared.shelf.NameFault.{NameFault}
use Rattle.suite_files.specs.declared.shelf.NameFault.TheVariants as name
use Rattle.input_texts.specs.Captures.{packet_in}
use Rattle.input_texts.specs.Heads.{head_of}
use Rattle.input_texts.specs.Options.{is_empty}
use Rattle.input_texts.specs.Pieces.{front, pieces}
use Rattle.input_texts.specs.declared.piece.Piece.{Piece}
use Rattle.input_texts.specs.declared.word.Word.{Word}
use Rattle.input_texts.specs.declared.word.Word.TheVariants as word

-- The file of a name isn't there, behind files of some paths.
abbrev pub put_fault : NameFault → PutFault
put_fault (name.Named fault) = Named fault
put_fault name.Memory = Memory

abbrev pub IsCopyFault : Place → List (List ℕ) → List ℕ → PutFault → Type 0
IsCopyFault place paths named (Named fault) = IsNameFault place paths named (name.Named fault)
IsCopyFault place paths named (Link kept) = ⊥
IsCopyFault place paths named Memory = ⊤

-- `-- mem-file FILE`: the lines behind the head aren't blank, or else the file isn't there.
abbrev pub IsMemoryFault : Bool → Place → List (List ℕ) → List ℕ → PutFault → Type 0
IsMemoryFault false place paths said fault = fault ≡ Named Malformed
IsMemoryFault true place paths said fault = IsCopyFault place paths said fault

-- `-- packet FILE N`: so it is, too; or N is no number, or else the capture isn't there, or has no such packet.
pub record LacksPacket (bytes_at : List ℕ → Option (List ℕ)) (place : Place) (said : List ℕ) (number : ℕ) : Type 0 where
  pub capture : List ℕ
  pub file : IsFile bytes_at place (capture_name said) capture
  pub none : packet_in capture number ≡ None

abbrev pub IsNumberedFault : (List ℕ → Option (List ℕ)) → Place → List (List ℕ) → List ℕ → Option ℕ → PutFault → Type 0
IsNumberedFault bytes_at place paths said None fault = fault ≡ Named Malformed
IsNumberedFault bytes_at place paths said (Some number) fault =
    IsCopyFault place paths (capture_name said) fault ⊎ ((fault ≡ Named NoPacket) × LacksPacket bytes_at place said number)

abbrev pub IsPacketFault : Bool → (List ℕ → Option (List ℕ)) → Place → List (List ℕ) → List ℕ → PutFault → Type 0
IsPacketFault false bytes_at place paths said fault = fault ≡ Named Malformed
IsPacketFault true bytes_at place paths said fault = IsNumberedFault bytes_at place paths said (packet_number said) fault

-- `-- object FILE`: the first of the objects that are joined isn't there; or the object isn't; or no program comes of them.
pub record LacksOther (bytes_at : List ℕ → Option (List ℕ)) (place : Place) (paths names : List (List ℕ)) (fault : PutFault) : Type 0 where
  pub n : ℕ
  pub inside : n < length names
  pub before : List (List ℕ)
  pub read : ReadFirst bytes_at place names n before
  pub why : IsCopyFault place (with_names place paths names n) (get_or names n []) fault

pub record LacksObject (bytes_at : List ℕ → Option (List ℕ)) (place : Place) (paths : List (List ℕ)) (asked : Asked) (fault : PutFault) : Type 0 where
  pub with : List (List ℕ)
  pub others : ReadFirst bytes_at place asked.with.items (length asked.with.items) with
  pub why : IsCopyFault place (with_names place paths asked.with.items (length asked.with.items)) asked.object fault

-- A fault of an object is kept with the name that it tells, unless memory runs out.
pub record Keeps (fault : LinkFault) (index : Option ℕ) (name : List ℕ) (kept : KeptFault) : Type 0 where
  pub is_fault : kept.fault ≡ fault
  pub is_index : kept.index ≡ index
  pub is_name : kept.name.items ≡ name

abbrev pub IsKept : LinkFault → Option ℕ → List ℕ → PutFault → Type 0
IsKept fault index name (Named why) = ⊥
IsKept fault index name (Link kept) = Keeps fault index name kept
IsKept fault index name Memory = ⊤

-- Nothing is told of a program's slots: the list of lines of an object is malformed, or that of one with functions.
pub record IsUntold (target : Target) (loaded : LinkedObject) (fault : PutFault) : Type 0 where
  pub refused : LinesFault
  pub why : IsProgramLinesFault loaded.sources.own.items target.section.now (contents target.with.now) refused
  pub kept : IsKept refused.fault refused.index (names_told target.section.now refused) fault

abbrev pub HasNoTable : Bool → Target → LinkedObject → PutFault → Type 0
HasNoTable wanted target loaded fault = (fault ≡ Memory) ⊎ ((wanted ≡ true) × IsUntold target loaded fault)

-- No program is made of an object; or one is, and there is no table of its lines, which is wanted.
pub data IsUnmade (wanted : Bool) (target : Target) (object : List ℕ) (fault : PutFault) : Type 0 where
  Unloaded : (why : ObjectFault) → IsObjectFault target object why → IsKept why.fault why.index (name_of why) fault → IsUnmade wanted target object fault
  Untabled : (loaded : LinkedObject) → LinksTo target object loaded → HasNoTable wanted target loaded fault → IsUnmade wanted target object fault

pub record HasNoProgram (bytes_at : List ℕ → Option (List ℕ)) (place : Place) (asked : Asked) (fault : PutFault) : Type 0 where
  pub object : List ℕ
  pub file : IsFile bytes_at place asked.object object
  pub with : List (List ℕ)
  pub others : ReadFirst bytes_at place asked.with.items (length asked.with.items) with
  pub all : List (List ℕ)
  pub completes : Completes (linux_of place) asked object with all
  pub target : Target
  pub is_target : IsTargetOf asked object all target
  pub why : IsUnmade place.lines target object fault

abbrev pub IsOthersFault : (List ℕ → Option (List ℕ)) → Place → List (List ℕ) → Asked → PutFault → Type 0
IsOthersFault bytes_at place paths asked fault = (fault ≡ Memory) ⊎ LacksOther bytes_at place paths asked.with.items fault

abbrev pub IsAskedFault : (List ℕ → Option (List ℕ)) → Place → List (List ℕ) → Asked → PutFault → Type 0
IsAskedFault bytes_at place paths asked fault =
    IsOthersFault bytes_at place paths asked fault ⊎ (LacksObject bytes_at place paths asked fault ⊎ HasNoProgram bytes_at place asked fault)

-- What it asks is malformed, or isn't there.
abbrev pub IsProgramFault : (List ℕ → Option (List ℕ)) → Place → List (List ℕ) → List ℕ → PutFault → Type 0
IsProgramFault bytes_at place paths piece fault = (fault ≡ Memory) ⊎ (((fault ≡ Named Malformed) × AsksNothing piece)
    ⊎ ((asked : Asked) × Asks piece asked × IsAskedFault bytes_at place paths asked fault))

-- Why nothing stands in place of a piece; one that names no file stands there itself, unless memory runs out.
abbrev pub IsPutFaultBy : Word → (List ℕ → Option (List ℕ)) → Place → List (List ℕ) → List ℕ → PutFault → Type 0
IsPutFaultBy word.Object bytes_at place paths piece fault = IsProgramFault bytes_at place paths piece fault
IsPutFaultBy word.MemFile bytes_at place paths piece fault = IsMemoryFault (is_empty piece) place paths (head_of piece).value fault
IsPutFaultBy word.Packet bytes_at place paths piece fault = IsPacketFault (is_empty piece) bytes_at place paths (head_of piece).value fault
IsPutFaultBy _ bytes_at place paths piece fault = fault ≡ Memory

abbrev pub IsPutFault : (List ℕ → Option (List ℕ)) → Place → List (List ℕ) → List ℕ → PutFault → Type 0
IsPutFault bytes_at place paths piece fault = IsPutFaultBy (head_of piece).word bytes_at place paths piece fault

-- It is told with the line of the piece.
abbrev pub files_fault : ℕ → PutFault → FilesFault
files_fault line (Named fault) = whole.Section fault line
files_fault line (Link kept) = whole.Link kept line
files_fault line Memory = whole.Memory

-- The most bytes of a file of tests, with its files in it: 64 MiB. One that is longer is refused.
abbrev pub most_bytes : ℕ
most_bytes = 67108864

abbrev pub IsTooLong : ℕ → List ℕ → FilesFault → Type 0
IsTooLong line text fault = (fault ≡ whole.Memory) ⊎ ((fault ≡ whole.Section TooMuch line) × (most_bytes < length text))

-- Behind what stands in place of the pieces before it nothing can stand in place of a piece, or all of that is too long.
abbrev pub IsPieceFault : (List ℕ → Option (List ℕ)) → Place → List (List ℕ) → List ℕ → Piece → FilesFault → Type 0
IsPieceFault bytes_at place paths before piece fault =
    ((why : PutFault) × IsPutFault bytes_at place paths piece.text why × (fault ≡ files_fault piece.line why))
    ⊎ ((put : List ℕ) × IsPut bytes_at place piece.text put × IsTooLong piece.line (before ++ put) fault)

-- Of some pieces behind a text it is the first one.
pub record AreFaulty (bytes_at : List ℕ → Option (List ℕ)) (place : Place) (all : List Piece) (begun : List ℕ) (fault : FilesFault) : Type 0 where
  pub n : ℕ
  pub inside : n < length all
  pub before : List ℕ
  pub are_before : ReplacesFirst bytes_at place all begun n before
  pub why : IsPieceFault bytes_at place (paths_first place all n) before (get_or all n no_piece) fault

abbrev pub IsFilesFault : (List ℕ → Option (List ℕ)) → Place → List ℕ → FilesFault → Type 0
IsFilesFault bytes_at place text fault = (fault ≡ whole.Memory) ⊎ AreFaulty bytes_at place (pieces text) (front text) fault
