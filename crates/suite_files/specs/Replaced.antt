-- A file of tests in which sections that name files are replaced by sections of what these hold.
use Rattle.std.specs.Prelude.{ℕ, zero, suc, ◌≡◌, ◌≤◌, true, List, [], ◌∷◌, ◌++◌, Option, Some, drop, get_or, length, take}
use Rattle.std.specs.List.{position_or_len}
use Rattle.std.specs.Option.{option_and_then, option_map}
use Rattle.counted_io.specs.Lines.{is_blank, trim_start}
use Rattle.counted_io.specs.Numerals.{as_u64, natural}
use Rattle.bpf_load.specs.Targets.{LinksTo}
use Rattle.bpf_load.specs.declared.target.Target.{Target}
use Rattle.suite_files.specs.Asks.{Asks}
use Rattle.suite_files.specs.Joining.{Completes}
use Rattle.suite_files.specs.Links.{IsTableOf, IsTargetOf}
use Rattle.suite_files.specs.Maps.{maps_text}
use Rattle.suite_files.specs.Shelves.{IsFile, most_files, path_of, with_names, with_path}
use Rattle.suite_files.specs.declared.asked.Asked.{Asked}
use Rattle.suite_files.specs.declared.made.Made.{Made}
use Rattle.suite_files.specs.declared.place.Place.{Place}
use Rattle.input_texts.specs.Captures.{packet_in}
use Rattle.input_texts.specs.Heads.{head_of}
use Rattle.input_texts.specs.Options.{is_empty, option_lines, values_of}
use Rattle.input_texts.specs.Pieces.{front, pieces}
use Rattle.input_texts.specs.Puts.{feeds, memory_text, with_lines, words_text}
use Rattle.input_texts.specs.declared.piece.Piece.{Piece}
use Rattle.input_texts.specs.declared.word.Word.{Word}
use Rattle.input_texts.specs.declared.word.Word.TheVariants as word

-- In place of `-- mem-file FILE` stand the file's bytes.
pub record IsMemoryPut (bytes_at : List ℕ → Option (List ℕ)) (place : Place) (piece put : List ℕ) : Type 0 where
  pub empty : is_empty piece ≡ true
  pub bytes : List ℕ
  pub file : IsFile bytes_at place (head_of piece).value bytes
  pub is_put : put ≡ memory_text bytes ++ feeds piece

-- `-- packet FILE N`: the capture's name stands before a blank, and the packet's number behind it.
abbrev pub capture_name : List ℕ → List ℕ
capture_name said = take (position_or_len is_blank said) said

abbrev pub packet_number : List ℕ → Option ℕ
packet_number said = option_and_then as_u64 (natural (trim_start (drop (position_or_len is_blank said) said)))

-- In its place stand the packet's bytes.
pub record IsPacketPut (bytes_at : List ℕ → Option (List ℕ)) (place : Place) (piece put : List ℕ) : Type 0 where
  pub empty : is_empty piece ≡ true
  pub number : ℕ
  pub is_number : packet_number (head_of piece).value ≡ Some number
  pub capture : List ℕ
  pub file : IsFile bytes_at place (capture_name (head_of piece).value) capture
  pub packet : List ℕ
  pub is_packet : packet_in capture number ≡ Some packet
  pub is_put : put ≡ memory_text packet ++ feeds piece

-- The files of the first n of some names.
abbrev pub ReadFirst : (List ℕ → Option (List ℕ)) → Place → List (List ℕ) → ℕ → List (List ℕ) → Type 0
ReadFirst bytes_at place names zero all = all ≡ []
ReadFirst bytes_at place names (suc n) all = (before : List (List ℕ)) × ReadFirst bytes_at place names n before
    × (bytes : List ℕ) × IsFile bytes_at place (get_or names n []) bytes × (all ≡ before ++ bytes ∷ [])

-- In place of `-- object FILE` stand the words of the program that is asked for, its maps, and the table of its lines.
abbrev pub program_text : Made → List ℕ
program_text made =
    let program = made.loaded.program in with_lines (words_text program.words.items (maps_text program.shapes.items)) made.table.items

-- Linux's library, where it may be joined by itself.
abbrev pub linux_of : Place → Option (List ℕ)
linux_of place = option_map (λ library. library.now) place.linux

pub record IsAskedProgram (bytes_at : List ℕ → Option (List ℕ)) (place : Place) (asked : Asked) (made : Made) : Type 0 where
  pub object : List ℕ
  pub file : IsFile bytes_at place asked.object object
  pub with : List (List ℕ)
  pub others : ReadFirst bytes_at place asked.with.items (length asked.with.items) with
  pub all : List (List ℕ)
  pub completes : Completes (linux_of place) asked object with all
  pub target : Target
  pub is_target : IsTargetOf asked object all target
  pub loads : LinksTo target object made.loaded
  pub is_table : IsTableOf place.lines target made.loaded made.table.items

pub record IsProgramPut (bytes_at : List ℕ → Option (List ℕ)) (place : Place) (piece put : List ℕ) : Type 0 where
  pub asked : Asked
  pub asks : Asks piece asked
  pub made : Made
  pub is_made : IsAskedProgram bytes_at place asked made
  pub is_put : put ≡ program_text made ++ feeds piece

-- What stands in place of a piece: itself where it names no file.
abbrev pub IsPutBy : Word → (List ℕ → Option (List ℕ)) → Place → List ℕ → List ℕ → Type 0
IsPutBy word.Object bytes_at place piece put = IsProgramPut bytes_at place piece put
IsPutBy word.MemFile bytes_at place piece put = IsMemoryPut bytes_at place piece put
IsPutBy word.Packet bytes_at place piece put = IsPacketPut bytes_at place piece put
IsPutBy _ bytes_at place piece put = put ≡ piece

abbrev pub IsPut : (List ℕ → Option (List ℕ)) → Place → List ℕ → List ℕ → Type 0
IsPut bytes_at place piece put = IsPutBy (head_of piece).word bytes_at place piece put

-- A text, and behind it what stands in place of the first n pieces.
abbrev pub no_piece : Piece
no_piece = record { line = 0; text = [] }

abbrev pub ReplacesFirst : (List ℕ → Option (List ℕ)) → Place → List Piece → List ℕ → ℕ → List ℕ → Type 0
ReplacesFirst bytes_at place all begun zero text = text ≡ begun
ReplacesFirst bytes_at place all begun (suc n) text = (before : List ℕ) × ReplacesFirst bytes_at place all begun n before
    × (put : List ℕ) × IsPut bytes_at place (get_or all n no_piece).text put × (text ≡ before ++ put)

-- The paths of the files that a piece names, in the order in which they are looked at, behind others; and those that the first n pieces name.
abbrev pub with_objects : Place → List (List ℕ) → List (List ℕ) → List ℕ → List (List ℕ)
with_objects place paths with object = with_path (with_names place paths with (length with)) (path_of place object)

abbrev pub with_piece_by : Word → Place → List (List ℕ) → List ℕ → List (List ℕ)
with_piece_by word.Object place paths piece = with_objects place paths (values_of word.With (option_lines piece)) (head_of piece).value
with_piece_by word.MemFile place paths piece = with_path paths (path_of place (head_of piece).value)
with_piece_by word.Packet place paths piece = with_path paths (path_of place (capture_name (head_of piece).value))
with_piece_by _ place paths piece = paths

abbrev pub with_piece : Place → List (List ℕ) → List ℕ → List (List ℕ)
with_piece place paths piece = with_piece_by (head_of piece).word place paths piece

abbrev pub paths_first : Place → List Piece → ℕ → List (List ℕ)
paths_first place all zero = []
paths_first place all (suc n) = with_piece place (paths_first place all n) (get_or all n no_piece).text

abbrev pub NameFew : Place → List Piece → Type 0
NameFew place all = length (paths_first place all (length all)) ≤ most_files

-- Each piece of a file is replaced, and what stands in front of them stays. They name so many files at most.
abbrev pub IsReplaced : (List ℕ → Option (List ℕ)) → Place → List ℕ → List ℕ → Type 0
IsReplaced bytes_at place text all =
    ReplacesFirst bytes_at place (pieces text) (front text) (length (pieces text)) all × NameFew place (pieces text)
