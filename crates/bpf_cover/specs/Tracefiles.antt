-- What ran of a program as lcov has it in its tracefiles (geninfo(1)): of each line with an instruction whether that ran, and of each conditional
-- jump which ways were taken. How often isn't kept: 1 is once or more.
use Rattle.std.specs.Prelude.{ℕ, ◌+◌, ◌*◌, ◌&&◌, Bool, true, false, if◌then◌else◌, List, [], ◌++◌, count_by, decimal, flat_map, slice_get, Option, Some, None, codes}
use Rattle.std.specs.Option.{option_and_then}
use Rattle.counted_io.specs.Cuts.{after, before}
use Rattle.counted_io.specs.Numerals.{as_u64, natural}
use Rattle.bpfdb_script.specs.Shown.{shown}
use Rattle.bpf_cover.specs.Coverage.{has_run}
use Rattle.bpf_cover.specs.declared.coverage.Mark.{Mark}

-- The line of an instruction ran or not.
abbrev pub once : Bool → List ℕ
once true = codes "1"
once false = codes "0"

abbrev pub line_text : ℕ → Bool → List ℕ
line_text line ran = codes "DA:" ++ decimal line ++ codes "," ++ once ran ++ codes "\n"

-- A conditional jump has two branches, 0 where it goes on and 1 where it jumps, in a block of its line. Neither is told of one that didn't run.
abbrev pub taken : Mark → Bool → List ℕ
taken mark way = if has_run mark then once way else codes "-"

abbrev pub ways_text : ℕ → ℕ → Mark → List ℕ
ways_text line block mark =
    codes "BRDA:" ++ decimal line ++ codes "," ++ decimal block ++ codes ",0," ++ taken mark mark.went_on ++ codes "\nBRDA:" ++ decimal line
    ++ codes "," ++ decimal block ++ codes ",1," ++ taken mark mark.jumped ++ codes "\n"

abbrev pub branches_text : ℕ → ℕ → Mark → List ℕ
branches_text line block mark = if mark.forks then ways_text line block mark else []

-- The rows of a table of lines tell first the slot of an instruction and then its line, counted behind so many lines of its file.
abbrev pub number_of : List ℕ → Option ℕ
number_of word = option_and_then as_u64 (natural word)

abbrev pub mark_in : List Mark → List ℕ → Option Mark
mark_in marks row = option_and_then (slice_get marks) (number_of (before 32 row))

abbrev pub line_in : ℕ → List ℕ → Option ℕ
line_in head row = option_and_then (λ line. as_u64 (head + line)) (number_of (before 32 (after 32 row)))

abbrev pub place_text : Option ℕ → Option Mark → List ℕ
place_text (Some line) (Some mark) = line_text line (has_run mark) ++ branches_text line 0 mark
place_text (Some line) None = []
place_text None mark = []

abbrev pub row_text : ℕ → List Mark → List ℕ → List ℕ
row_text head marks row = place_text (line_in head row) (mark_in marks row)

abbrev pub rows_text : ℕ → List Mark → List (List ℕ) → List ℕ
rows_text head marks rows = flat_map (row_text head marks) rows

-- How many there are, and how many ran or were taken.
abbrev pub ways_taken : List Mark → ℕ
ways_taken marks = count_by (λ mark. mark.forks && mark.went_on) marks + count_by (λ mark. mark.forks && mark.jumped) marks

abbrev pub totals_text : ℕ → ℕ → ℕ → ℕ → List ℕ
totals_text lines ran forks taken =
    codes "LF:" ++ decimal lines ++ codes "\nLH:" ++ decimal ran ++ codes "\nBRF:" ++ decimal (2 * forks) ++ codes "\nBRH:" ++ decimal taken
    ++ codes "\nend_of_record\n"

abbrev pub totals_of : List Mark → List ℕ
totals_of marks =
    totals_text (count_by (λ mark. mark.starts) marks) (count_by has_run marks) (count_by (λ mark. mark.forks) marks) (ways_taken marks)

-- The record of a program that stands in a file, behind so many lines of it, by the rows of its table of lines.
unfoldable pub record_text : List ℕ → ℕ → List (List ℕ) → List Mark → List ℕ
record_text file head rows marks =
    codes "TN:\nSF:" ++ shown file ++ codes "\n" ++ rows_text head marks rows ++ totals_of marks
