-- Records of tracefiles, row by row.
use Rattle.std.proofs.Common.{◌≡◌, ◌<◌, ℕ, true, List, [], ◌∷◌, ◌++◌, Option, Some, length, ap, sym, ◌∙◌, refl, arith}
use Rattle.counted_io.proofs.Cutting.{lines-cut}
use Rattle.counted_io.specs.Cuts.{after, before}
use Rattle.counted_io.specs.Lines.{lines}
use Rattle.bpf_cover.specs.Coverage.{has_run}
use Rattle.bpf_cover.specs.Tracefiles.{branches_text, line_text, place_text, row_text, rows_text, ways_text}
use Rattle.bpf_cover.specs.declared.coverage.Mark.{Mark}

-- one row, and those behind it
pub rows-next : (head : ℕ) (marks : List Mark) (table : List ℕ) → 0 < length table
    → rows_text head marks (lines table) ≡ row_text head marks (before 10 table) ++ rows_text head marks (lines (after 10 table))
rows-next head marks table more = ap (rows_text head marks) (lines-cut table more)

pub rows-end : (head : ℕ) (marks : List Mark) (table : List ℕ) → length table ≡ 0 → rows_text head marks (lines table) ≡ []
rows-end head marks [] none = refl
rows-end head marks (b ∷ table) none = absurd (omega (arith, none))

-- a conditional jump of two ways, and an instruction whose place is known
pub forked : (line block : ℕ) (mark : Mark) → mark.forks ≡ true → ways_text line block mark ≡ branches_text line block mark
forked line block mark e = rw e refl

pub placed : (at : Option ℕ) (held : Option Mark) (line : ℕ) (mark : Mark) → at ≡ Some line → held ≡ Some mark
    → line_text line (has_run mark) ++ branches_text line 0 mark ≡ place_text at held
placed at held line mark e f = ap (λ (a : Option ℕ). place_text a (Some mark)) (sym e) ∙ ap (λ (h : Option Mark). place_text at h) (sym f)
