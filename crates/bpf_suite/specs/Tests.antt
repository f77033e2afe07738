-- What the sections of a test say of its program, and what they expect.
use Rattle.std.specs.Prelude.{ℕ, Bool, true, false, List, [], ◌∷◌, Option, filter, find}
use Rattle.std.specs.Str.{bytes_eq}
use Rattle.std.specs.Option.{option_map, option_map_or, option_and_then}
use Rattle.std.specs.Prelude.{unwrap_or}
use Rattle.bpfdb_limits.specs.Limits.{default_limit}
use Rattle.bpf_suite.specs.Bodies.{bytes_of, limit_of, number_of, trimmed}
use Rattle.bpf_suite.specs.Cells.{cells_of}
use Rattle.bpf_suite.specs.Kinds.{is_part}
use Rattle.bpf_suite.specs.Regs.{last_lines, reg_lines}
use Rattle.bpf_suite.specs.declared.cells.Cell.{Cell}
use Rattle.bpf_suite.specs.declared.expected.Expectation.{Expectation}
use Rattle.bpf_suite.specs.declared.kind.Kind.{Kind}
use Rattle.bpf_suite.specs.declared.kind.Kind.TheVariants as kind
use Rattle.bpf_suite.specs.declared.kind.Part.{Part}
use Rattle.bpf_suite.specs.declared.kind.Part.TheVariants as part
use Rattle.bpf_suite.specs.declared.regs.RegLine.{RegLine}
use Rattle.bpf_suite.specs.declared.section.Section.{Section}
use Rattle.bpf_suite.specs.declared.setting.Setting.{Setting}

-- The section that is a part of a test, if it has one.
abbrev pub section_for : Part → List Section → Option Section
section_for p sections = find (λ section. is_part p section.kind) sections

-- Its body; nothing where there is none.
abbrev pub body_for : Part → List Section → List ℕ
body_for p sections = option_map_or (λ section. section.body) (section_for p sections) []

-- The name of a test, without spaces around it.
abbrev pub title : List Section → List ℕ
title sections = trimmed (body_for part.Title sections)

-- A test of a name, and those of tests.
abbrev pub is_named : List ℕ → List Section → Bool
is_named name test = bytes_eq (title test) name

abbrev pub chosen : List ℕ → List (List Section) → List (List Section)
chosen name tests = filter (is_named name) tests

-- The line in which a test begins.
abbrev pub first_line : List Section → ℕ
first_line [] = 1
first_line (section ∷ more) = section.line

-- Whether a program stands there as a listing, or as words; and its listing, or the bytes of its words.
abbrev pub is_listing : Kind → Bool
is_listing kind.Listing = true
is_listing _ = false

abbrev pub text_or_bytes : Kind → List ℕ → List ℕ
text_or_bytes kind.Listing body = body
text_or_bytes _ body = unwrap_or (bytes_of body) []

abbrev pub has_listing : List Section → Bool
has_listing sections = option_map_or (λ section. is_listing section.kind) (section_for part.Program sections) false

abbrev pub program : List Section → List ℕ
program sections = option_map_or (λ section. text_or_bytes section.kind section.body) (section_for part.Program sections) []

-- The bytes of its context.
abbrev pub context : List Section → List ℕ
context sections = unwrap_or (bytes_of (body_for part.Context sections)) []

-- The text of its maps, if there is one.
abbrev pub maps : List Section → Option (List ℕ)
maps sections = option_map (λ section. trimmed section.body) (section_for part.Maps sections)

-- The cells that it gives values to.
abbrev pub cells : List Section → List Cell
cells sections = cells_of (body_for part.Cells sections)

-- The registers that it sets.
abbrev pub regs : List Section → List RegLine
regs sections = reg_lines (body_for part.Registers sections)

-- The most steps that it takes.
abbrev pub limit : List Section → ℕ
limit sections = unwrap_or (option_and_then (λ section. limit_of section.body) (section_for part.Steps sections)) default_limit

-- All that is said of the program.
abbrev pub setting : List Section → Setting
setting sections = record {
  maps = maps sections;
  is_listing = has_listing sections;
  program = program sections;
  context = context sections;
  cells = cells sections;
  regs = last_lines (regs sections);
  limit = limit sections;
}

-- The same with another limit of steps.
abbrev pub limited : ℕ → Setting → Setting
limited n t = record t { limit = n }

-- What it expects: an outcome of a kind, by the text of its section without spaces around it, and by the number that
-- this is, if it is one.
abbrev pub expectation_of : Section → Expectation
expectation_of section = record { kind = section.kind; text = trimmed section.body; number = number_of section.body }

abbrev pub expected : List Section → Option Expectation
expected sections = option_map expectation_of (section_for part.Expected sections)

-- The line of the section in which its program stands.
abbrev pub program_line : List Section → ℕ
program_line sections = option_map_or (λ section. section.line) (section_for part.Program sections) 0
