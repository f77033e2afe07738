-- What is wrong with a test file: the first section with a fault, each with a number and a text. bpfdb's own choice.
use Rattle.std.specs.Prelude.{ℕ, ◌≡◌, ⊤, Bool, true, not, if◌then◌else◌, List, [], ◌∷◌, ◌++◌, codes, Option, Some, None, is_some}
use Rattle.std.specs.List.{list_any}
use Rattle.bpf_cover.specs.Places.{is_table}
use Rattle.bpf_suite.specs.Bodies.{are_remarks, bytes_of, is_line, is_pattern, is_phrase, is_title, limit_of, number_of, solid, trimmed}
use Rattle.bpf_suite.specs.Cells.{are_cells, are_patterns}
use Rattle.bpf_suite.specs.Files.{front, sections, until_name}
use Rattle.bpf_suite.specs.Kinds.{is_name, is_part, part_of}
use Rattle.bpf_suite.specs.Regs.{are_regs}
use Rattle.bpf_suite.specs.Tests.{first_line}
use Rattle.bpf_suite.specs.declared.kind.Kind.{Kind}
use Rattle.bpf_suite.specs.declared.kind.Kind.TheVariants as kind
use Rattle.bpf_suite.specs.declared.kind.Part.{Part}
use Rattle.bpf_suite.specs.declared.kind.Part.TheVariants as part
use Rattle.bpf_suite.specs.declared.fault.SectionFault.{SectionFault}
use Rattle.bpf_suite.specs.declared.fault.SectionFault.TheVariants.{Stray, Unknown, Twice, Malformed, NoProgram, NothingExpected}
use Rattle.bpf_suite.specs.declared.fault.FileFault.{FileFault}
use Rattle.bpf_suite.specs.declared.fault.FileFault.TheVariants.{Line, Memory}
use Rattle.bpf_suite.specs.declared.section.Section.{Section}

-- Their numbers and texts.
abbrev pub section_fault : SectionFault → ℕ × List ℕ
section_fault Stray = (1, codes "text in front of the first section")
section_fault Unknown = (2, codes "unknown section")
section_fault Twice = (3, codes "section given twice")
section_fault Malformed = (4, codes "malformed section")
section_fault NoProgram = (5, codes "test without a program")
section_fault NothingExpected = (6, codes "test without an expectation")

-- Whether some section is a part.
abbrev pub has_part : Part → List Section → Bool
has_part p sections = list_any (λ section. is_part p section.kind) sections

-- Whether a body is what the section's kind takes.
abbrev pub is_well_formed : Kind → List ℕ → Bool
is_well_formed kind.Name body = is_title (trimmed body)
is_well_formed kind.Listing body = true
is_well_formed kind.Words body = is_some (bytes_of body)
is_well_formed kind.Mem body = is_some (bytes_of body)
is_well_formed kind.Maps body = is_line (trimmed body)
is_well_formed kind.Cells body = are_cells body
is_well_formed kind.Regs body = are_regs body
is_well_formed kind.Steps body = is_some (limit_of body)
is_well_formed kind.Result body = is_some (number_of body)
is_well_formed kind.Fault body = is_line (trimmed body)
is_well_formed kind.Limit body = is_line (trimmed body)
is_well_formed kind.Refused body = is_phrase (trimmed body)
is_well_formed kind.MemAfter body = is_pattern (solid body)
is_well_formed kind.MapAfter body = are_patterns body
is_well_formed kind.Lines body = is_table body
is_well_formed kind.Unknown body = true

-- A test that lacks its program, or its expectation.
abbrev pub lack : List Section → Option SectionFault
lack test =
    if not (has_part part.Program test) then Some NoProgram
    else if not (has_part part.Expected test) then Some NothingExpected else None

-- What is wrong with a section, where these stand before it in its test, and these behind it; the shared ones stand in each test.
abbrev pub fault_of : List Section → List Section → Section → List Section → Option SectionFault
fault_of shared earlier section more =
    if is_part part.Nothing section.kind then Some Unknown
    else if has_part (part_of section.kind) earlier then Some Twice
    else if not (is_well_formed section.kind section.body) then Some Malformed
    else if is_name section.kind then lack (until_name more ++ shared)
    else None

-- The sections before one in its test: none before a name.
abbrev pub same_test : List Section → Section → List Section
same_test earlier section = if is_name section.kind then [] else earlier

-- The first of two faults.
abbrev pub or_next : Option FileFault → Option FileFault → Option FileFault
or_next None next = next
or_next (Some fault) next = Some fault

abbrev pub in_line : ℕ → Option SectionFault → Option FileFault
in_line line None = None
in_line line (Some fault) = Some (Line fault line)

-- The fault of the first of these sections, where these stand before it in its test.
abbrev pub fault_at : List Section → List Section → List Section → Option FileFault
fault_at shared earlier [] = None
fault_at shared earlier (section ∷ more) = in_line section.line (fault_of shared earlier section more)

-- The first fault of sections, where these stand before them in their test.
abbrev pub first_fault : List Section → List Section → List Section → Option FileFault
first_fault shared earlier [] = None
first_fault shared earlier (section ∷ more) =
    or_next (fault_at shared (same_test earlier section) (section ∷ more)) (first_fault shared (same_test earlier section ++ section ∷ []) more)

-- The fault of a file without names, which is one test.
abbrev pub alone_fault : List Section → Option FileFault
alone_fault s = if list_any (λ section. is_name section.kind) s then None else in_line (first_line s) (lack s)

abbrev pub sections_fault : List Section → Option FileFault
sections_fault s = or_next (first_fault (until_name s) [] s) (alone_fault s)

-- The first fault of a file.
abbrev pub file_fault : List ℕ → Option FileFault
file_fault text = if are_remarks (front text) then sections_fault (sections text) else Some (Line Stray 1)

-- Want of memory may be answered instead of a fault; else it is the file's.
abbrev pub IsFaultOf : List ℕ → FileFault → Type 0
IsFaultOf text Memory = ⊤
IsFaultOf text (Line fault line) = file_fault text ≡ Some (Line fault line)

-- Without a fault, or want of memory.
abbrev pub IsSound : List ℕ → Type 0
IsSound text = file_fault text ≡ None
