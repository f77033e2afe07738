-- The sections of a test file by their names, and the part of a test that each is. bpfdb's own choice, after uBPF's test files.
use Rattle.std.specs.Prelude.{ℕ, Bool, ◌==◌, if◌then◌else◌, List, codes}
use Rattle.std.specs.Str.{bytes_eq}
use Rattle.bpf_suite.specs.declared.kind.Kind.{Kind}
use Rattle.bpf_suite.specs.declared.kind.Kind.TheVariants as kind
use Rattle.bpf_suite.specs.declared.kind.Part.{Part}
use Rattle.bpf_suite.specs.declared.kind.Part.TheVariants as part

-- The section of a name.
abbrev pub kind_named : List ℕ → Kind
kind_named name =
    if bytes_eq name (codes "name") then kind.Name
    else if bytes_eq name (codes "listing") then kind.Listing
    else if bytes_eq name (codes "asm") then kind.Listing
    else if bytes_eq name (codes "words") then kind.Words
    else if bytes_eq name (codes "mem") then kind.Mem
    else if bytes_eq name (codes "maps") then kind.Maps
    else if bytes_eq name (codes "cells") then kind.Cells
    else if bytes_eq name (codes "regs") then kind.Regs
    else if bytes_eq name (codes "steps") then kind.Steps
    else if bytes_eq name (codes "result") then kind.Result
    else if bytes_eq name (codes "fault") then kind.Fault
    else if bytes_eq name (codes "limit") then kind.Limit
    else if bytes_eq name (codes "refused") then kind.Refused
    else if bytes_eq name (codes "mem-after") then kind.MemAfter
    else if bytes_eq name (codes "map-after") then kind.MapAfter
    else if bytes_eq name (codes "lines") then kind.Lines
    else kind.Unknown

-- What a section is of its test. A test has each part once at most.
abbrev pub part_of : Kind → Part
part_of kind.Name = part.Title
part_of kind.Listing = part.Program
part_of kind.Words = part.Program
part_of kind.Mem = part.Context
part_of kind.Maps = part.Maps
part_of kind.Cells = part.Cells
part_of kind.Regs = part.Registers
part_of kind.Steps = part.Steps
part_of kind.Result = part.Expected
part_of kind.Fault = part.Expected
part_of kind.Limit = part.Expected
part_of kind.Refused = part.Expected
part_of kind.MemAfter = part.After
part_of kind.MapAfter = part.CellsAfter
part_of kind.Lines = part.Lines
part_of kind.Unknown = part.Nothing

-- The parts, numbered.
abbrev pub part_number : Part → ℕ
part_number part.Title = 0
part_number part.Program = 1
part_number part.Context = 2
part_number part.Maps = 3
part_number part.Cells = 4
part_number part.Registers = 5
part_number part.Steps = 6
part_number part.Expected = 7
part_number part.After = 8
part_number part.CellsAfter = 9
part_number part.Lines = 10
part_number part.Nothing = 11

abbrev pub is_part : Part → Kind → Bool
is_part p k = part_number (part_of k) == part_number p

-- A section that begins a test.
abbrev pub is_name : Kind → Bool
is_name k = is_part part.Title k

-- The word of an outcome that is expected.
abbrev pub word_of : Kind → List ℕ
word_of kind.Result = codes "result"
word_of kind.Fault = codes "fault"
word_of kind.Limit = codes "limit"
word_of kind.Refused = codes "refused"
word_of _ = codes "nothing"
