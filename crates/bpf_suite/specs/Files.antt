-- A test file: its sections, and its tests. bpfdb's own choice, after uBPF's test files.
use Rattle.std.specs.Prelude.{ℕ, ◌+◌, Bool, ◌==◌, ◌&&◌, ◌||◌, false, if◌then◌else◌, List, [], ◌∷◌, ◌++◌, codes, drop, map}
use Rattle.std.specs.List.{starts_with, before_first, after_first}
use Rattle.bpf_suite.specs.Bodies.{trimmed}
use Rattle.bpf_suite.specs.Kinds.{is_name, kind_named}
use Rattle.bpf_suite.specs.declared.section.Section.{Section}

-- A line that begins with two minus signs (45) is the head of a section.
abbrev pub is_head : List ℕ → Bool
is_head s = starts_with (λ a b. a == b) s (codes "--")

-- A line ends with a line feed (10); or with a form feed (12), which isn't counted: with one the lines end that bpfdb puts in place of a section
-- that names a file, so that those behind it keep their numbers.
abbrev pub ends_line : ℕ → Bool
ends_line b = b == 10 || b == 12

-- The end of a line that a head follows.
abbrev pub is_cut : List ℕ → Bool
is_cut [] = false
is_cut (b ∷ s) = ends_line b && is_head s

-- A text up to the next head.
abbrev pub until_head : List ℕ → List ℕ
until_head [] = []
until_head (b ∷ s) = if is_cut (b ∷ s) then b ∷ [] else b ∷ until_head s

-- What stands in front of all sections.
abbrev pub front : List ℕ → List ℕ
front text = if is_head text then [] else until_head text

-- The section that a text is, at a line: the rest of its head is its name, and the other lines are its body.
abbrev pub section_of : ℕ → List ℕ → Section
section_of line text = record {
  line = line;
  kind = kind_named (trimmed (drop 2 (before_first ends_line text)));
  body = after_first ends_line text;
}

-- The section at the beginning of a text, if it begins with a head.
abbrev pub section_at : ℕ → List ℕ → List Section
section_at line text = if is_head text then section_of line (until_head text) ∷ [] else []

-- The sections whose heads stand behind ends of lines of a text that begins in a line.
abbrev pub sections_behind : ℕ → List ℕ → List Section
sections_behind line [] = []
sections_behind line (b ∷ s) =
    if b == 10 then section_at (line + 1) s ++ sections_behind (line + 1) s
    else if b == 12 then section_at line s ++ sections_behind line s
    else sections_behind line s

-- The sections of a file.
abbrev pub sections : List ℕ → List Section
sections text = section_at 1 text ++ sections_behind 1 text

-- Sections up to the next name.
abbrev pub until_name : List Section → List Section
until_name s = before_first (λ section. is_name section.kind) s

abbrev pub begins_name : List Section → Bool
begins_name [] = false
begins_name (section ∷ more) = is_name section.kind

-- The first section, and those up to the next name.
abbrev pub own_of : List Section → List Section
own_of [] = []
own_of (section ∷ more) = section ∷ until_name more

-- Each name, with the sections up to the next.
abbrev pub named : List Section → List (List Section)
named [] = []
named (section ∷ more) = if is_name section.kind then (section ∷ until_name more) ∷ named more else named more

-- Tests with the sections that they share behind their own.
abbrev pub with_shared : List Section → List (List Section) → List (List Section)
with_shared shared tests = map (λ own. own ++ shared) tests

-- The tests of a file. What stands before the first name is shared by all tests; without a name it is the one test.
abbrev pub or_alone : List Section → List (List Section) → List (List Section)
or_alone shared [] = shared ∷ []
or_alone shared (test ∷ more) = with_shared shared (test ∷ more)

abbrev pub tests : List Section → List (List Section)
tests s = or_alone (until_name s) (named s)

-- The own sections of each test; a file without a name is one test, which has none.
abbrev pub or_none : List (List Section) → List (List Section)
or_none [] = [] ∷ []
or_none (own ∷ more) = own ∷ more

abbrev pub own_tests : List Section → List (List Section)
own_tests s = or_none (named s)
