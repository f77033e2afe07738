-- What a user expects of two objects that are joined and then linked.
use Rattle.std.specs.Prelude.{◌≡◌, ◌<◌, ℕ, ◌+◌, ◌*◌, ◌==◌, Bool, true, List, Some, None, Ok, length, slice_index}
use Rattle.bpf_link.specs.Begun.{counts}
use Rattle.bpf_link.specs.Laid.{IsPlain}
use Rattle.bpf_link.specs.Links.{planned, unlinked}
use Rattle.bpf_link.specs.Objects.{Elf, opened, section_at}
use Rattle.bpf_link.specs.Parts.{slots_in}
use Rattle.bpf_link.specs.Plans.{bytes_of, chosen_in}
use Rattle.bpf_link.specs.Programs.{IsLinked}
use Rattle.bpf_link.specs.Reach.{is_reached}
use Rattle.bpf_link.specs.Sections.{roles_in}
use Rattle.bpf_link.specs.Untouched.{IsLeft, slot_of}
use Rattle.bpf_link.specs.declared.linker.Linked.{Linked}
use Rattle.bpf_link.specs.declared.parts.Side.TheVariants.{Code}
use Rattle.bpf_link.specs.declared.plan.Plan.{Plan}
use Rattle.bpf_link.specs.declared.stubs.Stub.{Stub}
use Rattle.bpf_join.specs.Codes.{own_slots}
use Rattle.bpf_join.specs.Joined.{IsJoined}
use Rattle.bpf_join.specs.declared.joined.Joined.{Joined}
use Rattle.bpf_link_laws.specs.Codes.{IsBoth, IsCall, answer}
use Rattle.bpf_link_laws.specs.Files.{HasNames, HasSymbolNames, IsFile, IsText}

-- Two files are joined for a section, whose name has no zeros, and the names in the first one stand where those of an object do.
pub record IsJoin (a b section : List ℕ) (as_compiled : Bool) (joined : Joined) : Type 0 where
  pub first_file : IsFile a
  pub second_file : IsFile b
  pub short : length joined.bytes.items < 18446744073709551616
  pub text : IsText section
  pub joins : IsJoined a b section as_compiled joined
  pub names : HasNames joins.pair.first.object
  pub symbols : HasSymbolNames joins.pair.first

-- The plans of both.
abbrev pub first_of : {a b section : List ℕ} {as_compiled : Bool} {joined : Joined} → IsJoin a b section as_compiled joined → Plan
first_of join = join.joins.pair.first

abbrev pub second_of : {a b section : List ℕ} {as_compiled : Bool} {joined : Joined} → IsJoin a b section as_compiled joined → Plan
second_of join = join.joins.pair.second

-- Bytes are an object in which the section that is asked for is found, and it holds the code of both.
pub record IsFound (bytes section : List ℕ) (first second : Plan) : Type 0 where
  pub object : Elf
  pub opens : opened bytes ≡ Ok object
  pub chosen : chosen_in (roles_in object section object.sections).chosen (roles_in object section object.sections).text (length section == 0) ≡ Ok first.parts.code.section
  pub code : IsBoth first second (bytes_of object (section_at object first.parts.code.section))

-- A joined object is read again as an object, and its section of that name is found.
abbrev pub JoinedObjectsOpen : Type 0
JoinedObjectsOpen =
    (a b section : List ℕ) (as_compiled : Bool) (joined : Joined) (join : IsJoin a b section as_compiled joined)
    → IsFound joined.bytes.items section (first_of join) (second_of join)

-- The code that the linker takes from a joined object is that of both.
abbrev pub CodesAreJoined : Type 0
CodesAreJoined =
    (a b section : List ℕ) (as_compiled : Bool) (joined : Joined) (join : IsJoin a b section as_compiled joined) (plan : Plan)
    → planned joined.bytes.items section ≡ Ok plan → IsBoth (first_of join) (second_of join) plan.parts.code.slots

-- In a program that is linked of a joined object each slot of the first one's code that linking leaves, and whose call the second one doesn't answer, has the
-- bytes that it has in the first one.
abbrev pub OwnSlotsStay : Type 0
OwnSlotsStay =
    (a b section entry : List ℕ) (as_compiled : Bool) (joined : Joined) (join : IsJoin a b section as_compiled joined) (stubs : List Stub) (program : Linked)
    (linked : IsLinked joined.bytes.items section entry stubs program) (p k : ℕ)
    → IsLeft (counts linked.begun) linked.begun.reach stubs Code p → p < own_slots (first_of join) → answer (first_of join) (second_of join) p ≡ None → k < 8
    → slice_index program.words.items (8 * slot_of joined.bytes.items section entry stubs program linked Code p + k) ≡ slice_index (unlinked (first_of join).parts) (8 * p + k)

-- Each slot of the second one's code that linking leaves has the bytes that it has in the second one.
abbrev pub FunctionsStay : Type 0
FunctionsStay =
    (a b section entry : List ℕ) (as_compiled : Bool) (joined : Joined) (join : IsJoin a b section as_compiled joined) (stubs : List Stub) (program : Linked)
    (linked : IsLinked joined.bytes.items section entry stubs program) (q k : ℕ)
    → IsLeft (counts linked.begun) linked.begun.reach stubs Code (own_slots (first_of join) + q) → q < slots_in (second_of join).parts.code → k < 8
    → slice_index program.words.items (8 * slot_of joined.bytes.items section entry stubs program linked Code (own_slots (first_of join) + q) + k)
    ≡ slice_index (second_of join).parts.code.slots (8 * q + k)

-- Each call of the first one that the second one answers, which is reached and which no relocation names, is in the program a call of the function that answers it.
abbrev pub CallsAreAnswered : Type 0
CallsAreAnswered =
    (a b section entry : List ℕ) (as_compiled : Bool) (joined : Joined) (join : IsJoin a b section as_compiled joined) (stubs : List Stub) (program : Linked)
    (linked : IsLinked joined.bytes.items section entry stubs program) (p to : ℕ)
    → p < own_slots (first_of join) → answer (first_of join) (second_of join) p ≡ Some to → is_reached linked.begun.reach p ≡ true → IsPlain (counts linked.begun).parts.code p
    → IsCall program.words.items (slot_of joined.bytes.items section entry stubs program linked Code p)
    (slot_of joined.bytes.items section entry stubs program linked Code (own_slots (first_of join) + to))
