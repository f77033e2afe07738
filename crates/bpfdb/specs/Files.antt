-- What the files of a plan hold, and what a fault of one tells.
use Rattle.std.specs.Prelude.{ℕ, zero, suc, ◌≡◌, ◌<◌, ◌||◌, Bool, true, false, nat_le, if◌then◌else◌, List, [], ◌∷◌, ◌++◌, Vec, Option, Some, None, get_or, length, map, option_map, ⊤}
use Rattle.std.specs.declared.alloc.Global.{Global}
use Rattle.std.specs.Borrow.{Bor}
use Rattle.bpfdb_cli.specs.declared.plans.Plan.{Plan}
use Rattle.bpfdb.specs.Contents.{Contents}
use Rattle.bpfdb.specs.Linux.{DoesLack}
use Rattle.bpfdb.specs.Parts.{ArePartsFor}
use Rattle.bpfdb.specs.declared.files.FileContents.{FileContents}
use Rattle.bpfdb.specs.declared.host.Host.{Host}
use Rattle.bpfdb.specs.declared.linux.Linux.TheVariants.{Joined, Missing, Unneeded}
use Rattle.bpf_load.specs.Targets.{contents, texts}
use Rattle.bpf_load.specs.declared.target.SourceKind.{SourceKind}
use Rattle.bpf_load.specs.declared.target.SourceKind.TheVariants.{Words}
use Rattle.bpfdb_cli.specs.declared.plans.TargetWords.{TargetWords}
use Rattle.bpfdb.specs.Kinds.{source_kind}
use Rattle.bpfdb_files.specs.Reading.{Gives, source_bytes}
use Rattle.bpfdb_files.specs.declared.kinds.FileKind.{FileKind}
use Rattle.bpfdb_files.specs.declared.kinds.FileKind.TheVariants.{Program, Any, Context, Source}
use Rattle.bpfdb_faults.specs.declared.fault.JobFault.{JobFault}
use Rattle.bpfdb_faults.specs.declared.fault.JobFault.TheVariants.{Unreadable, Memory}
use Rattle.bpfdb_options.specs.declared.ask.Ask.{Ask}
use Rattle.bpfdb_options.specs.declared.ask.Ask.TheVariants.{Asm, Batch, Lines, Link, Test}

-- What FILE is read as, by what is asked of it and by what it is said to be.
abbrev pub kind_in : Ask → TargetWords → FileKind
kind_in Asm words = Source
kind_in Lines words = Source
kind_in (Link joined) words = Source
kind_in (Test ask) words = Source
kind_in Batch words = Program
kind_in ask words = if words.is_listing || words.is_object then Source else if words.is_words then Program else Any

abbrev pub kind_of : Plan → FileKind
kind_of plan = kind_in plan.ask plan.target

-- What PATH is read as: a capture, where a packet is asked for.
abbrev pub context_kind_by : Option ℕ → FileKind
context_kind_by (Some number) = Source
context_kind_by None = Context

abbrev pub context_kind : Plan → FileKind
context_kind plan = context_kind_by plan.packet

-- It isn't too long for what it is. (Of words the checker says that.)
abbrev pub is_whole : SourceKind → List ℕ → Bool
is_whole Words bytes = true
is_whole kind bytes = nat_le (length bytes) source_bytes

pub record IsFileOf (bytes_at : List ℕ → Option (List ℕ)) (plan : Plan) (bytes : List ℕ) : Type 0 where
  pub gives : Gives (kind_of plan) (bytes_at plan.file.now) (Some bytes)
  pub whole : is_whole (source_kind plan plan.file.now bytes) bytes ≡ true

-- What is read of the file of a path that may not be there: where there is none, no bytes.
abbrev pub GivesNamed : (List ℕ → Option (List ℕ)) → FileKind → Option (Bor (List ℕ)) → List ℕ → Type 0
GivesNamed bytes_at kind (Some path) bytes = Gives kind (bytes_at path.now) (Some bytes)
GivesNamed bytes_at kind None bytes = bytes ≡ []

-- It names the path of the file, unless memory ran out.
abbrev pub Names : List ℕ → JobFault → Type 0
Names path (Unreadable named) = named.now ≡ path
Names path Memory = ⊤
Names path fault = ⊥

-- Of a path that may not be there: where there is none, no fault is.
abbrev pub NamesGiven : Option (Bor (List ℕ)) → JobFault → Type 0
NamesGiven (Some path) fault = Names path.now fault
NamesGiven None fault = ⊥

-- What is read of the files of the first n of some paths.
abbrev pub GivesFirst : (List ℕ → Option (List ℕ)) → FileKind → List (List ℕ) → ℕ → List (List ℕ) → Type 0
GivesFirst bytes_at kind paths zero all = all ≡ []
GivesFirst bytes_at kind paths (suc n) all = (before : List (List ℕ)) × GivesFirst bytes_at kind paths n before
    × (bytes : List ℕ) × Gives kind (bytes_at (get_or paths n [])) (Some bytes) × (all ≡ before ++ bytes ∷ [])

-- One of the paths is that of a file which can't be read, where those before it can; or memory ran out.
abbrev pub NamesOne : (List ℕ → Option (List ℕ)) → FileKind → List (List ℕ) → JobFault → Type 0
NamesOne bytes_at kind paths fault = (n : ℕ) × (n < length paths) × (all : List (List ℕ)) × GivesFirst bytes_at kind paths n all
    × Names (get_or paths n []) fault

-- Where a plan is done: the bytes of files by their paths, where they are known; whether Linux's library may be joined by itself, its path
-- and the folder of its parts, where those are known.
pub record World : Type 0 where
  pub bytes_at : List ℕ → Option (List ℕ)
  pub wants_linux : Bool
  pub linux : Option (List ℕ)
  pub parts : Option (List ℕ)
  pub at_terminal : Bool

abbrev pub world_of : {F : Type 0} → (F → List ℕ → Option (List ℕ)) → Host F → World
world_of bytes_at host = record {
  bytes_at = bytes_at host.files.now;
  wants_linux = host.wants_linux;
  linux = option_map (λ path. path.now) host.linux;
  parts = option_map (λ path. path.now) host.parts;
  at_terminal = host.at_terminal;
}

abbrev pub read_of : FileContents → Contents
read_of read = record {
  file = read.file.items;
  context = read.context.items;
  other = read.other.items;
  with = contents read.with.items;
  linux = read.linux;
}

-- They are what is read.
pub record AreGiven (bytes_at : List ℕ → Option (List ℕ)) (plan : Plan) (of : Contents) : Type 0 where
  pub file : IsFileOf bytes_at plan of.file
  pub context : GivesNamed bytes_at (context_kind plan) plan.memory of.context
  pub other : GivesNamed bytes_at Source plan.other of.other
  pub with : GivesFirst bytes_at Source (texts plan.target.with.items) (length plan.target.with.items) of.with
  pub linux : of.linux ≡ Unneeded

-- Linux's library stands behind the objects with functions where it is wanted, something lacks it and there is one: those of its parts that the program
-- calls, where they are known and can be read; else the whole library.
abbrev pub LacksWhere : Bool → Plan → Contents → Bool → Type 0
LacksWhere false plan of lacks = lacks ≡ false
LacksWhere true plan of lacks = DoesLack plan of lacks

abbrev pub LacksIn : World → Plan → Contents → Bool → Type 0
LacksIn world plan of lacks = LacksWhere world.wants_linux plan of lacks

-- Parts of it are known.
pub record HasParts (world : World) (plan : Plan) (of : Contents) (parts : List (List ℕ)) : Type 0 where
  pub folder : List ℕ
  pub known : world.parts ≡ Some folder
  pub parts_are : ArePartsFor world.bytes_at folder plan of parts

pub data AreRead (world : World) (plan : Plan) (of : Contents) : Type 0 where
  Whole : AreGiven world.bytes_at plan of → LacksIn world plan of false → AreRead world plan of
  Alone : (given : Contents) → AreGiven world.bytes_at plan given → LacksIn world plan given true → world.linux ≡ None
      → of ≡ record given { linux = Missing } → AreRead world plan of
  InParts : (given : Contents) → AreGiven world.bytes_at plan given → LacksIn world plan given true → (parts : List (List ℕ))
      → HasParts world plan given parts → of ≡ record given { with = given.with ++ parts; linux = Joined } → AreRead world plan of
  Completed : (given : Contents) → AreGiven world.bytes_at plan given → LacksIn world plan given true → (path : List ℕ) → world.linux ≡ Some path
      → (library : List ℕ) → Gives Source (world.bytes_at path) (Some library)
      → of ≡ record given { with = given.with ++ library ∷ []; linux = Joined } → AreRead world plan of

-- Why they aren't read: by the first of them that can't be.
pub data IsUnread (world : World) (plan : Plan) (fault : JobFault) : Type 0 where
  OfFile : Names plan.file.now fault → IsUnread world plan fault
  OfPath : (of_file : List ℕ) → IsFileOf world.bytes_at plan of_file → NamesGiven plan.memory fault
      → IsUnread world plan fault
  OfOther : (of_file of_path : List ℕ) → IsFileOf world.bytes_at plan of_file
      → GivesNamed world.bytes_at (context_kind plan) plan.memory of_path → NamesGiven plan.other fault → IsUnread world plan fault
  OfWith : (of_file of_path of_other : List ℕ) → IsFileOf world.bytes_at plan of_file
      → GivesNamed world.bytes_at (context_kind plan) plan.memory of_path → GivesNamed world.bytes_at Source plan.other of_other
      → NamesOne world.bytes_at Source (texts plan.target.with.items) fault → IsUnread world plan fault
  OfLinux : (given : Contents) → AreGiven world.bytes_at plan given → LacksIn world plan given true → (path : List ℕ) → world.linux ≡ Some path
      → Names path fault → IsUnread world plan fault

-- The program that is built in: r0 = 42, and the end.
abbrev pub first_program : List ℕ
first_program = 183 ∷ 0 ∷ 0 ∷ 0 ∷ 42 ∷ 0 ∷ 0 ∷ 0 ∷ 149 ∷ 0 ∷ 0 ∷ 0 ∷ 0 ∷ 0 ∷ 0 ∷ 0 ∷ []
