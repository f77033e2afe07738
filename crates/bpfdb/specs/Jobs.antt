-- The job of a plan.
use Rattle.std.specs.Prelude.{ℕ, ◌≡◌, ◌==◌, ◌&&◌, Bool, true, false, not, if◌then◌else◌, List, [], length, map, Option, Some, None}
use Rattle.std.specs.Borrow.{Bor}
use Rattle.bpf_link.specs.Homes.{home_of}
use Rattle.bpf_packet.specs.declared.packet.Packet.{Packet}
use Rattle.bpf_load.specs.Targets.{TellsPacket, contents, texts}
use Rattle.bpf_load.specs.declared.target.SourceKind.{SourceKind}
use Rattle.bpf_load.specs.declared.target.Target.{Target}
use Rattle.bpfdb_cli.specs.declared.plans.EntryTakes.{EntryTakes}
use Rattle.bpfdb_cli.specs.declared.plans.EntryTakes.TheVariants.{Unsaid, Struct, Context}
use Rattle.bpfdb_cli.specs.declared.plans.Plan.{Plan}
use Rattle.bpfdb_cli.specs.declared.plans.TargetWords.{TargetWords}
use Rattle.bpfdb_jobs.specs.declared.job.Job.{Job}
use Rattle.bpfdb_jobs.specs.Jobs.{links_first, name_or_empty as text_or_empty}
use Rattle.bpfdb_options.specs.declared.ask.Ask.{Ask}
use Rattle.bpfdb_options.specs.declared.ask.Ask.TheVariants.{Link}
use Rattle.bpfdb.specs.Contents.{Contents, library_in}
use Rattle.bpfdb.specs.Kinds.{source_kind}

-- The bytes of a file, where one is named.
abbrev pub IsNamed : Option (Bor (List ℕ)) → List ℕ → Option (Bor (List ℕ)) → Type 0
IsNamed None bytes given = given ≡ None
IsNamed (Some path) bytes None = ⊥
IsNamed (Some path) bytes (Some given) = given.now ≡ bytes

-- A name, empty where there is none.
abbrev pub name_or_empty : Option (Bor (List ℕ)) → List ℕ
name_or_empty name = text_or_empty name

-- Of an object of programs in turn the entry is its only program.
abbrev pub entry_of : TargetWords → List ℕ
entry_of words = if length words.turns.items == 0 then name_or_empty words.entry else []

-- The section that is named, or that in which the entry lies of an object with several.
abbrev pub section_from : Option (Bor (List ℕ)) → List ℕ → List ℕ
section_from None home = home
section_from (Some name) home = name.now

abbrev pub section_of : TargetWords → List ℕ → List ℕ
section_of words file = section_from words.section (home_of file (entry_of words))

-- FILE is linked for what is asked of it.
abbrev pub links_by : Ask → SourceKind → Bool
links_by (Link joined) kind = true
links_by ask kind = links_first kind

-- The kernel's struct that the entry takes: the one that is said; or, where nothing is said, the one that an object's types tell of its entry.
abbrev pub IsPacketOf : EntryTakes → Bool → List ℕ → List ℕ → List ℕ → Option Packet → Type 0
IsPacketOf Unsaid true file section entry packet = TellsPacket file section entry packet
IsPacketOf Unsaid false file section entry packet = packet ≡ None
IsPacketOf (Struct said) tells file section entry packet = packet ≡ Some said
IsPacketOf Context tells file section entry packet = packet ≡ None

-- Of programs in turn the types tell nothing.
abbrev pub tells_packet : Plan → SourceKind → Bool
tells_packet plan kind = links_by plan.ask kind && length plan.target.turns.items == 0

-- What FILE is, and which program runs: what the plan says of that.
pub record IsTargetOf (plan : Plan) (of : Contents) (target : Target) : Type 0 where
  pub kind : target.kind ≡ source_kind plan plan.file.now of.file
  pub maps : target.maps ≡ plan.target.maps
  pub section : target.section.now ≡ section_of plan.target of.file
  pub entry : target.entry.now ≡ entry_of plan.target
  pub counts : texts target.counts.now ≡ texts plan.target.counts.items
  pub turns : texts target.turns.now ≡ texts plan.target.turns.items
  pub with : contents target.with.now ≡ of.with
  pub stubs : target.stubs ≡ plan.target.stubs
  pub as_compiled : target.as_compiled ≡ not plan.target.strict_fields
  pub packet : IsPacketOf plan.target.takes (tells_packet plan target.kind) of.file target.section.now target.entry.now target.packet

-- It asks what the plan asks, with its options, and has the name of FILE and its bytes, those of PATH, those of the other file, if there is one, what says
-- which program of an object runs, and Linux's library, where it was joined by itself.
pub record IsJobOf (plan : Plan) (of : Contents) (job : Job) : Type 0 where
  pub ask : job.ask ≡ plan.ask
  pub name : job.name.now ≡ plan.file.now
  pub file : job.file.now ≡ of.file
  pub context : job.context.now ≡ of.context
  pub other : IsNamed plan.other of.other job.other
  pub other_kind : job.other_kind ≡ source_kind plan (name_or_empty plan.other) of.other
  pub target : IsTargetOf plan of job.target
  pub library : job.library.now ≡ library_in of
  pub options : job.options ≡ plan.options
