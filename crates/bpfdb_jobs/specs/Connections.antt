-- What serving gdb leaves: a session of the job was served, to the connection's end or until a read or a write failed.
use Rattle.std.specs.Prelude.{ℕ, ◌≡◌, ◌⊎◌, Option, None, map}
use Rattle.std.specs.Option.{option_map}
use Rattle.bpf_isa.specs.Programs.{Checked}
use Rattle.bpf_journal.specs.Tracks.{RingHolds, ring_room}
use Rattle.bpf_lines.specs.declared.place_names.Names.{Names}
use Rattle.bpf_link.specs.declared.fault.LinkFault.{LinkFault}
use Rattle.bpf_load.specs.declared.loading.LinkedObject.{LinkedObject}
use Rattle.bpf_load.specs.declared.program.Loaded.{Loaded}
use Rattle.bpf_ring.specs.declared.keeper.RingKeeper.{RingKeeper}
use Rattle.bpf_remote.specs.Serving.{Breaks, Ends, Serves}
use Rattle.bpf_remote.specs.declared.layout.Layout.{Layout}
use Rattle.bpf_remote.specs.declared.layout.Layout.TheVariants as layout
use Rattle.bpf_remote.specs.declared.target.Target.{Target}
use Rattle.bpf_session.specs.Runs.{HasStanding}
use Rattle.bpf_session.specs.Sessions.{SessionValue}
use Rattle.bpf_session.specs.declared.fault.RunFault.{RunFault}
use Rattle.bpfdb_faults.specs.Streams.{Stream}
use Rattle.bpfdb_jobs.specs.Jobs.{AreTold, section_of, start_of}
use Rattle.bpfdb_jobs.specs.Origins.{AreNamesOf, LacksNames}
use Rattle.bpfdb_jobs.specs.declared.job.Job.{Job}
use Rattle.bpfdb_options.specs.declared.registers.Registers.{Registers}
use Rattle.bpfdb_options.specs.declared.registers.Registers.TheVariants as of

-- The machine that gdb takes this one for.
abbrev pub layout_of : Registers → Layout
layout_of of.Bpf = layout.Bpf
layout_of of.X86 = layout.X86
layout_of of.Riscv = layout.Riscv

-- The names that gdb is told: those in the maps of the object that the program comes from; none where these can't be known.
abbrev pub KnowsNames : Job → Option LinkedObject → Option Names → Type 0
KnowsNames job object names =
    AreNamesOf object (section_of job) job.target.packet names ⊎ ((names ≡ None) × (why : LinkFault) × LacksNames object (section_of job) why)

pub record IsTarget (registers : Registers) (job : Job) (object : Option LinkedObject) (gdb : Target) : Type 0 where
  pub layout : gdb.layout ≡ layout_of registers
  pub names : KnowsNames job object (option_map (λ n. n.now) gdb.names)
  pub places : AreTold job object gdb.places

-- A ring refuses no push.
abbrev pub ring_refusals : RingKeeper → ℕ
ring_refusals ring = 0

-- A session stands where one of the job begins.
abbrev pub Begins : Job → Checked → SessionValue RingKeeper → Type 0
Begins job program session = HasStanding RingHolds ring_refusals ring_room session (start_of job program)

-- What was known of the streams and of the session before it was served and after it.
abbrev pub ends : {R W : Type 0} → Target → SessionValue RingKeeper → SessionValue RingKeeper → Stream R → Stream W → Ends RingKeeper R W
ends gdb from to reader writer = record {
  gdb = gdb;
  from = from;
  to = to;
  reader = reader.old;
  reader' = reader.new;
  writer = writer.old;
  writer' = writer.new;
}

module _ {R W : Type 0} (registers : Registers) (job : Job) (loaded : Loaded) (reader : Stream R) (writer : Stream W) where
  -- It was served to the connection's end.
  pub record ServesConnection : Type 0 where
    pub gdb : Target
    pub target : IsTarget registers job loaded.object gdb
    pub from : SessionValue RingKeeper
    pub to : SessionValue RingKeeper
    pub begins : Begins job loaded.program from
    pub serves : Serves RingHolds ring_refusals ring_room reader.bytes writer.bytes (ends gdb from to reader writer)

  -- It was served until a read or a write failed.
  pub record BreaksConnection (why : RunFault) : Type 0 where
    pub gdb : Target
    pub target : IsTarget registers job loaded.object gdb
    pub from : SessionValue RingKeeper
    pub to : SessionValue RingKeeper
    pub begins : Begins job loaded.program from
    pub breaks : Breaks RingHolds ring_refusals ring_room reader.bytes writer.bytes why (ends gdb from to reader writer)
