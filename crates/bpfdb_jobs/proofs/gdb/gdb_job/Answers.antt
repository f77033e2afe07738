use Rattle.std.proofs.Common.{refl, sym, ⊎_elim, Result, Ok, Err}
use Rattle.std.specs.Prelude.{IfErr, OnOk}
use Rattle.bpf_journal.specs.Tracks.{RingHolds, ring_room}
use Rattle.bpf_ring.specs.declared.keeper.RingKeeper.{RingKeeper}
use Rattle.bpf_remote.specs.Serving as remote
use Rattle.bpf_remote.specs.declared.target.Target.{Target}
use Rattle.bpf_session.specs.Runs.{FailsBy}
use Rattle.bpf_session.specs.Sessions.{SessionValue}
use Rattle.bpf_session.specs.declared.fault.RunFault.{RunFault}
use Rattle.bpf_session.specs.declared.fault.RunFault.TheVariants.{Read, Write}
use Rattle.bpf_load.specs.declared.program.Loaded.{Loaded}
use Rattle.bpfdb_faults.specs.Streams.{Spared, Stream, stream}
use Rattle.bpfdb_jobs.specs.Connections.{Begins, BreaksConnection, IsTarget, ServesConnection, ends, ring_refusals}
use Rattle.bpfdb_jobs.specs.Endings.{Refused}
use Rattle.bpfdb_jobs.specs.declared.job.Job.{Job}
use Rattle.bpfdb_options.specs.declared.registers.Registers.{Registers}
use Rattle.bpfdb_jobs.proofs.Refusing.{no-places, session-refused}
use Rattle.bpfdb_jobs.proofs.Sessions.{session-ends}
use Rattle.bpfdb_jobs.proofs.gdb.gdb_job.Goals as goal

module _ {R W A : Type 0} (reader : Stream R) (writer : Stream W) (registers : Registers) (job : Job) (loaded : Loaded) (gdb : Target)
    (from to : SessionValue RingKeeper) (target : IsTarget registers job loaded.object gdb) (begins : Begins job loaded.program from) where
  serves : (r : Result A RunFault)
      → OnOk r (remote.Serves RingHolds ring_refusals ring_room reader.bytes writer.bytes (ends gdb from to reader writer))
      → OnOk r (ServesConnection registers job loaded reader writer × Spared reader × Spared writer)
  serves (Ok v) s = (
    record { gdb = gdb; target = target; from = from; to = to; begins = begins; serves = s },
    ⊎_elim (λ left. left.1.same) (λ ended. ended.3.same) s.4,
    s.3.1,
  )
  serves (Err e) s = tt

  breaks : (r : Result A RunFault)
      → IfErr r (λ why. remote.Breaks RingHolds ring_refusals ring_room reader.bytes writer.bytes why (ends gdb from to reader writer))
      → IfErr r (λ why. BreaksConnection registers job loaded reader writer why × FailsBy why reader.old reader.new writer.old writer.new)
  breaks (Ok v) b = tt
  breaks (Err Read) b = (record { gdb = gdb; target = target; from = from; to = to; begins = begins; breaks = b }, (b.7.fault, b.3.1))
  breaks (Err Write) b = (record { gdb = gdb; target = target; from = from; to = to; begins = begins; breaks = b }, (b.4.same, b.9))

pub returns-in-Err-clause-does : goal.returns-in-Err-clause-does
returns-in-Err-clause-does g c = Refused c.in-Err.refusal c.in-Err.ensures.err refl refl (rw (session-refused c.args.job.now c.in-Err.refusal c.in-Err.ensures.err) at c.give_up.ensures.told) c.give_up.ensures.value

pub returns-in-Err-wanted_of-clause-does : goal.returns-in-Err-wanted_of-clause-does
returns-in-Err-wanted_of-clause-does g c =
    let o = c.in-Ok.ensures.ok in
    let refused = no-places c.args.job.now c.in-Err-wanted_of.refusal o.room.short o.room.sized c.in-Err-wanted_of.ensures in
    Refused c.in-Err-wanted_of.refusal refused refl refl
    (rw (session-refused c.args.job.now c.in-Err-wanted_of.refusal refused) at c.give_up-in-Err-wanted_of.ensures.told)
    c.give_up-in-Err-wanted_of.ensures.value

pub returns-clause-does : goal.returns-clause-does
returns-clause-does g c =
    let o = c.in-Ok.ensures.ok in
    let job = c.args.job.now in
    let reader = stream g.R.Read.remaining c.args.reader.now c.serve-served.new.reader in
    let writer = stream g.W.Write.contents c.args.streams.now.output c.serve-served.new.writer in
    let loaded : Loaded = c.args.loaded in
    let gdb : Target = record { layout = c.layout_of.result; names = c.as_ref.result; places = c.args.known.places } in
    let target : IsTarget c.args.registers job loaded.object gdb = record {
      layout = c.layout_of.ensures;
      names = rw (c.as_ref-source.ensures.value, sym c.as_ref.ensures.value) at c.known_names-names.ensures;
      places = c.requires.known.places;
    } in
    session-ends job (ServesConnection c.args.registers job loaded reader writer) (BreaksConnection c.args.registers job loaded reader writer) c.serve-served.result
    c.session_ended.result o.room
    (serves reader writer c.args.registers job loaded gdb c.in-Ok.session c.serve-served.new.session target o.begins c.serve-served.result c.serve-served.ensures.ok)
    (breaks reader writer c.args.registers job loaded gdb c.in-Ok.session c.serve-served.new.session target o.begins c.serve-served.result c.serve-served.ensures.err)
    c.session_ended.ensures.ok c.session_ended.ensures.err
