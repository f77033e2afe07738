use Rattle.std.proofs.Common.{refl, subst, sym}
use Rattle.bpfdb_faults.specs.Streams.{stream}
use Rattle.bpfdb_jobs.specs.Done.{DoesPlain}
use Rattle.bpfdb_jobs.specs.Streams.{between}
use Rattle.bpfdb_options.specs.declared.ask.Ask.{Ask}
use Rattle.bpfdb_jobs.proofs.dispatch.program_tool.Goals as goal

pub returns-in-Run-clause-does : goal.returns-in-Run-clause-does
returns-in-Run-clause-does g c =
    subst (λ (s : Ask). DoesPlain s c.args.job.now (stream g.R.Read.remaining c.args.reader.now c.args.reader.now)
    (between g.W.Write.contents g.E.Write.contents c.args.streams.now c.run_job.new.streams) c.run_job.result) (sym c.in-Run.is) (refl, c.run_job.ensures.does)

pub returns-in-Trace-clause-does : goal.returns-in-Trace-clause-does
returns-in-Trace-clause-does g c =
    subst (λ (s : Ask). DoesPlain s c.args.job.now (stream g.R.Read.remaining c.args.reader.now c.args.reader.now)
    (between g.W.Write.contents g.E.Write.contents c.args.streams.now c.trace_job.new.streams) c.trace_job.result) (sym c.in-Trace.is) (refl, c.trace_job.ensures.does)

pub returns-in-Debug-clause-does : goal.returns-in-Debug-clause-does
returns-in-Debug-clause-does g c =
    subst (λ (s : Ask). DoesPlain s c.args.job.now (stream g.R.Read.remaining c.args.reader.now c.debug_job.new.reader)
    (between g.W.Write.contents g.E.Write.contents c.args.streams.now (record { output = c.debug_job.new.writer; errors = c.debug_job.new.errors })) c.debug_job.result) (sym c.in-Debug.is) (c.args.loaded, c.requires.loaded, c.debug_job.ensures.does)

pub returns-in-Conversation-clause-does : goal.returns-in-Conversation-clause-does
returns-in-Conversation-clause-does g c =
    subst (λ (s : Ask). DoesPlain s c.args.job.now (stream g.R.Read.remaining c.args.reader.now c.conversation_job.new.reader)
    (between g.W.Write.contents g.E.Write.contents c.args.streams.now c.conversation_job.new.streams) c.conversation_job.result) (sym c.in-Conversation.is) (c.args.loaded, c.requires.loaded, c.conversation_job.ensures.does)

pub returns-in-Origin-clause-does : goal.returns-in-Origin-clause-does
returns-in-Origin-clause-does g c =
    subst (λ (s : Ask). DoesPlain s c.args.job.now (stream g.R.Read.remaining c.args.reader.now c.args.reader.now)
    (between g.W.Write.contents g.E.Write.contents c.args.streams.now c.origin_job.new.streams) c.origin_job.result) (sym c.in-Origin.is) (refl, c.origin_job.ensures.does)

pub returns-in-Whynot-clause-does : goal.returns-in-Whynot-clause-does
returns-in-Whynot-clause-does g c =
    subst (λ (s : Ask). DoesPlain s c.args.job.now (stream g.R.Read.remaining c.args.reader.now c.args.reader.now)
    (between g.W.Write.contents g.E.Write.contents c.args.streams.now c.whynot_job.new.streams) c.whynot_job.result) (sym c.in-Whynot.is) (refl, c.whynot_job.ensures.does)

pub returns-in-Diff-clause-does : goal.returns-in-Diff-clause-does
returns-in-Diff-clause-does g c =
    subst (λ (s : Ask). DoesPlain s c.args.job.now (stream g.R.Read.remaining c.args.reader.now c.args.reader.now)
    (between g.W.Write.contents g.E.Write.contents c.args.streams.now c.diff_job.new.streams) c.diff_job.result) (sym c.in-Diff.is) (refl, c.diff_job.ensures.does)

pub returns-in-Gdb-clause-does : goal.returns-in-Gdb-clause-does
returns-in-Gdb-clause-does g c =
    subst (λ (s : Ask). DoesPlain s c.args.job.now (stream g.R.Read.remaining c.args.reader.now c.gdb_job.new.reader)
    (between g.W.Write.contents g.E.Write.contents c.args.streams.now c.gdb_job.new.streams) c.gdb_job.result) (sym c.in-Gdb.is) (c.args.loaded, c.requires.loaded, c.gdb_job.ensures.does)

pub returns-in-Disasm-clause-does : goal.returns-in-Disasm-clause-does
returns-in-Disasm-clause-does g c =
    subst (λ (s : Ask). DoesPlain s c.args.job.now (stream g.R.Read.remaining c.args.reader.now c.args.reader.now)
    (between g.W.Write.contents g.E.Write.contents c.args.streams.now c.disasm_job.new.streams) c.disasm_job.result) (sym c.in-Disasm.is) (refl, c.disasm_job.ensures.does)

pub returns-in-Check-clause-does : goal.returns-in-Check-clause-does
returns-in-Check-clause-does g c =
    subst (λ (s : Ask). DoesPlain s c.args.job.now (stream g.R.Read.remaining c.args.reader.now c.args.reader.now)
    (between g.W.Write.contents g.E.Write.contents c.args.streams.now c.check_job.new.streams) c.check_job.result) (sym c.in-Check.is) (refl, c.check_job.ensures.does)

pub returns-in-Load-clause-does : goal.returns-in-Load-clause-does
returns-in-Load-clause-does g c =
    subst (λ (s : Ask). DoesPlain s c.args.job.now (stream g.R.Read.remaining c.args.reader.now c.args.reader.now)
    (between g.W.Write.contents g.E.Write.contents c.args.streams.now c.load_job.new.streams) c.load_job.result) (sym c.in-Load.is) (refl, c.load_job.ensures.does)
