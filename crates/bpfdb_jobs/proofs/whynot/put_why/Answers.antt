use Rattle.std.proofs.Common.{[], ◌++◌, codes}
use Rattle.std.proofs.lemmas.List.{append-nil}
use Rattle.bpf_whynot.specs.Answers.{why_not}
use Rattle.bpf_whynot.specs.Asking.{query}
use Rattle.bpf_whynot.specs.Tables.{told_by}
use Rattle.bpf_trace.specs.Traces.{standing}
use Rattle.counted_io.proofs.Appending.{Writes-none, Writes-text}
use Rattle.bpfdb_jobs.proofs.whynot.put_why.Goals as goal

pub returns-clause-text : goal.returns-clause-text
returns-clause-text g c = λ program goals h are stands.
    let x = c.args.timeline.now.state in
    let text = (why_not (told_by c.args.search.now.reach.now) (query c.args.search.now goals) h x).text in
    let stopped = c.put-stopped.ensures _ _ (Writes-none g.W.Write.contents c.args.writer.now _) in
    let placed = rw c.cpu.ensures at (c.put_standing-placed.ensures _ _ stopped) in
    let ended = c.put-ended.ensures _ _ placed in
    let told = (c.put_whynot-told.ensures program goals are).text (record { history = h; ahead = [] }) stands _ _ ended in
    let last = c.flush_after.ensures _ _ told in
    Writes-text g.W.Write.contents _ _ _ _ _ last (append-nil (c.args.stop.now ++ standing c.args.search.now.question.places x ++ codes "\n" ++ text))

pub returns-clause-extent : goal.returns-clause-extent
returns-clause-extent g c = λ program goals h are stands. (c.put_whynot-told.ensures program goals are).extent (record { history = h; ahead = [] }) stands
