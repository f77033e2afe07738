use Rattle.std.proofs.Common.{[], ◌++◌, ◌∙◌, append_assoc, codes}
use Rattle.std.proofs.lemmas.List.{append-nil}
use Rattle.bpf_origin.specs.Asked as spec
use Rattle.bpf_trace.specs.Traces.{standing}
use Rattle.counted_io.proofs.Appending.{Writes-none, Writes-text}
use Rattle.bpfdb_jobs.proofs.origin.put_found.Goals as goal

pub returns-clause-text : goal.returns-clause-text
returns-clause-text g c = λ h stands.
    let x = c.args.timeline.now.state in
    let stop = c.args.around.stop.now in
    let tail = c.args.around.tail.now in
    let text = (spec.answer_about c.args.question c.args.parts.now h x).text in
    let stopped = c.put-stopped.ensures _ _ (Writes-none g.W.Write.contents c.args.writer.now _) in
    let placed = rw c.cpu.ensures at (c.put_standing-placed.ensures _ _ stopped) in
    let ended = c.put-ended.ensures _ _ placed in
    let told = c.put_answer-told.ensures.text (record { history = h; ahead = [] }) stands _ _ ended in
    let all = c.put-all.ensures _ _ told in
    let last = c.flush_after.ensures _ _ all in
    Writes-text g.W.Write.contents _ _ _ _ _ last
    (append-nil (stop ++ standing c.args.question.places x ++ codes "\n" ++ text ++ tail) ∙ append_assoc (stop ++ standing c.args.question.places x ++ codes "\n") text tail)

pub returns-clause-extent : goal.returns-clause-extent
returns-clause-extent g c = λ h stands. c.put_answer-told.ensures.extent (record { history = h; ahead = [] }) stands
