use Rattle.counted_io.proofs.Appending.{Writes-none}
use Rattle.bpf_questions.proofs.message.write_message.Goals as goal
use Rattle.bpf_questions.proofs.message.write_message.Goals.{in-Text, in-Json+in-Ok}

pub returns : goal.returns
returns g c = elim c.match-form.branch [
  | in-Text w ↦
      let put = rw (w.as_slice.ensures.value) at (w.put-written.ensures _ _ (Writes-none g.W.Write.contents c.args.writer.now _)) in
      rw w.in-Text.is (c.flush_after.ensures.written c.args.writer.now _ (rw (w.writer-is, w.written-is) put))
  | in-Json+in-Ok w ↦
      let put = rw (w.as_slice-in-Ok.ensures.value, w.in-Ok.ensures, w.as_slice-in-Json.ensures.value) at w.put_json.ensures in
      rw w.in-Json.is (c.flush_after.ensures.written c.args.writer.now _ (rw (w.writer-is, w.written-is) put))
]
