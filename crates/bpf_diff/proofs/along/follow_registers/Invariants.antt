use Rattle.std.proofs.Common.{reverse, take}
use Rattle.bpf_trace.specs.Runs.{steps_of}
use Rattle.input_texts.specs.declared.trace_form.Form.TheVariants.{Registers}
use Rattle.bpf_diff.specs.Noted.{Along, AreNotes}
use Rattle.bpf_diff.proofs.along.follow_registers.Given as goal

abbrev pub invariant-loop-k : goal.invariant-loop-k
invariant-loop-k l = record {
  along : Along Registers l.limit l.fn.cpu l.fn.told l.cpu l.told l.k;
  notes : AreNotes (reverse (take l.k (steps_of l.limit l.fn.cpu))) l.notes.notes l.notes.last;
}
