use Rattle.std.proofs.Common.{◌++◌, List, append_assoc, ap, codes, refl, ℕ}
use Rattle.counted_io.proofs.Appending.{WritesAfter-WritesAfter}
use Rattle.bpf_trace.specs.Runs.{steps_of}
use Rattle.bpf_trace.proofs.Stepping.{Steps-program}
use Rattle.bpf_diff.specs.Outputs.{place_line, writer_line}
use Rattle.bpf_diff.proofs.Outcomes.{ends-there}
use Rattle.bpf_diff.proofs.outputs.put_difference.Goals as goal

pub returns-clause-text : goal.returns-clause-text
returns-clause-text g c =
    let limit = c.args.limit in
    let told = c.args.difference.now in
    let place = place_line told.place told.values.0 told.values.1 in
    let first = writer_line (codes "< ") c.args.texts.first told.writers.0 (steps_of limit c.args.first.now) in
    let second = writer_line (codes "> ") c.args.texts.second told.writers.1 (steps_of limit c.args.second.now) in
    let one = c.put_writer-one.ensures in
    let two = c.put_writer-both.ensures in
    let begun = WritesAfter-WritesAfter g.W.Write.contents _ _ _ _ _ _ _ _ _ c.put_place-headed.ensures one.text refl in
    let both = WritesAfter-WritesAfter g.W.Write.contents _ _ _ _ _ _ _ _ _ begun two.text (append_assoc place first second) in
    WritesAfter-WritesAfter g.W.Write.contents _ _ _ _ _ _ _ _ _ both c.put_ends.ensures
    (ap (λ (t : List ℕ). (place ++ (first ++ second)) ++ t) (ends-there limit one.end.0 two.end.0 c.args.first.now c.args.second.now _ _ one.end.1 two.end.1))

pub returns-clause-programs : goal.returns-clause-programs
returns-clause-programs g c =
    (Steps-program _ _ _ c.put_writer-one.ensures.end.1.steps, Steps-program _ _ _ c.put_writer-both.ensures.end.1.steps)
