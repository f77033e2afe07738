use Rattle.std.proofs.Common.{◌+◌, append_assoc, codes, refl}
use Rattle.counted_io.proofs.Appending.{WritesAfter-WritesAfter}
use Rattle.bpf_trace.specs.Runs.{steps_of}
use Rattle.bpf_diff.specs.Differences.{parting_heading, side}
use Rattle.bpf_diff.proofs.parting.put_parting.Goals as goal

pub returns-then-not-one-clause-text : goal.returns-then-not-one-clause-text
returns-then-not-one-clause-text g c =
    let xs = steps_of c.args.left c.args.first.now in
    let ys = steps_of c.args.left c.args.second.now in
    let k = c.args.steps + 1 in
    let headed = c.put_parting_heading-headed.ensures xs ys c.goes_on-one.ensures c.goes_on-other.ensures in
    let half = WritesAfter-WritesAfter g.W.Write.contents _ _ _ _ _ _ _ _ _ headed c.put_rest-half.ensures.text refl in
    WritesAfter-WritesAfter g.W.Write.contents _ _ _ _ _ _ _ _ _ half c.put_rest.ensures.text
    (append_assoc (parting_heading k xs ys) (side (codes "< ") c.args.texts.first k xs) (side (codes "> ") c.args.texts.second k ys))

pub returns-else-not-one-clause-text : goal.returns-else-not-one-clause-text
returns-else-not-one-clause-text g c =
    let xs = steps_of c.args.left c.args.first.now in
    let ys = steps_of c.args.left c.args.second.now in
    let k = c.args.steps + 1 in
    let headed = c.put_parting_heading-headed.ensures xs ys c.goes_on-one.ensures c.goes_on-other.ensures in
    let half = WritesAfter-WritesAfter g.W.Write.contents _ _ _ _ _ _ _ _ _ headed c.put_rest-half.ensures.text refl in
    WritesAfter-WritesAfter g.W.Write.contents _ _ _ _ _ _ _ _ _ half c.put_rest.ensures.text
    (append_assoc (parting_heading k xs ys) (side (codes "< ") c.args.texts.first k xs) (side (codes "> ") c.args.texts.second k ys))
