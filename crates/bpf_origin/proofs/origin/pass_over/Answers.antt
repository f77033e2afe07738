use Rattle.std.proofs.Common.{◌∷◌, ◌∙◌, sym}
use Rattle.bpf_steps.specs.State.{depth}
use Rattle.bpf_origin.proofs.Passing.{passes, touched_is}
use Rattle.bpf_origin.proofs.origin.pass_over.Goals as goal

pub returns-clause-passed : goal.returns-clause-passed
returns-clause-passed g c = λ holds r h f stands.
    let y = g.P.Past.state c.args.history.now in
    let is = touched_is (depth y) _ c.in-Some.touched r h c.in-Some.is (c.touched.ensures (record { history = r ∷ h; ahead = f }) stands) in
    let back = c.take_back-taken.ensures.back (record { history = r ∷ h; ahead = f }) stands in
    passes g.P.Past.state g.P.Past.follows c.args.wanted.now _ r h f y c.take_back-taken.new.self c.in-Some.touched is
    (rw c.machine-2.ensures at (sym c.is_hit.ensures ∙ c.if-is_hit.false)) (rw (c.depth-deep.ensures, c.machine.ensures) at c.carry_over.ensures) back.1
