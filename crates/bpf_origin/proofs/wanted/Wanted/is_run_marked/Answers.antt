use Rattle.std.proofs.Common.{arith}
use Rattle.bpf_origin.proofs.Marking.{run_unmarked}
use Rattle.bpf_origin.proofs.wanted.Wanted.is_run_marked.Goals as goal

pub returns : goal.returns
returns c = λ e.
    let fin = c.loop-k-test.false in
    run_unmarked c.self.inside.marks c.args.self.now c.args.address c.args.len (rw c.self.view_is at c.self.invariant.marked) (λ k low. c.loop-k.invariant k (omega (arith, fin, low)))
