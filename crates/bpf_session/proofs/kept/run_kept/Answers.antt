use Rattle.std.proofs.Common.{◌∙◌, [], ap, sym}
use Rattle.bpf_ring.specs.Runs.{RunsTo, state_after}
use Rattle.bpf_session.specs.Halting.{halts}
use Rattle.bpf_session.proofs.Keeping.{ran-freely, runs-plain}
use Rattle.bpf_session.proofs.kept.run_kept.Goals as goal

pub returns : goal.returns
returns c =
    let x = c.args.timeline.now.state in
    let y = c.run-run.new.self.state in
    let n = c.run-run.result.steps in
    let run : RunsTo (halts [] [] [] 0) c.args.limit x y n =
    ran-freely c.new-breaks.result c.new-watches.result c.bytes-seen.result x y c.cpu.result.now c.args.limit n c.run-run.result.is_cut
    c.new-breaks.ensures c.new-watches.ensures c.bytes-seen.ensures c.run-run.ensures.ends c.run-run.ensures.refused in
    record {
      steps = sym (runs-plain c.args.limit n x y c.requires.runs run);
      state = run.state ∙ ap (λ m. state_after m x) (sym (runs-plain c.args.limit n x y c.requires.runs run));
      kept = c.run-run.ensures.kept;
      room = c.run-run.ensures.room;
    }
