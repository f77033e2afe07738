use Rattle.std.proofs.Common.{sym, arith, ◌-◌, ◌/◌, ◌%◌, Some, None}
use Rattle.bpf_steps.specs.Platform.{frame_count}
use Rattle.bpf_steps.proofs.Indices.{frames_in, frames_out, index_below_frame, index_from_frame}
use Rattle.bpf_steps.proofs.memory.frame_index.Goals as goal

pub returns-then-frame-frames-clause-value : goal.returns-then-frame-frames-clause-value
returns-then-frame-frames-clause-value c = index_from_frame c.args.frames c.args.address c.args.n c.requires.only (omega arith)

pub returns-in-Some-clause-value : goal.returns-in-Some-clause-value
returns-in-Some-clause-value c =
    index_below_frame c.args.frames c.args.address c.args.n (Some _) (omega arith)
    (sym (frames_in 0 frame_count ((c.args.address - 8589934592) / 1024) c.in-Some.at _ _ (omega (arith, c.in-Some.ensures.found)) (omega (arith, c.in-Some.ensures.found)) (omega arith)))

pub returns-in-None-clause-value : goal.returns-in-None-clause-value
returns-in-None-clause-value c =
    index_below_frame c.args.frames c.args.address c.args.n None (omega arith)
    (sym (frames_out 0 frame_count ((c.args.address - 8589934592) / 1024) ((c.args.address - 8589934592) % 1024) _ _ (omega arith) (omega arith) (omega (arith, c.in-None.ensures.none))))
