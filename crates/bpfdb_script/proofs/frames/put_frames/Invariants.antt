use Rattle.std.proofs.Common.{codes, ◌++◌, decimal, drop, flat_map, reverse}
use Rattle.bpf_steps.specs.State.{depth}
use Rattle.bpfdb_script.proofs.Telling.{Telling}
use Rattle.bpfdb_script.specs.Texts.{text_of_frame}
use Rattle.bpfdb_script.proofs.frames.put_frames.Given as goal

abbrev pub invariant-loop-i : goal.invariant-loop-i
invariant-loop-i g l =
    Telling g.W.Write.contents l.fn.writer l.fn.so_far l.writer l.told (flat_map text_of_frame (drop l.i (reverse l.cpu.frames)))
    (codes "depth " ++ decimal (depth l.cpu) ++ codes "\n" ++ flat_map text_of_frame (reverse l.cpu.frames))
