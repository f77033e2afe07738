use Rattle.std.proofs.Common.{take, Some}
use Rattle.bpf_text.specs.Canonical.{is_target, lines_from}
use Rattle.counted_io.specs.Writing.{Writes}
use Rattle.bpf_text.proofs.write.disassembler.disassemble.Given as goal

abbrev pub invariant-loop-slot : goal.invariant-loop-slot
invariant-loop-slot l =
    Writes (λ v. Some v.items) l.initial.writer l.writer l.so_far
    (lines_from (is_target 0 l.program.insns) 0 (take l.slot l.program.insns))
