use Rattle.std.proofs.Common.{◌∙◌, sym}
use Rattle.bpf_trace.proofs.Reading.{read-here, read-stopped}
use Rattle.bpf_trace.proofs.reads.first_read.Goals as goal

pub returns-then-is_stop : goal.returns-then-is_stop
returns-then-is_stop c = λ before m. read-stopped before c.args.cpu.now c.args.change.now c.requires (sym c.if-is_stop.true ∙ c.is_stop.ensures)

pub returns-else-is_stop : goal.returns-else-is_stop
returns-else-is_stop c = λ before m.
    read-here before c.args.cpu.now c.args.change.now c.first_here.result c.requires (sym c.if-is_stop.false ∙ c.is_stop.ensures) (c.first_here.ensures before m)
