use Rattle.bpf_isa.proofs.Readings.{laid_reads, laid_clean, laid_in_range}
use Rattle.bpf_isa.proofs.encoder.fields_with.Goals as goal

pub returns-clause-reads : goal.returns-clause-reads
returns-clause-reads c =
    laid_reads c.args.insn _ _ _ c.of.ensures c.kind_in.ensures c.of-2.ensures _ _ c.laid.ensures.codes c.laid.ensures.parts c.parts_of.ensures.parts

pub returns-clause-clean : goal.returns-clause-clean
returns-clause-clean c =
    laid_clean c.args.insn _ _ _ c.of.ensures c.kind_in.ensures c.of-2.ensures _ _ c.laid.ensures.codes c.laid.ensures.parts c.laid.ensures.clean

pub returns-clause-registers : goal.returns-clause-registers
returns-clause-registers c =
    laid_in_range c.args.insn _ _ _ c.of.ensures c.kind_in.ensures c.of-2.ensures _ _ c.laid.ensures.codes c.laid.ensures.parts c.laid.ensures.clean c.parts_of.ensures.registers
