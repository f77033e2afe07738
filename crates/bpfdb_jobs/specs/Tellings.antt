-- Scaffolding: no public contract cites this. What is told of a run that was not told to its end.
use Rattle.bpf_trace.specs.declared.trace.TraceFault.{TraceFault}
use Rattle.bpf_trace.specs.declared.trace.TraceFault.TheVariants.{Memory, Write}
use Rattle.bpfdb_faults.specs.declared.fault.JobFault.{JobFault}
use Rattle.bpfdb_faults.specs.declared.fault.JobFault.TheVariants as fault

abbrev pub fault_of_told : TraceFault → JobFault
fault_of_told Memory = fault.Memory
fault_of_told Write = fault.Output
