use Rattle.bpf_steps.proofs.ByAddress.{law_apart, law_runs, law_numbers, law_stores, law_accessible, law_opened, law_restarted, law_unchanged}
use Rattle.bpf_machine.proofs.Cells.{law_cells}
use Rattle.bpf_machine.proofs.laws.memory_by_address.Goals as goal

pub returns : goal.returns
returns c = record {
  apart = law_apart;
  runs = law_runs;
  numbers = law_numbers;
  stores = law_stores;
  accessible = law_accessible;
  cells = law_cells;
  opened = law_opened;
  restarted = law_restarted;
  unchanged = law_unchanged;
}
