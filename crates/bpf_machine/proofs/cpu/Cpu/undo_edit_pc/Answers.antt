use Rattle.std.proofs.Common.{rules}
use Rattle.bpf_machine.specs.Undoing.{undone}
use Rattle.bpf_machine.proofs.cpu.Cpu.undo_edit_pc.Goals as goal

pub returns : goal.returns
unfolding undone
returns c = rw (c.slot_in-self-inside.ensures, c.status_by-self-inside.ensures, c.read_u64-number.ensures, ← c.self.view_is) (search rules)
