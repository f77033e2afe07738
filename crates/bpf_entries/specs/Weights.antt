-- What an entry weighs in a journal, in bytes: bpfdb's own choice.
use Rattle.std.specs.Prelude.{ℕ, ◌+◌, ◌*◌, length}
use Rattle.bpf_entries.specs.declared.entry.Entry.{Entry}
use Rattle.bpf_entries.specs.declared.entry.Entry.TheVariants as entry
use Rattle.bpf_entries.specs.Frames.{frame_len}

-- Its length before and after it and its tag: 5 bytes. A slot has 2, a number or an address 8, a register, a status and a count of
-- bytes 1.
abbrev pub weight : Entry → ℕ
weight (entry.Register pc r value) = 5 + 2 + 1 + 8
weight (entry.Jump pc) = 5 + 2
weight (entry.Call pc old) = 5 + 2 + length old
weight (entry.Return pc saved) = 5 + 2 + 4 * 8
weight (entry.Store pc a old) = 5 + 2 + 8 + 1 + length old
weight (entry.Fetch pc r value a old) = 5 + 2 + 1 + 8 + 8 + 1 + length old
weight (entry.Cell pc r0 a old) = 5 + 2 + 8 + 8 + length old
weight (entry.Trace pc r0) = 5 + 2 + 8
weight entry.End = 5
weight (entry.EditRegister r value) = 5 + 1 + 8
weight (entry.EditBytes a old) = 5 + 8 + length old
weight (entry.EditPc pc status) = 5 + 2 + 1 + 8

-- The greatest weight of an entry that fits its fields: that of a local call.
abbrev pub greatest_weight : ℕ
greatest_weight = 5 + 2 + frame_len
