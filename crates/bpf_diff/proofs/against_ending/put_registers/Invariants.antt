use Rattle.std.proofs.Common.{◌≡◌, ◌-◌, ◌++◌, ℕ, List}
use Rattle.counted_io.specs.Writing.{WritesAfter}
use Rattle.bpf_diff.specs.Against.{registers_from}
use Rattle.bpf_diff.proofs.against_ending.put_registers.Given as goal

abbrev pub invariant-loop-number : goal.invariant-loop-number
invariant-loop-number g l =
    (text : List ℕ) × (text ++ registers_from l.cpu l.number (11 - l.number) ≡ registers_from l.cpu 0 11)
    × WritesAfter g.W.Write.contents l.fn.writer l.fn.so_far l.writer l.told text
