use Rattle.std.proofs.Common.{◌≡◌, ◌-◌, ◌++◌, ℕ, List, take}
use Rattle.bpf_steps.specs.State.{State}
use Rattle.counted_io.specs.Writing.{WritesAfter}
use Rattle.bpf_diff.specs.Against.{differences, entries_of}
use Rattle.bpf_diff.specs.Noted.{AreNotes}
use Rattle.bpf_diff.proofs.against_ending.put_differences.Given as goal

abbrev pub invariant-loop-entry : goal.invariant-loop-entry
invariant-loop-entry g l =
    (before : List State) → AreNotes before l.notes.notes l.notes.last
    → (text : List ℕ) × (text ++ differences before l.cpu l.entry (take (12 - l.entry) l.words) ≡ differences before l.cpu 0 (entries_of l.line))
    × WritesAfter g.W.Write.contents l.fn.writer l.fn.so_far l.writer l.told text
