use Rattle.std.proofs.Common.{◌≡◌, ◌+◌, ◌≤◌, length}
use Rattle.input_texts.specs.TraceForms.{told_of}
use Rattle.input_texts.proofs.told.Told.next_told.Given as goal

abbrev pub invariant-loop-k : goal.invariant-loop-k
invariant-loop-k l = (told_of l.self-inside.lines ≡ told_of l.initial.self-inside.lines) × (l._k + length l.self-inside.lines ≤ l._k-end)
