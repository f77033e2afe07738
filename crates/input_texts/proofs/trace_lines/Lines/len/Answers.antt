use Rattle.std.proofs.Common.{ℕ, List, ◌≤◌, length, subst}
use Rattle.input_texts.proofs.TraceReading.{lines-short}
use Rattle.input_texts.proofs.trace_lines.Lines.len.Goals as goal

pub returns : goal.returns
returns c = subst (λ (l : List (List ℕ)). length l ≤ length c.self.inside.rest.now) c.self.view_is (lines-short c.self.inside.rest.now)
