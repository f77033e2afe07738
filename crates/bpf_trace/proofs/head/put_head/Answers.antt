use Rattle.std.proofs.Common.{◌++◌, ◌∙◌, List, ℕ, ap}
use Rattle.bpf_trace.proofs.head.put_head.Goals as goal

pub returns-clause-text : goal.returns-clause-text
returns-clause-text g c =
    let held = c.put_long.ensures.text in
    let head = rw (c.add_decimal.ensures.text, c.clear.ensures) at c.add.ensures in record {
      told = held.told;
      written = held.written;
      parts = held.parts ∙ ap (λ (h : List ℕ). h ++ c.args.text.now) head;
    }
