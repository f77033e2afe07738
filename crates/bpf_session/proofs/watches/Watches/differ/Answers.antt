use Rattle.std.proofs.Common.{List, ℕ, not, ap, ◌∙◌}
use Rattle.std.specs.Str.{bytes_eq}
use Rattle.bpf_session.proofs.Watching.{compares, compares_none}
use Rattle.bpf_session.proofs.watches.Watches.differ.Goals as goal

pub returns-then-not-replaced : goal.returns-then-not-replaced
returns-then-not-replaced c = λ x was same. compares_none _ _ x c.args.cpu.now was (same c.if-not-replaced.true)

pub returns : goal.returns
returns c = λ x was same.
    compares _ _ x c.args.cpu.now _ was
    (ap not c.is_same.ensures ∙ ap (λ (bs : List ℕ). not (bytes_eq bs c.args.seen.now)) c.bytes-bytes.ensures)
