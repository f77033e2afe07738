use Rattle.std.proofs.Common.{◌==◌, ℕ, ap}
use Rattle.bpf_origin.specs.declared.question.Question.{Question}
use Rattle.bpfdb_jobs.proofs.origin.question_of.Goals as goal

pub returns : goal.returns
returns c = λ h stands.
    let q : Question = record { addresses = c.args.scope.now.addresses; lines = c.args.scope.now.lines; opening = c.len.result == c.args.arrived.now.moves; places = c.args.places } in
    ap (λ (m : ℕ). record q { opening = m == c.args.arrived.now.moves }) (c.len.ensures h stands)
