use Rattle.std.proofs.Common.{ap, ◌∙◌, ◌++◌}
use Rattle.std.proofs.lemmas.Result.{IfOk-weaker}
use Rattle.bpf_join.specs.Tables.{header_bytes}
use Rattle.bpf_turns.proofs.Pieces.{two_pieces}
use Rattle.bpf_turns.proofs.headers.with_headers.Goals as goal

pub returns-in-Ok-clause-ok : goal.returns-in-Ok-clause-ok
returns-in-Ok-clause-ok c =
    IfOk-weaker c.with_header.result _ _
    (λ all told. two_pieces c.args.bytes.items _ _ c.in-Ok.own.items all.items c.in-Ok.ensures.ok (told ∙ ap (λ it. c.in-Ok.own.items ++ header_bytes it) c.last_header.ensures))
    c.with_header.ensures.ok
