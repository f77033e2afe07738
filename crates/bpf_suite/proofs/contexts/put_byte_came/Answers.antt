use Rattle.std.proofs.Common.{arith}
use Rattle.bpf_suite.proofs.Patterns.{byte_came-some}
use Rattle.bpf_suite.proofs.contexts.put_byte_came.Goals as goal

pub returns-in-len1-up : goal.returns-in-len1-up
returns-in-len1-up g c = λ first front known.
    rw (byte_came-some c.args.place c.args.bytes.now (omega (arith, c.in-len1-up.len_at_least))) (c.put_byte_line.ensures first front known)
