use Rattle.std.proofs.Common.{◌≡◌, ◌+◌, ◌*◌, drop, length}
use Rattle.bpf_suite.specs.Contexts.{fitting}
use Rattle.bpf_suite.proofs.contexts.fitting.Given as goal

abbrev pub invariant-loop-byte : goal.invariant-loop-byte
invariant-loop-byte l =
    (fitting l.digits l.bytes ≡ l.count + fitting l.rest (drop l.byte-index l.bytes)) × (l.count ≡ l.byte-index)
    × (length l.digits ≡ 2 * l.count + length l.rest)
