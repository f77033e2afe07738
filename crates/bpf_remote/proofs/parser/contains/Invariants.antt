use Rattle.std.proofs.Common.{◌≡◌, drop}
use Rattle.bpf_remote.specs.Requests.{contains}
use Rattle.bpf_remote.proofs.parser.contains.Given as goal

abbrev pub invariant-loop-i : goal.invariant-loop-i
invariant-loop-i l = contains l.name l.text ≡ contains l.name (drop l.i l.text)
