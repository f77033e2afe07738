use Rattle.std.proofs.Common.{◌≡◌, ◌≤◌, ◌*◌, length}
use Rattle.bpf_link.specs.Names.{built, with_name}
use Rattle.bpf_link.proofs.names.names_at.Given as goal

abbrev pub invariant-loop-k : goal.invariant-loop-k
invariant-loop-k l = record { made : l.text.items ≡ built (with_name l.object l.places) l.k; size : length l.text.items ≤ 257 * l.k }
