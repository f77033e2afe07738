use Rattle.std.proofs.Common.{◌≡◌, ◌<◌}
use Rattle.std.specs.Prelude.{IfSome}
use Rattle.bpf_btf.specs.Contexts.{is_function_at}
use Rattle.bpf_btf.specs.Maps.{last_below}
use Rattle.bpf_btf.proofs.contexts.function_of.Given as goal

abbrev pub invariant-loop-i : goal.invariant-loop-i
invariant-loop-i l = record {
  found : l.found ≡ last_below (is_function_at l.btf l.name) l.i;
  below : IfSome l.found (λ i. i < 18446744073709551615);
}
