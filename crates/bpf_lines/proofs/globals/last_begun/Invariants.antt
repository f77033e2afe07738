use Rattle.std.proofs.Common.{◌≡◌, ◌<◌, length}
use Rattle.std.specs.Prelude.{IfSome}
use Rattle.bpf_lines.specs.Globals.{last_of}
use Rattle.bpf_lines.proofs.globals.last_begun.Given as goal

abbrev pub invariant-loop-i : goal.invariant-loop-i
invariant-loop-i l = record {
  found : l.found ≡ last_of l.plan l.section l.offset l.i;
  below : IfSome l.found (λ k. k < length l.plan.symbols);
}
