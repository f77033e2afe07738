use Rattle.std.proofs.Common.{◌≡◌, length}
use Rattle.bpf_join.specs.Codes.{called_below}
use Rattle.bpf_join.specs.Functions.{callees}
use Rattle.bpf_join.specs.Known.{AreKnown}
use Rattle.bpf_join.proofs.codes.called.Given as goal

abbrev pub invariant-loop-p : goal.invariant-loop-p
invariant-loop-p l = record {
  known : AreKnown l.functions l.known.items;
  made : l.all.items ≡ called_below (callees l.functions) l.own l.fn.slots.items l.p;
  size : length l.all.items ≡ length l.fn.slots.items;
}
