use Rattle.std.proofs.Common.{◌≡◌, ◌<◌}
use Rattle.std.specs.Prelude.{IfSome}
use Rattle.bpf_btf.specs.Layout.{is_called}
use Rattle.bpf_btf.specs.Maps.{last_below, member_at}
use Rattle.bpf_btf.proofs.members.member_of.Given as goal

abbrev pub invariant-loop-i : goal.invariant-loop-i
invariant-loop-i l = record {
  found : l.found ≡ last_below (λ i. is_called l.btf.strings (member_at l.btf l.definition i).name l.name) l.i;
  below : IfSome l.found (λ i. i < 65536);
}
