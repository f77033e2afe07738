use Rattle.bpf_isa.specs.Scaffolding.Checking.{AreInsns}
use Rattle.bpf_isa.proofs.checker.insns_of.Given as goal

abbrev pub invariant-loop-slot : goal.invariant-loop-slot
invariant-loop-slot l = AreInsns l.draft.bytes.now l.draft.maps.now l.insns.items l.slot
