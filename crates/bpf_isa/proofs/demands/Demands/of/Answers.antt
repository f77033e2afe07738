use Rattle.std.proofs.Common.{ap, sym, subst, ◌∙◌}
use Rattle.bpf_isa.specs.Scaffolding.Demands.{AreDemands}
use Rattle.bpf_isa.proofs.MapDemands.{moved, of_length}
use Rattle.bpf_isa.proofs.demands.Demands.of.Goals as goal
use Rattle.bpf_isa.proofs.demands.Demands.of.Goals.{in-Some, in-None+in_ok-fault-in-None}

pub invariant_of-result : goal.invariant_of-result
invariant_of-result c =
    let found = c.match-length_fault in
    subst (λ bytes. AreDemands bytes found.wanted.items found.fault) (sym c.in-Ok.ensures.items)
    (elim found.branch [
      | in-Some w ↦ of_length c.args.bytes.now found.wanted.items found.fault w.in-Some.fault (ap (λ v. v.items) w.wanted-is ∙ c.new-wanted.ensures.items) w.fault-is w.in-Some.ensures.found w.in-Some.ensures.known
      | in-None+in_ok-fault-in-None w ↦ moved c.args.bytes.now found.wanted.items _ found.fault _ (ap (λ v. v.items) w.wanted-is) w.fault-is w.in_ok-fault-in-None.ensures
    ])
