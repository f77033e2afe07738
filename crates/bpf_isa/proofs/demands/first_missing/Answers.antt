use Rattle.std.proofs.Common.{◌≡◌, ◌<◌, ◌≤◌, ◌+◌, ◌-◌, ◌/◌, [], length, get_or, refl, sym, subst, arith}
use Rattle.bpf_isa.specs.declared.demands.Lengths.{Lengths}
use Rattle.bpf_isa.specs.Scaffolding.Demands.{Meet}
use Rattle.bpf_isa.proofs.demands.first_missing.Goals as goal

pub loop-from-preserved-then-are_met : goal.loop-from-preserved-then-are_met
loop-from-preserved-then-are_met c =
    let middle = c.loop-from.from + (c.loop-from.to - c.loop-from.from) / 2 in
    let order : middle + 1 ≤ c.loop-from.to = omega arith in
    let below : middle < length c.args.wanted.now = omega (arith, order, c.loop-from.invariant.inside) in
    let met = c.if-are_met.ensures.0 refl in
    record {
      order = order;
      inside = c.loop-from.invariant.inside;
      clear = λ bytes fault is. ((is.each middle _ below).enough c.args.maps.now c.len-few.ensures.fits).0 met;
      missing = c.loop-from.invariant.missing;
    }

pub returns-clause-missing : goal.returns-clause-missing
returns-clause-missing c = λ inside bytes fault is.
    let d : Lengths = record { bytes = [] } in
    let at : c.loop-from.from ≡ c.loop-from.to = omega arith in
    let unmet = subst (λ k. Meet c.args.maps.now (get_or c.args.wanted.now k d).bytes → ⊥) (sym at) (c.loop-from.invariant.missing (omega (arith, at, inside)) d) in
    (is.each c.loop-from.from d inside).missing c.args.maps.now c.len-few.ensures.fits (c.loop-from.invariant.clear bytes fault is) unmet
