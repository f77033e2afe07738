use Rattle.std.proofs.Common.{◌≡◌, length, sym, subst, arith}
use Rattle.std.specs.Prelude.{IfNone, IfSome}
use Rattle.bpf_isa.specs.Checker.{IsAccepted, IsRefused}
use Rattle.bpf_isa.specs.Scaffolding.Demands.{AreClear, AreDemands, Says}
use Rattle.bpf_isa.proofs.MapDemands.{said_fault, said_known, said_none}
use Rattle.bpf_isa.proofs.demands.Demands.fault.Goals as goal

pub returns-clause-none : goal.returns-clause-none
returns-clause-none c =
    let bytes = c.self.inside.bytes.items in
    let maps = c.args.maps.now in
    let is = subst (λ xs. AreDemands bytes xs c.self.inside.fault) (sym c.as_slice.ensures.value) c.self.invariant in
    let all : c.first_missing-slot.result ≡ length c.self.inside.wanted.items = omega (arith, c.first_missing-slot.ensures.within) in
    let clear = subst (λ n. AreClear bytes maps n) all (c.first_missing-slot.ensures.clear bytes c.self.inside.fault is) in
    let says : Says bytes maps c.self.inside.fault = c.self.invariant.rest maps c.first_missing-slot.ensures.tables clear in
    subst (λ bs. IfNone c.self.inside.fault (IsAccepted bs maps)) c.self.view_is (said_none bytes maps c.self.inside.fault says)

pub returns-clause-fault : goal.returns-clause-fault
returns-clause-fault c =
    let bytes = c.self.inside.bytes.items in
    let maps = c.args.maps.now in
    let is = subst (λ xs. AreDemands bytes xs c.self.inside.fault) (sym c.as_slice.ensures.value) c.self.invariant in
    let all : c.first_missing-slot.result ≡ length c.self.inside.wanted.items = omega (arith, c.first_missing-slot.ensures.within) in
    let clear = subst (λ n. AreClear bytes maps n) all (c.first_missing-slot.ensures.clear bytes c.self.inside.fault is) in
    let says : Says bytes maps c.self.inside.fault = c.self.invariant.rest maps c.first_missing-slot.ensures.tables clear in
    subst (λ bs. IfSome c.self.inside.fault (IsRefused bs maps)) c.self.view_is (said_fault bytes maps c.self.inside.fault says)

pub returns-clause-known : goal.returns-clause-known
returns-clause-known c =
    let bytes = c.self.inside.bytes.items in
    let maps = c.args.maps.now in
    let is = subst (λ xs. AreDemands bytes xs c.self.inside.fault) (sym c.as_slice.ensures.value) c.self.invariant in
    let all : c.first_missing-slot.result ≡ length c.self.inside.wanted.items = omega (arith, c.first_missing-slot.ensures.within) in
    let clear = subst (λ n. AreClear bytes maps n) all (c.first_missing-slot.ensures.clear bytes c.self.inside.fault is) in
    let says : Says bytes maps c.self.inside.fault = c.self.invariant.rest maps c.first_missing-slot.ensures.tables clear in
    said_known bytes maps c.self.inside.fault says
