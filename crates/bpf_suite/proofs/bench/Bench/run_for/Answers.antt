use Rattle.std.proofs.Common.{◌≡◌, ◌++◌, ap, subst, ◌∙◌}
use Rattle.std.specs.Prelude.{IfOk}
use Rattle.bpf_suite.specs.Benches.{Shared, outcome_by}
use Rattle.bpf_suite.specs.Images.{IsImage}
use Rattle.bpf_suite.specs.Outcomes.{Comes}
use Rattle.bpf_suite.specs.Tests.{cells, limited, setting}
use Rattle.bpf_suite.proofs.Shares.{bench-after, cells-shared, loads-again, words-again}
use Rattle.bpf_suite.proofs.Stocks.{stands-on}
use Rattle.bpf_suite.proofs.bench.Bench.run_for.Goals as goal

pub bring-requires-clause-ready : goal.bring-requires-clause-ready
bring-requires-clause-ready c =
    let own = c.args.own.now in
    let shared = c.self.inside.shared in
    record {
      reads = words-again own shared _ _ _ _ _ _ c.requires c.self.invariant c.setting_of-setting.ensures;
      stands = stands-on shared _ _ _ _ _ c.self.invariant;
    }

pub bring-requires-clause-stands : goal.bring-requires-clause-stands
bring-requires-clause-stands c =
    let own = c.args.own.now in
    let shared = c.self.inside.shared in
    λ yes. loads-again own shared _ _ _ _ _ _ _ c.requires c.self.invariant (c.are_same-stands.ensures.0 yes)
    c.maps-maps.ensures c.setting_of-setting.ensures

pub run_on-requires : goal.run_on-requires
run_on-requires c =
    let own = c.args.own.now in
    let shared = c.self.inside.shared in
    record {
      loads = c.in_ok-bring.ensures.brings.loads;
      image = λ yes. subst (λ cs. IsImage cs c.self.inside.image)
          (cells-shared own shared _ (c.gets_shared-shares.ensures yes) c.setting_of-setting.ensures) c.self.invariant.image;
    }

pub invariant_of-self-2 : goal.invariant_of-self-2
invariant_of-self-2 c =
    let own = c.args.own.now in
    let shared = c.self.inside.shared in
    let same = c.setting_of-setting.ensures in
    let image = c.run_on.ensures.image (cells shared) (λ yes. cells-shared own shared _ (c.gets_shared-shares.ensures yes) same) c.self.invariant.image in
    bench-after own shared _ _ _ _ _ _ _ _ _ _ c.requires c.self.invariant image c.maps-maps.ensures same
    c.run_on.ensures.loads c.in_ok-bring.ensures.same

pub returns-clause-comes : goal.returns-clause-comes
returns-clause-comes c =
    let own = c.args.own.now in
    let here : c.self.inside.shared ≡ c.args.self.now.sections = ap (λ (b : Shared). b.sections) c.self.view_is in
    let same = c.setting_of-setting.ensures ∙ ap (λ s. limited c.args.limit (setting (own ++ s))) here in
    subst (λ t. IfOk c.run_on.result (λ refusal. Comes t (outcome_by c.run_on.new.machine refusal))) same c.run_on.ensures.comes
