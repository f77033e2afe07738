use Rattle.std.proofs.Common.{◌≡◌, ◌++◌, ap, subst, ◌∙◌}
use Rattle.std.specs.Prelude.{IfOk}
use Rattle.bpf_suite.specs.Benches.{Shared}
use Rattle.bpf_suite.specs.Images.{IsImage}
use Rattle.bpf_suite.specs.Outcomes.{Comes}
use Rattle.bpf_suite.specs.Tests.{cells, limited, setting}
use Rattle.bpf_suite.proofs.Shares.{bench-alone, cells-shared}
use Rattle.bpf_suite.proofs.bench.Bench.run_alone_for.Goals as goal

pub outcome_of-requires-clause-image : goal.outcome_of-requires-clause-image
outcome_of-requires-clause-image c =
    λ yes. subst (λ cs. IsImage cs c.self.inside.image)
    (cells-shared c.args.own.now c.self.inside.shared _ (c.gets_shared-shares.ensures yes) c.setting_of-setting.ensures) c.self.invariant.image

pub invariant_of-self : goal.invariant_of-self
invariant_of-self c =
    let own = c.args.own.now in
    let shared = c.self.inside.shared in
    let image = c.outcome_of.ensures.image (cells shared)
    (λ yes. cells-shared own shared _ (c.gets_shared-shares.ensures yes) c.setting_of-setting.ensures) c.self.invariant.image in
    bench-alone shared _ _ _ _ _ _ c.self.invariant image

pub returns-clause-comes : goal.returns-clause-comes
returns-clause-comes c =
    let own = c.args.own.now in
    let here : c.self.inside.shared ≡ c.args.self.now.sections = ap (λ (b : Shared). b.sections) c.self.view_is in
    let same = c.setting_of-setting.ensures ∙ ap (λ s. limited c.args.limit (setting (own ++ s))) here in
    subst (λ t. IfOk c.outcome_of.result (Comes t)) same c.outcome_of.ensures.comes
