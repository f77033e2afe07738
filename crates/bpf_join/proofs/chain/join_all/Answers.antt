use Rattle.std.proofs.Common.{◌≡◌, ◌<◌, ℕ, [], arith, length, refl, sym, subst}
use Rattle.std.specs.Prelude.{get_or}
use Rattle.bpf_join.specs.Chains.{ComesTo, IsTold, others}
use Rattle.bpf_join.proofs.chain.join_all.Goals as goal

pub returns-in-Err-clause-err : goal.returns-in-Err-clause-err
returns-in-Err-clause-err c =
    let all = others c.args.second.now c.args.further.now in
    let at = sym c.in-Err.ensures.index in
    record {
      inside = subst (λ n. n < length all) at (omega arith);
      before = c.args.first.now;
      comes = subst (λ n. ComesTo c.args.first.now all c.args.section.now c.args.as_compiled n c.args.first.now) at refl;
      is_told = subst (λ n. IsTold c.args.first.now (get_or all n []) c.args.section.now c.args.as_compiled c.in-Err.told) at c.in-Err.ensures.err;
    }
