use Rattle.std.proofs.Common.{◌<◌, ◌≤◌, ap, arith, length, map, sym, ◌∙◌}
use Rattle.bpf_lines.proofs.Chains.{behind_all, behind_more, behind_none, other_is, refused_at, same_length, told_more}
use Rattle.bpf_lines.proofs.objects.with_functions.Goals as goal

pub loop-k-init : goal.loop-k-init
loop-k-init c = record { behind = behind_none c.args.before.items (map (λ other. other.items) c.args.others.now); told = c.requires }

pub loop-k-preserved : goal.loop-k-preserved
loop-k-preserved c =
    let objects = map (λ other. other.items) c.args.others.now in
    let count = same_length c.args.others.now in
    let inside : c.loop-k.k < length objects = omega (arith, count, c.loop-k-test.true) in
    let object = c.as_slice.ensures.value ∙ ap (λ v. v.items) c.index-others-k.is ∙ sym (other_is c.args.others.now c.loop-k.k c.index-others-k.result c.loop-k-test.true) in
    let more = c.in-Ok.ensures.ok in
    record {
      behind =
          behind_more c.args.before.items c.loop-k.all.items c.in-Ok.more.items objects c.loop-k.k c.as_slice.result.now more.0 inside object
          c.loop-k.invariant.behind more.1 more.2;
      told = told_more c.loop-k.all.items c.in-Ok.more.items c.as_slice.result.now more.0 c.loop-k.invariant.told more.1 more.2;
    }

pub returns-in-Err-clause-err : goal.returns-in-Err-clause-err
returns-in-Err-clause-err c =
    let objects = map (λ other. other.items) c.args.others.now in
    let count = same_length c.args.others.now in
    let inside : c.loop-k.k < length objects = omega (arith, count, c.loop-k-test.true) in
    let object = c.as_slice.ensures.value ∙ ap (λ v. v.items) c.index-others-k.is ∙ sym (other_is c.args.others.now c.loop-k.k c.index-others-k.result c.loop-k-test.true) in
    let why = c.in-Err.ensures in
    refused_at c.args.before.items c.loop-k.all.items objects c.loop-k.k c.as_slice.result.now c.in-Err.told inside c.loop-k.invariant.behind object
    why.index why.object why.err

pub returns-clause-ok : goal.returns-clause-ok
returns-clause-ok c =
    let objects = map (λ other. other.items) c.args.others.now in
    let count = same_length c.args.others.now in
    let enough : length objects ≤ c.loop-k.k = omega (arith, count, c.loop-k-test.false) in
    behind_all c.args.before.items c.loop-k.all.items objects c.loop-k.k enough c.loop-k.invariant.behind
