use Rattle.std.proofs.Common.{[], ◌∷◌, List, ℕ, inl, inr, map, refl, subst}
use Rattle.bpf_lines.specs.Objects.{AreBehind}
use Rattle.bpf_lines.specs.declared.objects.ObjectLines.{ObjectLines}
use Rattle.bpf_lines.proofs.objects.program_lines.Goals as goal

pub returns-in-Ok-with_functions-clause-ok : goal.returns-in-Ok-with_functions-clause-ok
returns-in-Ok-with_functions-clause-ok c =
    let own = c.in-Ok.ensures.ok in
    let others = map (λ other. other.items) c.args.others.now in
    record {
      own = own.0;
      first = own.1;
      behind = subst (λ (b : List ObjectLines). AreBehind b others c.in-Ok-with_functions.all.items) own.2 c.in-Ok-with_functions.ensures.ok;
    }

pub returns-in-Err-with_functions-clause-err : goal.returns-in-Err-with_functions-clause-err
returns-in-Err-with_functions-clause-err c = inr ((c.in-Ok.ensures.ok.0, c.in-Ok.ensures.ok.1), c.in-Err-with_functions.ensures.err)

pub returns-in-Err-clause-err : goal.returns-in-Err-clause-err
returns-in-Err-clause-err c = inl (refl, refl, c.in-Err.ensures.err)
