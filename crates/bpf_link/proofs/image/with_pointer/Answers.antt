use Rattle.std.proofs.Common.{◌≡◌, Ok, Err, subst}
use Rattle.std.specs.Prelude.{IfOk, IfErr}
use Rattle.bpf_link.specs.Images.{with_relocated}
use Rattle.bpf_link.proofs.image.with_pointer.Goals as goal

pub returns-clause-ok : goal.returns-clause-ok
returns-clause-ok c =
    subst (λ r. IfOk c.with_relocated.result (λ new. with_relocated c.args.placed.now r c.args.image.items ≡ Ok new.items))
    c.at-relocation.ensures c.with_relocated.ensures.ok

pub returns-clause-err : goal.returns-clause-err
returns-clause-err c =
    subst (λ r. IfErr c.with_relocated.result (λ fault. with_relocated c.args.placed.now r c.args.image.items ≡ Err fault))
    c.at-relocation.ensures c.with_relocated.ensures.err
