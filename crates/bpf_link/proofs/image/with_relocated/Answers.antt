use Rattle.std.proofs.Common.{◌≡◌, ◌∙◌, ◌+◌, ◌==◌, nat_le, nat_lt, true, Ok, length, sym, ap, subst, rules, tests}
use Rattle.std.specs.Prelude.{IfOk}
use Rattle.bpf_link.specs.declared.fault.LinkFault.TheVariants.{Pointer}
use Rattle.bpf_link.specs.Images.{pointed_place, with_address}
use Rattle.bpf_link.specs.Tables.{symbol_at}
use Rattle.bpf_link.proofs.Images.{relocated_is}
use Rattle.bpf_link.proofs.image.with_relocated.Goals as goal

pub returns-clause-ok : goal.returns-clause-ok
returns-clause-ok c =
    let relocation = c.args.relocation.now in
    let kind : (relocation.kind == 2) ≡ true = search (rules, tests) in
    let inside : nat_le (relocation.offset + 8) (length c.args.image.items) ≡ true = search (rules, tests) in
    let known : nat_lt relocation.symbol (length c.args.placed.now.plan.symbols) ≡ true = search (rules, tests) in
    subst (λ r. IfOk c.with_address.result (λ new. r ≡ Ok new.items))
    (sym (relocated_is c.args.placed.now relocation c.args.image.items kind inside known
    ∙ ap (λ symbol. with_address c.args.placed.now relocation symbol (Pointer (pointed_place c.args.placed.now.plan relocation)) c.args.image.items)
    (sym (c.at-symbol.ensures ∙ ap (λ plan. symbol_at plan.symbols relocation.symbol) c.plan-plan.ensures))
    ∙ ap (λ at. with_address c.args.placed.now relocation c.at-symbol.result (Pointer at) c.args.image.items)
    (sym (c.pointed_place.ensures ∙ ap (λ plan. pointed_place plan relocation) c.plan-plan.ensures))))
    c.with_address.ensures.ok
