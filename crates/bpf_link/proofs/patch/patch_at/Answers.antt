use Rattle.std.proofs.Common.{◌≡◌, ◌∙◌, ◌+◌, ◌/◌, ◌%◌, ◌==◌, nat_lt, true, length, sym, ap, rules, tests}
use Rattle.bpf_link.specs.declared.fault.LinkFault.TheVariants.{Place, Symbol}
use Rattle.bpf_link.specs.Objects.{provided}
use Rattle.bpf_link.specs.Parts.{first_of, part_of, slots_in}
use Rattle.bpf_link.specs.Tables.{symbol_at}
use Rattle.bpf_link.specs.Patches.{patch_with}
use Rattle.bpf_link.proofs.patch.patch_at.Goals as goal

pub returns-clause-value : goal.returns-clause-value
returns-clause-value c =
    let relocation = c.args.relocation.now in
    let plan = c.args.placed.now.plan in
    let made = patch_with c.args.placed.now c.args.side relocation in
    let slot = first_of plan.parts c.args.side + relocation.offset / 8 in
    let whole : (relocation.offset % 8 == 0) ≡ true = search (rules, tests) in
    let inside : nat_lt (relocation.offset / 8) (slots_in (part_of plan.parts c.args.side)) ≡ true = search (rules, tests) in
    let known : nat_lt relocation.symbol (length plan.symbols) ≡ true = search (rules, tests) in
    c.patch_with.ensures.value
    ∙ ap made (c.at.ensures ∙ ap (λ plan. symbol_at plan.symbols relocation.symbol) c.plan-plan.ensures)
    ∙ ap (λ b. provided b (Symbol slot) (made (symbol_at plan.symbols relocation.symbol))) (sym known)
    ∙ ap (λ b. provided b Place (provided (nat_lt relocation.symbol (length plan.symbols)) (Symbol slot) (made (symbol_at plan.symbols relocation.symbol)))) (sym inside)
    ∙ ap (λ b. provided b Place (provided (nat_lt (relocation.offset / 8) (slots_in (part_of plan.parts c.args.side))) Place (provided (nat_lt relocation.symbol (length plan.symbols)) (Symbol slot) (made (symbol_at plan.symbols relocation.symbol))))) (sym whole)
