use Rattle.std.proofs.Common.{◌≡◌, ◌≤◌, ◌∙◌, length, ap, subst, arith}
use Rattle.bpf_link.specs.Homes.{is_function}
use Rattle.bpf_link.specs.Sections.{FoundBelow}
use Rattle.bpf_link.proofs.Searches.{found_more, found_all, within_more}
use Rattle.bpf_link.proofs.home.function_found.Goals as goal

pub loop-i-preserved : goal.loop-i-preserved
loop-i-preserved c =
    let test = is_function c.args.object.now c.args.names c.args.name.now in
    let inside = rw c.len-i-end.ensures at c.loop-i-test.true in
    record {
      value =
          found_more test c.args.symbols.now c.loop-i.i _ c.loop-i.found _ _ inside c.loop-i.invariant.value
          (c.is_function.ensures ∙ ap test c.at-symbol.ensures) c.with-found.ensures;
      within = within_more c.loop-i.i c.loop-i.found _ _ c.with-found.ensures c.loop-i.invariant.within;
    }

pub returns-clause-value : goal.returns-clause-value
returns-clause-value c =
    let end : length c.args.symbols.now ≤ c.loop-i.i = omega arith in
    found_all (is_function c.args.object.now c.args.names c.args.name.now) c.args.symbols.now c.loop-i.i _ end c.loop-i.invariant.value

pub returns-clause-within : goal.returns-clause-within
returns-clause-within c =
    let end : c.loop-i.i ≡ length c.args.symbols.now = omega arith in
    subst (λ n. FoundBelow n c.loop-i.found) end c.loop-i.invariant.within
