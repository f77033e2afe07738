use Rattle.std.proofs.Common.{ℕ, List, [], Bor, sym, ◌∙◌, arith}
use lib.Chars.{codes}
use Rattle.bpf_remote.proofs.Bodies.{mapped-some, mapped-none}
use Rattle.bpf_remote.proofs.OriginTexts.{behind-short}
use Rattle.bpf_remote.proofs.WhyTexts.{asks-alone, asks-none, none-behind, some-behind}
use Rattle.bpf_remote.proofs.whynot.aim_in.Goals as goal

pub returns-then-is-clause-some : goal.returns-then-is-clause-some
returns-then-is-clause-some g c = ([], asks-alone c.args.digits.now (sym c.is.ensures ∙ c.if-is.true), c.aim_at.ensures)

pub returns-in-Some-clause-some : goal.returns-in-Some-clause-some
returns-in-Some-clause-some g c =
    some-behind g.K.Keeper.holds c.args.session.now c.args.digits.now _ c.aim_by.result (sym c.is.ensures ∙ c.if-is.false)
    (mapped-some (λ (rest : Bor (List ℕ)). rest.now) _ _ _ c.behind.ensures c.in-Some.is) c.aim_by.ensures.some

pub returns-in-Some-clause-none : goal.returns-in-Some-clause-none
returns-in-Some-clause-none g c =
    none-behind g.K.Keeper.holds c.args.session.now c.args.digits.now _ c.aim_by.result (sym c.is.ensures ∙ c.if-is.false)
    (mapped-some (λ (rest : Bor (List ℕ)). rest.now) _ _ _ c.behind.ensures c.in-Some.is) c.aim_by.ensures.none

pub returns-in-None-clause-none : goal.returns-in-None-clause-none
returns-in-None-clause-none g c =
    asks-none c.args.digits.now (sym c.is.ensures ∙ c.if-is.false) (mapped-none (λ (rest : Bor (List ℕ)). rest.now) _ _ c.behind.ensures c.in-None.is)

pub aim_by-requires : goal.aim_by-requires
aim_by-requires g c =
    let r = behind-short (codes "7768796e6f7420") c.args.digits.now _ (mapped-some (λ (rest : Bor (List ℕ)). rest.now) _ _ _ c.behind.ensures c.in-Some.is) in
    let fits = c.requires in
    omega (arith, r, fits)
