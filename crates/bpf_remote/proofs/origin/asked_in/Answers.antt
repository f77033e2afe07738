use Rattle.std.proofs.Common.{ℕ, List, Bor, sym, ◌∙◌, arith}
use lib.Chars.{codes}
use Rattle.bpf_remote.proofs.Bodies.{mapped-some, mapped-none}
use Rattle.bpf_remote.proofs.OriginTexts.{asked-some, asked-none, behind-short}
use Rattle.bpf_remote.proofs.origin.asked_in.Goals as goal

pub returns-in-Some : goal.returns-in-Some
returns-in-Some c =
    c.named_by.ensures
    ∙ asked-some c.args.cpu.now c.args.digits.now _ (sym c.is.ensures ∙ c.if-is.false) (mapped-some (λ (rest : Bor (List ℕ)). rest.now) _ _ _ c.behind.ensures c.in-Some.is)

pub returns-in-None : goal.returns-in-None
returns-in-None c =
    asked-none c.args.cpu.now c.args.digits.now (sym c.is.ensures ∙ c.if-is.false) (mapped-none (λ (rest : Bor (List ℕ)). rest.now) _ _ c.behind.ensures c.in-None.is)

pub named_by-requires : goal.named_by-requires
named_by-requires c =
    let r = behind-short (codes "6f726967696e20") c.args.digits.now _ (mapped-some (λ (rest : Bor (List ℕ)). rest.now) _ _ _ c.behind.ensures c.in-Some.is) in
    let fits = c.requires in
    omega (arith, r, fits)
