use Rattle.std.proofs.Common.{◌≡◌, ◌∙◌, List, ℕ, [], subst, take}
use Rattle.std.proofs.lemmas.List.{get_or_default, take_all}
use Rattle.std.specs.Prelude.{get_or}
use Rattle.std.specs.List.{All}
use Rattle.std.specs.Str.{IsUtf8}
use Rattle.suite_files.proofs.Strings.{more-texts, more-utf8}
use Rattle.suite_files.proofs.asked.strs_of.Goals as goal

pub loop-k-preserved : goal.loop-k-preserved
loop-k-preserved c =
    let all : List (List ℕ) = c.args.texts.now in
    let k : ℕ = c.loop-k.k in
    let at : c.bytes_of.result.now ≡ get_or all k []
    = c.bytes_of.ensures ∙ (c.index-texts-k.is ∙ get_or_default all k c.index-texts-k.result [] c.loop-k-test.true) in
    record {
      same = rw c.in-Ok-push.ensures.items
          (more-texts all k c.loop-k.strs.items c.in-Ok.text c.loop-k-test.true (c.in-Ok.ensures.cases.0 ∙ at) c.loop-k.invariant.same);
      utf8 = more-utf8 all k c.loop-k-test.true (subst IsUtf8 at c.in-Ok.ensures.cases.1) c.loop-k.invariant.utf8;
    }

pub returns : goal.returns
returns c =
    let all : List (List ℕ) = c.args.texts.now in
    let whole : take c.loop-k.k all ≡ all = take_all c.loop-k.k all c.loop-k-test.false in
    record {
      same = c.loop-k.invariant.same ∙ whole;
      utf8 = subst (λ (ts : List (List ℕ)). All IsUtf8 ts) whole c.loop-k.invariant.utf8;
    }
