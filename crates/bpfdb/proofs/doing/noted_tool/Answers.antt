use Rattle.std.proofs.Common.{◌≡◌, ◌&&◌, Bool, true, false, refl}
use Rattle.bpfdb.specs.Done.{Like, Unlike, refuses_unlike}
use Rattle.bpfdb.proofs.doing.noted_tool.Goals.{else-plan-via-then-plan+else-unlike, else-plan-via-else-plan}
use Rattle.bpfdb.proofs.doing.noted_tool.Goals as goal

-- Both, or one isn't.
both : (a b : Bool) → a ≡ true → b ≡ true → (a && b) ≡ true
both a b one other = rw one other

not_left : (a b : Bool) → a ≡ false → (a && b) ≡ false
not_left a b one = rw one refl

not_right : (a b : Bool) → a ≡ true → b ≡ false → (a && b) ≡ false
not_right a b one other = rw one other

pub returns-then-unlike-clause-does : goal.returns-then-unlike-clause-does
returns-then-unlike-clause-does g c = record {
  noted = c.say_notes-unlike.new.errors;
  unlike = c.say_notes-unlike.result;
  says = c.say_notes-unlike.ensures;
  does = Unlike (both _ _ c.if-plan.true c.if-unlike.true) (refl, refl, c.give_up.ensures.told, c.give_up.ensures.value);
}

pub returns-else-plan-clause-does : goal.returns-else-plan-clause-does
returns-else-plan-clause-does g c =
    let like : refuses_unlike c.args.plan.now c.say_notes-unlike.result ≡ false =
    elim c.else-plan.branch [
      | else-plan-via-then-plan+else-unlike w ↦ not_right c.args.plan.now.target.is_faithful c.say_notes-unlike.result w.if-plan.true w.if-unlike.false
      | else-plan-via-else-plan w ↦ not_left c.args.plan.now.target.is_faithful c.say_notes-unlike.result w.if-plan.false
    ] in
    record {
      noted = c.say_notes-unlike.new.errors;
      unlike = c.say_notes-unlike.result;
      says = c.say_notes-unlike.ensures;
      does = Like like (rw c.telling_of.ensures at c.hinted_tool.ensures.does);
    }
