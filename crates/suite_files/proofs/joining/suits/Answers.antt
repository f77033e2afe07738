use Rattle.std.proofs.Common.{Bool, ap, refl, subst}
use Rattle.std.specs.Prelude.{not}
use Rattle.bpf_load.specs.Faults.{LacksFunctions}
use Rattle.suite_files.specs.Joining.{Lacking, Whole}
use Rattle.suite_files.proofs.joining.suits.Goals as goal

pub returns-then-not-lacks_functions : goal.returns-then-not-lacks_functions
returns-then-not-lacks_functions c =
    Whole c.target_of-target.result c.target_of-target.ensures
    (subst (λ (lacks : Bool). LacksFunctions c.target_of-target.result c.args.object.now lacks) c.if-not-lacks_functions.true c.lacks_functions.ensures)
    refl

pub returns : goal.returns
returns c =
    Lacking c.target_of-target.result c.target_of-target.ensures
    (subst (λ (lacks : Bool). LacksFunctions c.target_of-target.result c.args.object.now lacks) c.if-not-lacks_functions.false c.lacks_functions.ensures)
    c.notes_of-notes.result c.notes_of-notes.ensures (ap not c.differs.ensures)
