use Rattle.std.proofs.Common.{◌∙◌, sym}
use Rattle.bpfdb.specs.Notes.{Said}
use Rattle.bpfdb.proofs.notes.say_notes.Goals as goal

pub returns : goal.returns
returns g c =
    Said c.notes_of-notes.result (sym c.links.ensures ∙ c.if-not-links.false) c.notes_of-notes.ensures
    (rw c.answers_unlike-answered.ensures at c.try_notes.ensures) c.differs.ensures
