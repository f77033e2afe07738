use Rattle.std.proofs.Common.{◌≡◌, ◌∙◌, None, Some, refl, sym}
use Rattle.bpf_diff.specs.Noted.{register_of}
use Rattle.bpf_diff.proofs.Noting.{a-call, no-call, noted, noted-call}
use Rattle.bpf_diff.proofs.told_writers.Notes.note.Goals as goal

pub returns-in-Some : goal.returns-in-Some
returns-in-Some c = λ before x t counts are.
    let e : register_of c.args.taken.now.change ≡ Some c.in-Some.register = sym c.register_written.ensures ∙ c.in-Some.is in
    noted before x c.args.cpu.now c.args.taken.now t _ _ are c.args.number counts c.args.taken.now.change refl
    (no-call c.args.taken.now.change c.in-Some.register e) c.note_register.new.notes (λ i low. rw e (c.note_register.ensures i low))

pub returns-then-is_call : goal.returns-then-is_call
returns-then-is_call c = λ before x t counts are.
    let to = a-call c.args.taken.now.change (sym c.is_call.ensures ∙ c.if-is_call.true) in
    noted-call before x c.args.cpu.now c.args.taken.now t _ _ are c.args.number counts to.0 to.1 c.inherit.new.notes
    (rw c.depth.ensures at c.inherit.ensures)

pub returns-else-is_call : goal.returns-else-is_call
returns-else-is_call c = λ before x t counts are.
    let e : register_of c.args.taken.now.change ≡ None = sym c.register_written.ensures ∙ c.in-None.is in
    noted before x c.args.cpu.now c.args.taken.now t _ _ are c.args.number counts c.args.taken.now.change refl
    (sym c.is_call.ensures ∙ c.if-is_call.false) _ (λ i low. rw e refl)
