-- Each turn is a statement.
use Rattle.std.proofs.Common.{◌≡◌, ◌++◌, ◌∙◌, refl, sym}
use Rattle.bpf_text.specs.Scaffolding.Labels.{labels_of, placed_of}
use Rattle.bpf_text.proofs.Rounds.{second_round-Err, second_round-Ok}
use Rattle.bpf_text.proofs.read.second_round.second_round.Goals as goal

pub returns-in-Err-clause-err : goal.returns-in-Err-clause-err
returns-in-Err-clause-err c =
    let done = c.loop-placed.invariant in
    second_round-Err (labels_of c.args.outline.now) (placed_of c.args.outline.now) c.loop-placed.placed-index c.placed-item.result c.in-Err.fault
    done.insns (rw c.deref-placed-items.ensures.value at c.loop-placed-test.true)
    (rw c.deref-placed-items.ensures.value at c.placed-item.is) done.clear (sym c.in-Err.ensures)

pub loop-placed-preserved : goal.loop-placed-preserved
loop-placed-preserved c =
    let bytes : c.extend_from_slice.new.self.items ≡ c.loop-placed.bytes.items ++ c.encode.result =
    c.extend_from_slice.ensures.items ∙ rw (c.if-is_err.ensures.negation, c.as_slice.ensures) refl in
    rw bytes (second_round-Ok (labels_of c.args.outline.now) (placed_of c.args.outline.now) c.loop-placed.placed-index c.placed-item.result c.in-Ok.insn
    c.loop-placed.bytes.items c.encode.result (rw c.deref-placed-items.ensures.value at c.loop-placed-test.true)
    (rw c.deref-placed-items.ensures.value at c.placed-item.is) (sym c.in-Ok.ensures) c.encode.ensures c.loop-placed.invariant)
