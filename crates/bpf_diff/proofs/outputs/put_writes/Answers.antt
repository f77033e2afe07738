use Rattle.std.proofs.Common.{◌∙◌, Some, ap, ap₂, sym}
use Rattle.counted_io.proofs.Appending.{WritesAfter-text}
use Rattle.bpf_steps.specs.State.{State}
use Rattle.bpf_trace.specs.Runs.{steps_of}
use Rattle.bpf_trace.proofs.Stepping.{Steps-program}
use Rattle.bpf_diff.specs.Outputs.{last_write}
use Rattle.bpf_diff.proofs.Outcomes.{again, differ-alike, differ-told, same-alike, same-text}
use Rattle.bpf_diff.proofs.Valuing.{left-is, none-left-otherwise, some-left-otherwise}
use Rattle.bpf_diff.specs.Values.{Value, pair_of}
use Rattle.bpf_diff.proofs.outputs.put_writes.Goals as goal

pub returns-in-None-clause-text : goal.returns-in-None-clause-text
returns-in-None-clause-text g c =
    WritesAfter-text g.W.Write.contents _ _ _ _ _ _ c.put_same.ensures.text
    (same-text c.args.runs.now.limit _ _ c.args.first.now c.args.second.now _ _ c.run-one.ensures c.run-another.ensures _ _ c.args.texts
    (sym c.in-None.is ∙ c.first_place.ensures))

pub returns-in-None-clause-finds : goal.returns-in-None-clause-finds
returns-in-None-clause-finds g c =
    let none = sym c.in-None.is ∙ c.first_place.ensures in
    record {
      same = c.put_same.ensures.same
          ∙ same-alike c.args.runs.now.limit _ _ c.args.first.now c.args.second.now _ _ c.run-one.ensures c.run-another.ensures _ _ none;
      values = ap pair_of c.put_same.ensures.values
          ∙ none-left-otherwise c.args.runs.now.limit _ _ c.args.first.now c.args.second.now _ _ c.run-one.ensures c.run-another.ensures _ _ none;
    }

pub returns-in-None-clause-programs : goal.returns-in-None-clause-programs
returns-in-None-clause-programs g c = (Steps-program _ _ _ c.run-one.ensures.steps, Steps-program _ _ _ c.run-another.ensures.steps)

pub returns-clause-text : goal.returns-clause-text
returns-clause-text g c =
    let limit = c.args.runs.now.limit in
    let p = c.in-Some.place in
    let one = again limit _ c.args.runs.now.first c.args.first.now _ c.requires.first c.run-one.ensures in
    let other = again limit _ c.args.runs.now.second c.args.second.now _ c.requires.second c.run-another.ensures in
    let n = c.in-Ok.ensures in
    let m = c.in-Ok-find_writer.ensures in
    WritesAfter-text g.W.Write.contents _ _ _ _ _ _ c.put_difference.ensures.text
    (differ-told limit _ _ c.args.first.now c.args.second.now _ _ c.run-one.ensures c.run-another.ensures _ _ p
    (sym c.in-Some.is ∙ c.first_place.ensures) c.args.texts _ _ _ _ _ _ c.seen-value.ensures c.seen-other_value.ensures (n.start ∙ one) (m.start ∙ other)
    (n.value ∙ ap (λ x. last_write p (steps_of limit x)) one) (m.value ∙ ap (λ x. last_write p (steps_of limit x)) other))

pub returns-clause-finds : goal.returns-clause-finds
returns-clause-finds g c =
    let limit = c.args.runs.now.limit in
    let p = c.in-Some.place in
    let one = again limit _ c.args.runs.now.first c.args.first.now _ c.requires.first c.run-one.ensures in
    let other = again limit _ c.args.runs.now.second c.args.second.now _ c.requires.second c.run-another.ensures in
    let n = c.in-Ok.ensures in
    let m = c.in-Ok-find_writer.ensures in
    let some = sym c.in-Some.is ∙ c.first_place.ensures in
    record {
      same = differ-alike limit _ _ c.args.first.now c.args.second.now _ _ c.run-one.ensures c.run-another.ensures _ _ p some;
      values =
          ap₂ (λ (v w : Value). Some (v, w))
          (left-is p _ _ c.run-one.new.self (steps_of limit c.args.first.now) _ c.value_left-left.ensures c.seen-value.ensures
          (n.value ∙ ap (λ x. last_write p (steps_of limit x)) one))
          (left-is p _ _ c.run-another.new.self (steps_of limit c.args.second.now) _ c.value_left-other_left.ensures c.seen-other_value.ensures
          (m.value ∙ ap (λ x. last_write p (steps_of limit x)) other))
          ∙ some-left-otherwise limit _ _ c.args.first.now c.args.second.now _ _ c.run-one.ensures c.run-another.ensures _ _ p some;
    }

pub returns-clause-programs : goal.returns-clause-programs
returns-clause-programs g c =
    let n = c.in-Ok.ensures in
    let m = c.in-Ok-find_writer.ensures in
    let kept = c.put_difference.ensures.programs in (
      kept.0 ∙ ap (λ (z : State). z.program) n.start ∙ Steps-program _ _ _ c.run-one.ensures.steps,
      kept.1 ∙ ap (λ (z : State). z.program) m.start ∙ Steps-program _ _ _ c.run-another.ensures.steps,
    )
