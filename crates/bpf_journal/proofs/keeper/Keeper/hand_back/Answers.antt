use Rattle.std.proofs.Common.{sym, ◌∙◌}
use Rattle.std.specs.Prelude.{is_some}
use Rattle.bpf_journal.proofs.Handing.{not_both, on_some, pushed_over, some_taken, step_fits}
use Rattle.bpf_journal.proofs.keeper.Keeper.hand_back.Goals as goal

pub push-requires : goal.push-requires
push-requires g c =
    let i = c.requires.way in
    step_fits i.history c.args.cpu.now c.entries_fit.ensures i.stands.1 (c.in-Some.entry, c.in-Some.mark) (c.in-Some.ensures _ i.stands.0)
    (sym c.is_of_step.ensures ∙ c.if-not-is_of_step.false)

pub returns-else-not-is_of_step : goal.returns-else-not-is_of_step
returns-else-not-is_of_step g c =
    let i = c.requires.way in
    let taken = some_taken g.Self.Keeper.holds i.history (c.in-Some.entry, c.in-Some.mark) c.take_back.result _ _ _ (c.in-Some.ensures _ i.stands.0) (c.take_back.ensures.back i.history i.stands) in
    record {
      hands = λ es ls held into.
          pushed_over es ls (c.in-Some.entry, c.in-Some.mark) (is_some c.take_back.result) _ _ (c.in-Some.ensures es held)
          (sym c.is_of_step.ensures ∙ c.if-not-is_of_step.false) taken (c.push.ensures.held ls into);
      back = on_some c.take_back.result _ c.take_back.ensures.back;
      stays = λ none. absurd (not_both c.take_back.result none taken);
      ring_size = c.push.ensures.size;
      refused = c.take_back.ensures.refused;
      room = c.take_back.ensures.room;
    }
