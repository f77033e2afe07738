use Rattle.std.proofs.Common.{◌-◌, ◌∙◌, ℕ, Bool, List, sym, ap, arith}
use Rattle.bpf_whynot.specs.Levels.{table_of}
use Rattle.bpf_whynot.specs.Tables.{is_in, table_of_depth}
use Rattle.bpf_whynot.proofs.Walks.{told_hit, told_miss, told_goes, told_ends}
use Rattle.bpf_whynot.proofs.reach.Reach.can_come.Goals as goal

pub returns-then-is_flagged : goal.returns-then-is_flagged
returns-then-is_flagged c =
    sym (told_hit c.args.self.now c.args.cpu.now c.loop-i.i c.loop-i.slot (table_of c.level-level.result.now)
    (c.level-level.ensures ∙ ap (λ (d : ℕ). table_of_depth c.args.self.now (d - c.loop-i.i)) c.depth.ensures)
    (omega (arith, c.loop-i-test.true, c.depth-i-end.ensures)) c.loop-i.invariant
    (ap (λ (flags : List Bool). is_in flags c.loop-i.slot) (sym c.as_slice.ensures.value) ∙ sym c.is_flagged.ensures ∙ c.if-is_flagged.true))

pub returns-then-not-is_flagged : goal.returns-then-not-is_flagged
returns-then-not-is_flagged c =
    sym (told_miss c.args.self.now c.args.cpu.now c.loop-i.i c.loop-i.slot (table_of c.level-level.result.now)
    (c.level-level.ensures ∙ ap (λ (d : ℕ). table_of_depth c.args.self.now (d - c.loop-i.i)) c.depth.ensures)
    (omega (arith, c.loop-i-test.true, c.depth-i-end.ensures)) c.loop-i.invariant
    (ap (λ (flags : List Bool). is_in flags c.loop-i.slot) (sym c.as_slice.ensures.value) ∙ sym c.is_flagged.ensures ∙ c.if-is_flagged.false)
    (ap (λ (flags : List Bool). is_in flags c.loop-i.slot) (sym c.as_slice-in-loop-i.ensures.value) ∙ sym c.is_flagged-in-loop-i.ensures ∙ c.if-not-is_flagged.true))

pub loop-i-preserved : goal.loop-i-preserved
loop-i-preserved c =
    told_goes c.args.self.now c.args.cpu.now c.loop-i.i c.loop-i.slot (table_of c.level-level.result.now)
    (c.level-level.ensures ∙ ap (λ (d : ℕ). table_of_depth c.args.self.now (d - c.loop-i.i)) c.depth.ensures)
    c.return_slot-slot.result (omega (arith, c.loop-i-test.true, c.depth-i-end.ensures)) c.loop-i.invariant
    (ap (λ (flags : List Bool). is_in flags c.loop-i.slot) (sym c.as_slice.ensures.value) ∙ sym c.is_flagged.ensures ∙ c.if-is_flagged.false)
    (ap (λ (flags : List Bool). is_in flags c.loop-i.slot) (sym c.as_slice-in-loop-i.ensures.value) ∙ sym c.is_flagged-in-loop-i.ensures ∙ c.if-not-is_flagged.false)
    c.return_slot-slot.ensures

pub returns : goal.returns
returns c =
    c.is_flagged-2.ensures ∙ ap (λ (flags : List Bool). is_in flags c.loop-i.slot) c.as_slice-2.ensures.value
    ∙ sym (told_ends c.args.self.now c.args.cpu.now c.loop-i.i c.loop-i.slot (table_of c.level.result.now) c.level.ensures
    (omega (arith, c.loop-i-test.false, c.depth-i-end.ensures)) c.loop-i.invariant)
