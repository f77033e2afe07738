use Rattle.std.proofs.Common.{◌∙◌, sym}
use Rattle.bpf_whynot.specs.Sures.{told_sure}
use Rattle.bpf_whynot.proofs.Turning.{differs, parts_none, parts_some}
use Rattle.bpf_whynot.proofs.turn.parts.Goals as goal

pub returns-in-Some : goal.returns-in-Some
returns-in-Some c = λ program slot sure.
    parts_some program slot c.args.at c.in-Some.target (told_sure c.args.sure.now) c.args.insn.now _ sure (sym c.target_slot.ensures ∙ c.in-Some.is)
    (rw (c.differ.ensures, c.is_sure_from.ensures, c.is_sure_from-in-Some.ensures) (differs _ _))

pub returns-in-None : goal.returns-in-None
returns-in-None c = λ program slot sure. parts_none program slot c.args.at c.args.insn.now (sym c.target_slot.ensures ∙ c.in-None.is)
