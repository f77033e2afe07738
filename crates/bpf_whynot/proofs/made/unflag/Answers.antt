use Rattle.std.proofs.Common.{◌∙◌, sym}
use Rattle.bpf_whynot.proofs.Unmaking.{not_flagged, unflagged}
use Rattle.bpf_whynot.proofs.Walking.{reached_within}
use Rattle.bpf_whynot.proofs.made.unflag.Goals as goal

pub returns-then-not-is_flagged-clause-left : goal.returns-then-not-is_flagged-clause-left
returns-then-not-is_flagged-clause-left c = λ program goals are. not_flagged program goals c.args.flags.now c.args.slot are (sym c.is_flagged.ensures ∙ c.if-not-is_flagged.true)

pub returns-clause-left : goal.returns-clause-left
returns-clause-left c = λ program goals are.
    unflagged program goals c.args.flags.now c.args.slot are (reached_within c.args.flags.now c.args.slot (sym c.is_flagged.ensures ∙ c.if-not-is_flagged.false))
