use Rattle.answer_forms.proofs.Steps.{onto-nothing}
use Rattle.answer_forms.proofs.member.members.Goals as goal

pub loop-field-init : goal.loop-field-init
loop-field-init c = onto-nothing c.new-out.result.items c.new-out.ensures.items _
