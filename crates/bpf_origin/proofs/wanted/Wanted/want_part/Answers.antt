use Rattle.bpf_origin.specs.Wanted.{want_all}
use Rattle.bpf_origin.proofs.wanted.Wanted.want_part.Goals as goal

pub returns-in-Register-clause-value : goal.returns-in-Register-clause-value
unfolding want_all
returns-in-Register-clause-value c = rw c.in-Register.is c.want.ensures.value

pub returns-in-Register-clause-all : goal.returns-in-Register-clause-all
unfolding want_all
returns-in-Register-clause-all c = rw c.in-Register.is c.want.ensures.all

pub returns-in-Word-clause-value : goal.returns-in-Word-clause-value
unfolding want_all
returns-in-Word-clause-value c = rw c.in-Word.is c.want-in-Word.ensures.value

pub returns-in-Word-clause-all : goal.returns-in-Word-clause-all
unfolding want_all
returns-in-Word-clause-all c = rw c.in-Word.is c.want-in-Word.ensures.all
