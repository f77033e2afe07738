use Rattle.bpf_trace.proofs.Members.{members-at}
use Rattle.bpf_trace.proofs.words.members_of.Goals as goal

pub returns-in_ok-members-in-Some : goal.returns-in_ok-members-in-Some
returns-in_ok-members-in-Some c = rw c.in-Some.is (λ slot. members-at _ _ c.in_ok-members-in-Some.ensures slot)
