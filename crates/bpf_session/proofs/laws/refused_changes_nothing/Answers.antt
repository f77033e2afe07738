use Rattle.bpf_session.proofs.CommandLaws.{refused-changes-nothing}
use Rattle.bpf_session.proofs.laws.refused_changes_nothing.Goals as goal

pub returns : goal.returns
returns c = refused-changes-nothing
