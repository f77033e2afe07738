use Rattle.bpf_session.proofs.session.Session.run.Goals as goal

pub returns-clause-run : goal.returns-clause-run
returns-clause-run g c = rw (← c.self.view_is) c.run.ensures
