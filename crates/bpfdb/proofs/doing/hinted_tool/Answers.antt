use Rattle.bpfdb.proofs.doing.hinted_tool.Goals as goal

pub returns-clause-does : goal.returns-clause-does
returns-clause-does g c = record { told = c.told_tool-status.new.streams.errors; does = c.told_tool-status.ensures.does; adds = c.add_hint.ensures }
