use Rattle.std.proofs.Common.{map, ◌∙◌}
use Rattle.bpf_journal.specs.Histories.{kept_of}
use Rattle.memory_calls.proofs.sessions.RingKeeperAnew.anew.Goals as goal

pub returns : goal.returns
returns c =
    let past = c.requires in
    let held = past.stands.0 in
    record {
      history = past.history;
      stands = (c.from_ring.ensures.held (map kept_of past.history) held.fit (c.into_ring-ring.ensures.bytes ∙ held.bytes), past.stands.1);
    }
