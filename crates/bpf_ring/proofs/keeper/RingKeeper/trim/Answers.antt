use Rattle.std.proofs.Common.{◌∙◌, ap, sym}
use Rattle.bpf_ring.specs.declared.counts.Counts.{Counts}
use Rattle.bpf_ring.proofs.keeper.RingKeeper.trim.Goals as goal

pub returns-clause-held : goal.returns-clause-held
returns-clause-held c = λ ks r.
    let behind = c.edge-edge.ensures.behind ks r in
    let counts = c.with_entries-self.ensures in
    record {
      fit = behind.fits;
      bytes = c.drop_oldest.ensures.bytes ∙ behind.bytes;
      counted = record {
        entries = ap (λ (k : Counts). k.entries) counts ∙ behind.entries;
        marks = ap (λ (k : Counts). k.marks) counts ∙ r.counted.0 ∙ sym behind.plain.0;
        edits = ap (λ (k : Counts). k.edits) counts ∙ r.counted.1 ∙ sym behind.plain.1;
      };
    }
