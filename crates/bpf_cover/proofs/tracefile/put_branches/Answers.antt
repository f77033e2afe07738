use Rattle.std.proofs.Common.{◌++◌, ℕ, List, ap}
use Rattle.counted_io.proofs.Appending.{Writes-text}
use Rattle.bpf_cover.proofs.Records.{forked}
use Rattle.bpf_cover.proofs.tracefile.put_branches.Goals as goal

pub returns-then-mark : goal.returns-then-mark
returns-then-mark g c = λ first front known.
    Writes-text g.W.Write.contents _ _ _ _ _ (c.put_ways.ensures first front known)
    (ap (λ (t : List ℕ). front ++ t) (forked c.args.line c.args.block c.args.mark c.if-mark.true))
