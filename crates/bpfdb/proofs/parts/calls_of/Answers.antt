use Rattle.std.proofs.lemmas.Option.{IfSome_then}
use Rattle.bpfdb.proofs.parts.calls_of.Goals as goal

pub returns-in-Ok : goal.returns-in-Ok
returns-in-Ok c =
    IfSome_then c.calls_among.result c.calls_among.ensures (λ calls among. record {
      sources = c.in-Ok.sources;
      gathers = c.in-Ok.ensures.ok;
      called = rw c.object.ensures at among;
    })
