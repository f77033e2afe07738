use Rattle.std.proofs.Common.{◌∙◌, sym}
use Rattle.std.proofs.lemmas.Option.{IfSome_then}
use Rattle.bpfdb.proofs.parts.calls_among.Goals as goal

pub returns-in-Ok : goal.returns-in-Ok
returns-in-Ok c =
    IfSome_then c.calls_in.result c.calls_in.ensures (λ calls same. record {
      whole = sym c.leaves_names.ensures ∙ c.if-leaves_names.false;
      code = c.in-Ok.code.items;
      reached = c.in-Ok.ensures.ok;
      are = rw c.as_slice.ensures.value at same;
    })
