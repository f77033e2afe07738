use Rattle.std.proofs.Common.{ap, List}
use Rattle.bpf_origin.specs.declared.place.Place.{Place}
use Rattle.bpf_whynot.proofs.keep.Keep.find.Goals as goal

pub returns-in-Ok-held-clause-tells : goal.returns-in-Ok-held-clause-tells
returns-in-Ok-held-clause-tells c = record {
  here = rw c.in-Ok-held.ensures c.in-Ok-writing.ensures;
  deeper = rw c.in-Ok-held.ensures (rw c.len.ensures at c.in-Ok-writing-2.ensures);
}

pub returns-in-Ok-held-clause-held : goal.returns-in-Ok-held-clause-held
returns-in-Ok-held-clause-held c = ap (λ (places : List Place). record { places = places; wall = c.args.wall }) c.in-Ok-held.ensures
