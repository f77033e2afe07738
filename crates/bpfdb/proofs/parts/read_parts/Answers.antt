use Rattle.std.proofs.lemmas.Option.{IfSome_then}
use Rattle.bpf_load.specs.Targets.{contents}
use Rattle.bpfdb.proofs.parts.read_parts.Goals as goal

pub returns : goal.returns
returns g c =
    IfSome_then c.with_part.result c.with_part.ensures (λ parts all. record {
      others = contents c.in_ok-others.others.items;
      of_others = c.in_ok-others.ensures;
      shared = c.in_ok-shared.shared.items;
      of_shared = c.in_ok-shared.ensures;
      all = all;
    })
