use Rattle.std.proofs.Common.{◌<◌, ◌-◌, ◌∙◌, length, sym, ap, arith}
use Rattle.bpf_whynot.specs.Tables.{table_at}
use Rattle.bpf_whynot.proofs.Leveling.{at_read}
use Rattle.bpf_whynot.proofs.reach.Reach.level.Goals as goal

pub returns : goal.returns
returns c =
    let low : 7 - c.args.depth < length c.self.inside.levels.items = omega (arith, c.self.invariant) in
    sym (at_read c.self.inside.levels.items (7 - c.args.depth) c.index.result.now low c.index.ensures) ∙ ap (λ tables. table_at tables (7 - c.args.depth)) c.self.view_is
