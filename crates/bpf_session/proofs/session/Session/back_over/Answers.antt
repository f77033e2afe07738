use Rattle.std.proofs.Common.{◌∙◌, ℕ, [], refl, sym, ap, subst, arith}
use Rattle.bpf_steps.specs.State.{depth}
use Rattle.bpf_ring.specs.declared.backward.Stays.TheVariants.{Nothing}
use Rattle.bpf_session.specs.Points.{Bounds}
use Rattle.bpf_session.specs.Searches.{GoAtOnce}
use Rattle.bpf_session.proofs.GoingOver.{each_alike}
use Rattle.bpf_session.proofs.session.Session.back_over.Goals as goal

pub returns-then-many-eq0 : goal.returns-then-many-eq0
returns-then-many-eq0 g c = record {
  within = omega arith;
  fewer = λ each. omega (arith, c.requires);
  over = λ first h began past. record {
    marks = [];
    stays = Nothing;
    back = (refl, past);
    each = λ some. absurd (omega (arith, some));
  };
  stops = (refl, refl);
  refused = refl;
  bounds = refl;
}

pub returns : goal.returns
returns g c =
    let deep = rw (← c.self.view_is) at (c.depth-depth.ensures ∙ ap depth c.cpu.ensures) in
    let bounds : ℕ → Bounds = λ n. record { limit = c.self.inside.limit; room = n } in
    rw (← c.self.view_is) (record {
      within = omega (arith, c.back_steps.ensures.within, c.at_once-many.ensures.within);
      fewer = λ each. let few = c.at_once-many.ensures.fewer each in omega (arith, c.back_steps.ensures.within, few);
      over = λ first h began past. record {
        marks = c.table.result.now;
        stays = c.at_once-many.result.1;
        back = c.back_steps.ensures.back h past;
        each = λ some r z plain leads level.
            each_alike c.args.target.now first c.self.inside.breaks c.self.inside.watches c.table.result.now c.stays-watched.result c.depth-depth.result c.at_once-many.result.1 c.table.ensures c.stays-watched.ensures
            (subst (λ (n : ℕ). GoAtOnce c.args.target.now c.stays-watched.result n c.depth-depth.result c.at_once-many.result.1) began
            (c.at_once-many.ensures.may (omega (arith, some, c.back_steps.ensures.within)))) r z plain leads (λ is. level is ∙ sym deep);
      };
      stops = (refl, refl);
      refused = c.back_steps.ensures.refused;
      bounds = ap bounds c.back_steps.ensures.room;
    })
