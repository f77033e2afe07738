use Rattle.std.proofs.Common.{◌≡◌, ap, subst, ◌∙◌}
use Rattle.std.specs.Prelude.{not}
use Rattle.std.specs.Str.{bytes_eq}
use Rattle.bpf_steps.specs.State.{depth}
use Rattle.bpf_session.specs.Halting.{most_of}
use Rattle.bpf_session.specs.Sessions.{SessionValue}
use Rattle.bpf_session.specs.Watched.{bytes_at}
use Rattle.bpf_session.proofs.Forwards.{Ran, ran, ran_cut, ran_to}
use Rattle.bpf_session.proofs.session.Session.forward.Goals as goal

pub returns-then-run : goal.returns-then-run
returns-then-run g c =
    let k = g.K.Keeper in
    let saw : c.bytes-seen.result ≡ bytes_at c.args.self.now.watches c.args.self.now.moment.state =
    c.bytes-seen.ensures ∙ ap (λ ws. bytes_at ws c.cpu-3.result.now) (ap (λ (s : SessionValue g.row.K.Denot). s.watches) c.self.view_is) ∙ ap (bytes_at c.args.self.now.watches) c.cpu-3.ensures in
    let most : c.most_of-most.result ≡ most_of c.args.goal c.args.self.now.limit = rw (← c.self.view_is) c.most_of-most.ensures.value in
    let all : Ran {K = g.row.K.Denot} k.holds k.refused k.room c.args.self.now c.run-run.new.self c.args.goal c.bytes-seen.result c.run-run.result.steps c.run-run.result.is_cut =
    ran k.holds k.refused k.room c.args.self.now c.run-run.new.self c.args.goal c.bytes-seen.result c.depth-start.result c.floor_of-floor.result c.most_of-most.result c.run-run.result.steps c.run-run.result.is_cut
    (c.depth-start.ensures ∙ ap depth c.cpu-2.ensures) c.floor_of-floor.ensures most
    (record { breaks = c.run-run.ensures.tables.0; watches = c.run-run.ensures.tables.1; limit = c.run-run.ensures.tables.2 })
    saw c.run-run.ensures.run.ends c.run-run.ensures.run.kept c.run-run.ensures.run.refused c.run-run.ensures.run.room in
    rw c.cut_short.ensures
    (ran_cut k.holds k.refused k.room c.args.self.now c.run-run.new.self c.args.goal c.bytes-seen.result c.run-run.result.steps
    (subst (λ b. Ran {K = g.row.K.Denot} k.holds k.refused k.room c.args.self.now c.run-run.new.self c.args.goal c.bytes-seen.result c.run-run.result.steps b) c.if-run.true all))

pub returns : goal.returns
returns g c =
    let k = g.K.Keeper in
    let began = c.depth-start.ensures ∙ ap depth c.cpu-2.ensures in
    let saw : c.bytes-seen.result ≡ bytes_at c.args.self.now.watches c.args.self.now.moment.state =
    c.bytes-seen.ensures ∙ ap (λ ws. bytes_at ws c.cpu-3.result.now) (ap (λ (s : SessionValue g.row.K.Denot). s.watches) c.self.view_is) ∙ ap (bytes_at c.args.self.now.watches) c.cpu-3.ensures in
    let most : c.most_of-most.result ≡ most_of c.args.goal c.args.self.now.limit = rw (← c.self.view_is) c.most_of-most.ensures.value in
    let told : c.differ_from-differs.result ≡ not (bytes_eq (bytes_at c.run-run.new.self.watches c.run-run.new.self.moment.state) c.bytes-seen.result) =
    c.differ_from-differs.ensures ∙ ap (λ ws. not (bytes_eq (bytes_at ws c.cpu-4.result.now) c.bytes-seen.result)) (ap (λ (s : SessionValue g.row.K.Denot). s.watches) c.self-2.view_is)
    ∙ ap (λ y. not (bytes_eq (bytes_at c.run-run.new.self.watches y) c.bytes-seen.result)) c.cpu-4.ensures in
    let all : Ran {K = g.row.K.Denot} k.holds k.refused k.room c.args.self.now c.run-run.new.self c.args.goal c.bytes-seen.result c.run-run.result.steps c.run-run.result.is_cut =
    ran k.holds k.refused k.room c.args.self.now c.run-run.new.self c.args.goal c.bytes-seen.result c.depth-start.result c.floor_of-floor.result c.most_of-most.result c.run-run.result.steps c.run-run.result.is_cut
    began c.floor_of-floor.ensures most
    (record { breaks = c.run-run.ensures.tables.0; watches = c.run-run.ensures.tables.1; limit = c.run-run.ensures.tables.2 })
    saw c.run-run.ensures.run.ends c.run-run.ensures.run.kept c.run-run.ensures.run.refused c.run-run.ensures.run.room in
    ran_to k.holds k.refused k.room c.args.self.now c.run-run.new.self c.args.goal c.bytes-seen.result c.run-run.result.steps
    (subst (λ b. Ran {K = g.row.K.Denot} k.holds k.refused k.room c.args.self.now c.run-run.new.self c.args.goal c.bytes-seen.result c.run-run.result.steps b) c.if-run.false all)
    c.differ_from-differs.result told c.why-why.result (λ x h differs. c.why-why.ensures c.args.self.now.moment.state x h began differs)
