use Rattle.std.proofs.Common.{◌∙◌, [], ap, refl, subst, sym, arith}
use Rattle.counted_io.specs.Writing.{WritesAfter}
use Rattle.bpf_origin.specs.Answers.{Answer}
use Rattle.bpf_origin.specs.Wanted.{most_places, want_parts}
use Rattle.bpf_origin.proofs.Asking.{about_full, about_room}
use Rattle.bpf_origin.proofs.Wanting.{all_fit, some_left}
use Rattle.bpf_origin.proofs.answer.put_answer.Goals as goal

pub returns-then-not-want_parts : goal.returns-then-not-want_parts
returns-then-not-want_parts g c =
    let full = some_left most_places (want_parts [] c.args.parts.now) (rw c.clear.ensures at c.if-not-want_parts.ensures.all) in
    record {
      text = λ t stands.
          subst (λ (a : Answer). WritesAfter g.W.Write.contents c.args.writer.now c.args.so_far c.put.new.writer c.put.result a.text)
          (sym (about_full c.args.question c.args.parts.now t.history (g.P.Past.state c.args.history.now) full)) c.put.ensures;
      extent = λ t stands. ap (λ (a : Answer). a.extent) (sym (about_full c.args.question c.args.parts.now t.history (g.P.Past.state c.args.history.now) full));
      back = λ t stands. record { at = refl; on = stands };
      within = λ t stands. omega arith;
      keeper = record { room = refl; refused = refl };
    }

pub returns : goal.returns
returns g c =
    let fits = rw c.clear.ensures at (c.if-not-want_parts.ensures.all.0 refl) in
    let is = all_fit most_places (want_parts [] c.args.parts.now) c.want_parts.new.self (rw c.clear.ensures at c.if-not-want_parts.ensures.value) fits in
    record {
      text = λ t stands.
          subst (λ (a : Answer). WritesAfter g.W.Write.contents c.args.writer.now c.args.so_far c.put_origin.new.writer c.put_origin.result.written a.text)
          (sym (about_room c.args.question c.args.parts.now t.history (g.P.Past.state c.args.history.now) fits)) (rw is at (c.put_origin.ensures.text t stands));
      extent = λ t stands.
          (rw is at (c.put_origin.ensures.extent t stands))
          ∙ ap (λ (a : Answer). a.extent) (sym (about_room c.args.question c.args.parts.now t.history (g.P.Past.state c.args.history.now) fits));
      back = c.put_origin.ensures.back;
      within = c.put_origin.ensures.within;
      keeper = c.put_origin.ensures.keeper;
    }
