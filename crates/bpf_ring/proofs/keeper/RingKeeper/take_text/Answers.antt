use Rattle.std.proofs.Common.{◌≡◌, ◌≤◌, ◌-◌, ◌∙◌, Bool, [], length, ap, refl, sym, subst, arith}
use Rattle.std.proofs.lemmas.List.{append-nil}
use Rattle.bpf_entries.specs.Keeping.{kept_weight, fit, keep}
use Rattle.bpf_entries.specs.Texts.{text}
use Rattle.bpf_entries.specs.Weights.{weight}
use Rattle.bpf_entries.proofs.Texts.{length-text}
use Rattle.bpf_ring.specs.Held.{IsHeld}
use Rattle.bpf_ring.proofs.Held.{kept_more}
use Rattle.bpf_ring.proofs.keeper.RingKeeper.take_text.Goals as goal

pub returns-then-not-is_of_step : goal.returns-then-not-is_of_step
returns-then-not-is_of_step c = record {
  size = refl;
  edit = λ e m is no. refl;
  stays = λ none. (refl, refl);
  some = λ e m is step. let here = c.is_of_step.ensures e m [] (is ∙ sym (append-nil (text e m))) in absurd cc;
  held = λ ls e m fits is step into. let here = c.is_of_step.ensures e m [] (is ∙ sym (append-nil (text e m))) in absurd cc;
  back = λ x m mark leads fits is step. let here = c.is_of_step.ensures _ mark [] (is ∙ sym (append-nil _)) in absurd cc;
}

pub returns : goal.returns
returns c = record {
  size = c.append.ensures.size ∙ c.make_room.ensures.size;
  edit = λ e m is no. let here = c.is_of_step.ensures e m [] (is ∙ sym (append-nil (text e m))) in absurd cc;
  stays = λ none. absurd cc;
  some = λ e m is step. rw is refl;
  held = λ ls e m fits is step into.
      let mid = c.make_room.new.self in
      let new = c.append.new.self in
      let size = c.args.self.now.ring.size in
      let front = fit kept_weight (size - weight e) ls in
      let weigh : c.text_len-weight.result ≡ weight e = c.text_len-weight.ensures.value ∙ ap length is ∙ length-text e m fits in
      let kept : IsHeld mid.ring mid.counts front = subst (λ n. IsHeld mid.ring mid.counts (fit kept_weight (size - n) ls)) weigh (c.make_room.ensures.held ls into) in
      let mark : c.is_marked.result ≡ m = c.is_marked.ensures e m [] (is ∙ sym (append-nil (text e m))) in
      let large : 1024 ≤ size = omega (arith, c.make_room.ensures.sized.0, c.make_room.ensures.size) in
      subst (λ (b : Bool). IsHeld new.ring new.counts (keep kept_weight size ls (e, b))) mark
      (kept_more size new.ring new.counts ls e c.is_marked.result large fits
      (c.append.ensures.held front e kept fits (is ∙ ap (text e) (sym mark)) (sym step)));
  back = λ x m mark leads fits is step. c.revert_text.ensures x m mark leads fits is;
}
