use Rattle.std.proofs.Common.{◌≡◌, ◌∙◌, length, ap, refl, sym, subst, arith, ◌∷◌, List, true}
use Rattle.std.proofs.lemmas.List.Elements.{All-head}
use Rattle.bpf_entries.specs.Fields.{FitsFields}
use Rattle.bpf_entries.specs.Keeping.{Kept}
use Rattle.bpf_entries.specs.Past.{is_of_step}
use Rattle.bpf_entries.specs.Texts.{kind, tag, text}
use Rattle.bpf_machine.specs.Moves.{HasComeBy}
use Rattle.bpf_ring.specs.Held.{IsHeld}
use Rattle.bpf_ring.proofs.Held.{came_by, dropped_newest, newest_text}
use Rattle.bpf_ring.proofs.keeper.RingKeeper.hand_back.Goals as goal

pub take_text-requires : goal.take_text-requires
take_text-requires c =
    let now = c.args.self.now in
    let n = length c.in-Some.text.now in
    let led = came_by now.ring now.counts n n c.args.cpu.now c.requires (omega (arith, c.in-Some.ensures.least, c.in-Some.ensures.within)) c.in-Some.ensures.len (λ a b. refl) in
    subst (HasComeBy c.args.cpu.now) (sym c.in-Some.ensures.newest) led.come

pub returns-in-Some-take_text : goal.returns-in-Some-take_text
returns-in-Some-take_text c =
    let now = c.args.self.now in
    let there = c.in-Some.text.now in
    let n = length there in
    let told = λ (ks : List Kept) (k : Kept) (held : IsHeld now.ring now.counts (k ∷ ks)). (newest_text now.ring now.counts n n ks k there held c.in-Some.ensures.len (λ a b. refl) c.in-Some.ensures.newest).1 in
    record {
      size = (c.drop_newest.ensures.size, c.in-Some-take_text.ensures.size);
      none = λ held. absurd (omega (arith, ap length held.bytes, c.in-Some.ensures.least, c.in-Some.ensures.within));
      edit = λ ks k held no. let none = c.in-Some-take_text.ensures.edit k.0 k.1 (told ks k held) no in absurd cc;
      stays = λ none. absurd cc;
      some = λ ks k held step.
          let some = c.in-Some-take_text.ensures.some k.0 k.1 (told ks k held) step in
          let tag : c.in-Some-take_text.tag ≡ tag (kind k.0) k.1 = cc in (
            some,
            dropped_newest now.ring c.drop_newest.new.self now.counts c.subtract.new.self n n c.in-Some-take_text.tag ks k held c.in-Some.ensures.len (λ a b. refl) tag
                c.drop_newest.ensures.bytes c.subtract.ensures.newest,
          );
      back = λ ks k x m held step leads is.
          let fits = subst FitsFields (sym is) (All-head (λ k. FitsFields k.0) k ks held.fit) in
          c.in-Some-take_text.ensures.back x m k.1 leads fits (told ks k held ∙ ap (λ e. text e k.1) (sym is)) (ap is_of_step is ∙ step);
      handed = λ ks ls k held step into.
          c.in-Some-take_text.ensures.held ls k.0 k.1 (All-head (λ k. FitsFields k.0) k ks held.fit) (told ks k held) step into;
    }

pub returns-in-None-take_text : goal.returns-in-None-take_text
returns-in-None-take_text c =
    let now = c.args.self.now in
    let there = c.in-Some.text.now in
    let n = length there in
    let told = λ (ks : List Kept) (k : Kept) (held : IsHeld now.ring now.counts (k ∷ ks)). (newest_text now.ring now.counts n n ks k there held c.in-Some.ensures.len (λ a b. refl) c.in-Some.ensures.newest).1 in
    let some = λ (ks : List Kept) (k : Kept) (held : IsHeld now.ring now.counts (k ∷ ks)) (step : is_of_step k.0 ≡ true). c.in-None-take_text.ensures.some k.0 k.1 (told ks k held) step in
    let stays = c.in-None-take_text.ensures.stays refl in
    record {
      size = (refl, c.in-None-take_text.ensures.size);
      none = λ held. refl;
      edit = λ ks k held no. refl;
      stays = λ none. (refl, stays.0, stays.1);
      some = λ ks k held step. let here = some ks k held step in absurd cc;
      back = λ ks k x m held step leads is. let here = some ks k held step in absurd cc;
      handed = λ ks ls k held step into. let here = some ks k held step in absurd cc;
    }
