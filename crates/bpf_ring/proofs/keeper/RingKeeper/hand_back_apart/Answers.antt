use Rattle.std.proofs.Common.{◌≡◌, ◌≤◌, ◌∙◌, length, ap, refl, sym, subst, arith, ◌∷◌, List, true}
use Rattle.std.proofs.lemmas.List.Elements.{All-head}
use Rattle.bpf_entries.specs.Fields.{FitsFields}
use Rattle.bpf_entries.specs.Keeping.{Kept}
use Rattle.bpf_entries.specs.Past.{is_of_step}
use Rattle.bpf_entries.specs.Texts.{kind, tag, text}
use Rattle.bpf_ring.specs.Held.{IsHeld}
use Rattle.bpf_ring.proofs.Held.{came_by, dropped_newest, newest_text}
use Rattle.bpf_ring.proofs.keeper.RingKeeper.hand_back_apart.Goals as goal

pub take_newest_of-requires-clause-light : goal.take_newest_of-requires-clause-light
take_newest_of-requires-clause-light c =
    let now = c.args.self.now in
    (came_by now.ring now.counts c.newest_len.result c.within-count.result c.args.cpu.now c.requires (omega (arith, c.if-len-lt5.false, c.len-len.ensures.value)) c.newest_len.ensures
    (λ a b. c.within-count.ensures.same a (subst (λ n. c.newest_len.result ≤ n) (sym c.len-len.ensures.value) b))).light

pub take_newest_of-requires-clause-come : goal.take_newest_of-requires-clause-come
take_newest_of-requires-clause-come c =
    let now = c.args.self.now in
    (came_by now.ring now.counts c.newest_len.result c.within-count.result c.args.cpu.now c.requires (omega (arith, c.if-len-lt5.false, c.len-len.ensures.value)) c.newest_len.ensures
    (λ a b. c.within-count.ensures.same a (subst (λ n. c.newest_len.result ≤ n) (sym c.len-len.ensures.value) b))).come

pub returns-in-Some : goal.returns-in-Some
returns-in-Some c =
    let now = c.args.self.now in
    let read = c.newest_len.result in
    let n = c.within-count.result in
    let same = λ (a : 1 ≤ read) (b : read ≤ length now.ring.bytes). c.within-count.ensures.same a (subst (λ n. read ≤ n) (sym c.len-len.ensures.value) b) in
    let told = λ (ks : List Kept) (k : Kept) (held : IsHeld now.ring now.counts (k ∷ ks)). (newest_text now.ring now.counts read n ks k _ held c.newest_len.ensures same refl).1 in
    record {
      size = (c.drop_newest.ensures.size, c.in-Some.ensures.size);
      none = λ held. absurd (omega (arith, ap length held.bytes, c.if-len-lt5.false, c.len-len.ensures.value));
      edit = λ ks k held no. let none = c.in-Some.ensures.edit k.0 k.1 (told ks k held) no in absurd cc;
      stays = λ none. absurd cc;
      some = λ ks k held step.
          let some = c.in-Some.ensures.some k.0 k.1 (told ks k held) step in
          let tag : c.in-Some.tag ≡ tag (kind k.0) k.1 = cc in (
            some,
            dropped_newest now.ring c.drop_newest.new.self now.counts c.subtract.new.self read n c.in-Some.tag ks k held c.newest_len.ensures same tag c.drop_newest.ensures.bytes c.subtract.ensures.newest,
          );
      back = λ ks k x m held step leads is.
          let fits = subst FitsFields (sym is) (All-head (λ k. FitsFields k.0) k ks held.fit) in
          c.in-Some.ensures.back x m k.1 leads fits (told ks k held ∙ ap (λ e. text e k.1) (sym is)) (ap is_of_step is ∙ step);
      handed = λ ks ls k held step into. c.in-Some.ensures.held ls k.0 k.1 (All-head (λ k. FitsFields k.0) k ks held.fit) (told ks k held) step into;
    }

pub returns-in-None : goal.returns-in-None
returns-in-None c =
    let now = c.args.self.now in
    let read = c.newest_len.result in
    let same = λ (a : 1 ≤ read) (b : read ≤ length now.ring.bytes). c.within-count.ensures.same a (subst (λ n. read ≤ n) (sym c.len-len.ensures.value) b) in
    let told = λ (ks : List Kept) (k : Kept) (held : IsHeld now.ring now.counts (k ∷ ks)). (newest_text now.ring now.counts read c.within-count.result ks k _ held c.newest_len.ensures same refl).1 in
    let some = λ (ks : List Kept) (k : Kept) (held : IsHeld now.ring now.counts (k ∷ ks)) (step : is_of_step k.0 ≡ true). c.in-None.ensures.some k.0 k.1 (told ks k held) step in
    let stays = c.in-None.ensures.stays refl in
    record {
      size = (refl, c.in-None.ensures.size);
      none = λ held. refl;
      edit = λ ks k held no. refl;
      stays = λ none. (refl, stays.0, stays.1);
      some = λ ks k held step. let here = some ks k held step in absurd cc;
      back = λ ks k x m held step leads is. let here = some ks k held step in absurd cc;
      handed = λ ks ls k held step into. let here = some ks k held step in absurd cc;
    }
