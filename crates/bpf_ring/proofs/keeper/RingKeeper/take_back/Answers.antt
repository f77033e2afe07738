use Rattle.std.proofs.Common.{◌∙◌, length, Some, ap, refl, sym, subst, arith, ◌∷◌, [], List}
use Rattle.std.proofs.lemmas.List.{append-nil}
use Rattle.std.proofs.lemmas.List.Elements.{All-head}
use Rattle.bpf_entries.specs.Fields.{FitsFields}
use Rattle.bpf_entries.specs.Keeping.{Kept}
use Rattle.bpf_entries.specs.Texts.{text}
use Rattle.bpf_machine.specs.Moves.{HasComeBy}
use Rattle.bpf_ring.specs.Held.{IsHeld}
use Rattle.bpf_ring.proofs.Held.{came_by, dropped_newest, newest_text}
use Rattle.bpf_ring.proofs.keeper.RingKeeper.take_back.Goals as goal

pub revert-tag-requires : goal.revert-tag-requires
revert-tag-requires c =
    let now = c.args.self.now in
    let n = length c.in-Some.text.now in
    let led = came_by now.ring now.counts n n c.args.cpu.now c.requires (omega (arith, c.in-Some.ensures.least, c.in-Some.ensures.within)) c.in-Some.ensures.len (λ a b. refl) in
    subst (HasComeBy c.args.cpu.now) (sym c.in-Some.ensures.newest) led.come

pub returns-in-Some : goal.returns-in-Some
returns-in-Some c =
    let now = c.args.self.now in
    let there = c.in-Some.text.now in
    let n = length there in
    let told = λ (ks : List Kept) (k : Kept) (held : IsHeld now.ring now.counts (k ∷ ks)). (newest_text now.ring now.counts n n ks k there held c.in-Some.ensures.len (λ a b. refl) c.in-Some.ensures.newest).1 in
    let tags = λ (ks : List Kept) (k : Kept) (held : IsHeld now.ring now.counts (k ∷ ks)). c.revert-tag.ensures.tag k.0 k.1 [] (told ks k held ∙ sym (append-nil (text k.0 k.1))) in
    record {
      size = c.drop_newest.ensures.size;
      none = λ held. absurd (omega (arith, ap length held.bytes, c.in-Some.ensures.least, c.in-Some.ensures.within));
      some = λ ks k held. (
        ap Some (tags ks k held),
        dropped_newest now.ring c.drop_newest.new.self now.counts c.subtract.new.self n n c.revert-tag.result ks k held c.in-Some.ensures.len (λ a b. refl) (tags ks k held)
            c.drop_newest.ensures.bytes c.subtract.ensures.newest,
      );
      back = λ ks k x m held leads is.
          let fits = subst FitsFields (sym is) (All-head (λ k. FitsFields k.0) k ks held.fit) in
          c.revert-tag.ensures.back x m k.1 leads fits (told ks k held ∙ ap (λ e. text e k.1) (sym is));
    }
