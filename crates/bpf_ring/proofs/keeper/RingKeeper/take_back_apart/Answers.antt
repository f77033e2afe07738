use Rattle.std.proofs.Common.{◌≤◌, ◌-◌, ◌∙◌, length, Some, ap, refl, sym, subst, arith}
use Rattle.std.proofs.lemmas.List.Elements.{All-head}
use Rattle.bpf_entries.specs.Fields.{FitsFields}
use Rattle.bpf_entries.specs.Texts.{text}
use Rattle.bpf_ring.proofs.keeper.RingKeeper.take_back_apart.Goals as goal
use Rattle.bpf_ring.proofs.Held.{came_by, newest_tag, newest_text, popped, TagAt}

pub revert_newest-tag-requires-clause-light : goal.revert_newest-tag-requires-clause-light
revert_newest-tag-requires-clause-light c =
    let now = c.args.self.now in
    (came_by now.ring now.counts c.newest_len.result c.within-weight.result c.args.cpu.now c.requires (omega (arith, c.if-len-lt5.false, c.len-len.ensures.value)) c.newest_len.ensures
    (λ a b. c.within-weight.ensures.same a (subst (λ n. c.newest_len.result ≤ n) (sym c.len-len.ensures.value) b))).light

pub revert_newest-tag-requires-clause-come : goal.revert_newest-tag-requires-clause-come
revert_newest-tag-requires-clause-come c =
    let now = c.args.self.now in
    (came_by now.ring now.counts c.newest_len.result c.within-weight.result c.args.cpu.now c.requires (omega (arith, c.if-len-lt5.false, c.len-len.ensures.value)) c.newest_len.ensures
    (λ a b. c.within-weight.ensures.same a (subst (λ n. c.newest_len.result ≤ n) (sym c.len-len.ensures.value) b))).come

pub returns : goal.returns
returns c =
    let now = c.args.self.now in
    let same = λ (a : 1 ≤ c.newest_len.result) (b : c.newest_len.result ≤ length now.ring.bytes). c.within-weight.ensures.same a (subst (λ n. c.newest_len.result ≤ n) (sym c.len-len.ensures.value) b) in
    let tags : TagAt now.ring (length now.ring.bytes - c.within-weight.result) c.revert_newest-tag.result = c.revert_newest-tag.ensures.tag in
    record {
      size = c.drop_newest.ensures.size;
      none = λ held. absurd (omega (arith, ap length held.bytes, c.if-len-lt5.false, c.len-len.ensures.value));
      some = λ ks k held. (
        ap Some (newest_tag now.ring now.counts c.newest_len.result c.within-weight.result c.revert_newest-tag.result ks k held c.newest_len.ensures same tags),
        popped now.ring c.drop_newest.new.self now.counts c.subtract.new.self c.newest_len.result c.within-weight.result c.revert_newest-tag.result ks k held c.newest_len.ensures same tags
            c.drop_newest.ensures.bytes c.subtract.ensures.newest,
      );
      back = λ ks k x m held leads is.
          let told = newest_text now.ring now.counts c.newest_len.result c.within-weight.result ks k _ held c.newest_len.ensures same refl in
          let fits = subst FitsFields (sym is) (All-head (λ k. FitsFields k.0) k ks held.fit) in
          c.revert_newest-tag.ensures.back x m k.1 leads fits (told.1 ∙ ap (λ e. text e k.1) (sym is));
    }
