use Rattle.std.proofs.Common.{◌≡◌, ◌∙◌, ℕ, Some, length, ap, refl}
use Rattle.std.specs.Prelude.{slice_index_or}
use Rattle.bpf_entries.specs.Texts.{kind, tag}
use Rattle.bpf_entries.specs.Weights.{weight}
use Rattle.bpf_ring.specs.declared.keeper.Head.{Head}
use Rattle.bpf_ring.proofs.Held.{newest_text}
use Rattle.bpf_ring.proofs.keeper.RingKeeper.newest.Goals as goal

abbrev head : ℕ → ℕ → Head
head len tag = record { len = len; tag = tag }

pub returns-in-Some-clause-some : goal.returns-in-Some-clause-some
returns-in-Some-clause-some c = λ ks k held.
    let now = c.args.self.now in
    let there = c.in-Some.text.now in
    let told = newest_text now.ring now.counts (length there) (length there) ks k there held c.in-Some.ensures.len (λ a b. refl) c.in-Some.ensures.newest in
    let third : slice_index_or there 2 0 ≡ tag (kind k.0) k.1 = ap (λ l. slice_index_or l 2 0) told.1 in
    ap (λ n. Some (head n (slice_index_or there 2 0))) told.0 ∙ ap (λ n. Some (head (weight k.0) n)) third
