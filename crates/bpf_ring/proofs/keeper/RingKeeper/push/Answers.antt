use Rattle.std.proofs.Common.{◌≡◌, ◌≤◌, ◌-◌, ◌∙◌, take, ap, sym, subst, arith}
use Rattle.std.proofs.lemmas.List.{take_at}
use Rattle.bpf_entries.specs.Keeping.{kept_weight, fit}
use Rattle.bpf_entries.specs.Texts.{text}
use Rattle.bpf_entries.specs.Weights.{weight}
use Rattle.bpf_entries.proofs.Texts.{length-text}
use Rattle.bpf_ring.specs.Held.{IsHeld}
use Rattle.bpf_ring.proofs.keeper.RingKeeper.push.Goals as goal
use Rattle.bpf_ring.proofs.Held.{kept_more}

pub returns-clause-held : goal.returns-clause-held
returns-clause-held c = λ ks held.
    let e = c.args.entry.now in
    let m = c.args.mark in
    let size = c.args.self.now.ring.size in
    let mid = c.make_room.new.self in
    let new = c.append.new.self in
    let count = c.weight_in-weight.result in
    let weigh : count ≡ weight e = c.weight_in-weight.ensures.value in
    let front = fit kept_weight (size - weight e) ks in
    let kept : IsHeld mid.ring mid.counts front = subst (λ n. IsHeld mid.ring mid.counts (fit kept_weight (size - n) ks)) weigh (c.make_room.ensures.held ks held) in
    let written : take count c.write.new.room ≡ text e m = ap (take count) c.write.ensures.text ∙ take_at (text e m) _ count (length-text e m c.requires ∙ sym weigh) in
    let large : 1024 ≤ size = omega (arith, c.make_room.ensures.sized.0, c.make_room.ensures.size) in
    kept_more size new.ring new.counts ks e m large c.requires
    (c.append.ensures.held front e kept c.requires written (c.is_of_step-is_step.ensures e m _ c.write.ensures.text))
