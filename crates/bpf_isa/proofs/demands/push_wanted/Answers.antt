use Rattle.std.proofs.Common.{◌≡◌, ◌+◌, [], ◌∷◌, length, ap, sym, subst, arith, length-append, get_or}
use Rattle.bpf_isa.specs.Scaffolding.Demands.{AreWantedAt}
use Rattle.bpf_isa.proofs.MapDemands.{all_slots, more_each, up_to_fault}
use Rattle.bpf_isa.proofs.demands.push_wanted.Goals as goal

pub returns-in-Err : goal.returns-in-Err
returns-in-Err c = up_to_fault c.args.bytes.now c.loop-slot.wanted.items c.loop-slot.slot c.in-Err.fault c.requires.slots c.loop-slot.invariant.size c.loop-slot.invariant.each c.in-Err.ensures.start c.in-Err.ensures.fault

pub loop-slot-preserved : goal.loop-slot-preserved
loop-slot-preserved c =
    let items = c.in_ok-push.ensures.items in
    let size : length c.push.new.self.items ≡ c.loop-slot.slot + 1 = omega (arith, ap length items, length-append c.loop-slot.wanted.items (c.in-Ok.lengths ∷ []), c.loop-slot.invariant.size) in
    record {
      size = size;
      next = c.in-Ok.ensures.ok.enough;
      each = λ p d below. subst (λ xs. AreWantedAt c.args.bytes.now p (get_or xs p d).bytes) (sym items) (more_each c.args.bytes.now c.loop-slot.wanted.items c.in-Ok.lengths c.loop-slot.slot c.loop-slot.invariant.size c.loop-slot.invariant.each c.in-Ok.ensures.ok p d below);
    }

pub returns : goal.returns
returns c =
    let all : c.loop-slot.slot ≡ length c.in_ok-starts.starts.items = omega arith in
    all_slots c.args.bytes.now c.loop-slot.wanted.items c.loop-slot.slot c.requires.slots (omega (arith, all, c.in_ok-starts.ensures.slots)) c.loop-slot.invariant.size c.loop-slot.invariant.each
