use Rattle.std.proofs.Common.{◌≡◌, ◌≤◌, ◌-◌, ◌∙◌, ◌++◌, ℕ, length, sym, ap, subst, arith}
use Rattle.std.specs.Prelude.{sum_by}
use Rattle.bpf_entries.specs.Keeping.{fit, kept_weight}
use Rattle.bpf_ring.proofs.Held.{length-ring}
use Rattle.bpf_ring.proofs.PieceLaws.{kept_piece}
use Rattle.bpf_ring.specs.Held.{IsHeld}
use Rattle.bpf_ring.specs.Pieces.{entries_of}
use Rattle.bpf_ring.proofs.keeper.RingKeeper.push_steps.Goals as goal

pub returns-clause-held : goal.returns-clause-held
returns-clause-held c = λ ks x held fits is.
    let n = c.args.count in
    let len = length c.args.text.now in
    let size = c.args.self.now.ring.size in
    let made = c.make_room.new.self in
    let new = c.append_steps.new.self in
    let weighs : sum_by kept_weight (entries_of n x) ≡ len = sym (length-ring (entries_of n x) fits) ∙ ap length (sym is) in
    let small : sum_by kept_weight ks ≤ size = omega (arith, c.invariant.ensures, ap length held.bytes, length-ring ks held.fit) in
    let within : sum_by kept_weight (entries_of n x) ≤ size = omega (arith, weighs, c.requires.room) in
    let fewer = c.drop_in_place.ensures.left ks held in
    let rest = subst (λ (k : ℕ). IsHeld made.ring made.counts (fit kept_weight (k - len) fewer.front)) c.drop_in_place.ensures.size (c.make_room.ensures.held fewer.front fewer.held) in
    let left : IsHeld made.ring made.counts (fit kept_weight (size - len) ks) = subst (IsHeld made.ring made.counts) fewer.same rest in
    let whole = c.append_steps.ensures.held (fit kept_weight (size - len) ks) x left fits is in
    subst (IsHeld new.ring new.counts)
    (ap (λ (k : ℕ). entries_of n x ++ fit kept_weight (size - k) ks) (sym weighs) ∙ sym (kept_piece size n x ks small within)) whole
