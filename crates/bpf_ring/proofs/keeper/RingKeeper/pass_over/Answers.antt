use Rattle.std.proofs.Common.{◌≡◌, ◌-◌, ◌++◌, ◌∙◌, length, take, drop, refl, sym, ap, arith}
use Rattle.std.proofs.lemmas.List.{length-append, length-take, take-append-drop, take_at}
use Rattle.bpf_entries.specs.Rings.{ring}
use Rattle.bpf_ring.proofs.Held.{fit_front, length-ring, ring-append}
use Rattle.bpf_ring.proofs.keeper.RingKeeper.pass_over.Goals as goal

pub returns-then-place-len : goal.returns-then-place-len
returns-then-place-len c = λ newer front held at. record { quiet = refl; rest = at }

pub returns : goal.returns
returns c = λ newer front held at.
    let bytes = c.args.self.now.ring.bytes in
    let run = c.run_before-run.result.now in
    let place = c.args.place in
    let fits = fit_front newer front held.fit in
    let older : length (ring front) ≡ place = length-ring front fits ∙ sym at in
    let taken : take place bytes ≡ ring front = ap (take place) (held.bytes ∙ ring-append newer front) ∙ take_at (ring front) (ring newer) place older in
    let before = take (place - length run) (take place bytes) in
    let cut : before ++ run ≡ take place bytes = ap (λ l. before ++ l) c.run_before-run.ensures.run ∙ take-append-drop (place - length run) (take place bytes) in
    let passed = c.quiet_in-passed.ensures.quiet before front (record { fit = fits; whole = cut ∙ taken }) in
    let many = c.quiet_in-passed.result.count in
    let there = c.quiet_in-passed.result.place in
    let weigh = length-ring (drop many front) passed.left.fit in
    record {
      quiet = passed.quiet;
      rest = omega (
        arith,
        weigh,
        ap length passed.left.whole,
        length-append before (take there run),
        length-take (place - length run) (take place bytes),
        length-take there run,
        ap length taken,
        older,
        c.run_before-run.ensures.within,
        c.quiet_in-passed.ensures.within,
      );
    }
