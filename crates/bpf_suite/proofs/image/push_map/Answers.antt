use Rattle.std.proofs.Common.{ℕ, ◌≡◌, ◌≤◌, ◌+◌, ◌-◌, ◌*◌, ◌%◌, take, refl, subst, arith}
use Rattle.bpf_steps.specs.Regions.{map_len, maps_len}
use Rattle.bpf_suite.specs.Images.{Holds}
use Rattle.bpf_suite.proofs.Images.{short-run}
use Rattle.bpf_suite.proofs.image.push_map.Goals as goal

pub loop-run-preserved : goal.loop-run-preserved
loop-run-preserved c = λ maps bytes shape shows here long h.
    let map = c.args.map in
    let run = c.loop-run.run in
    let before = maps_len (take map maps) in
    let fits : 256 * run + 256 ≤ map_len shape = omega (arith, long, c.loop-run-test.true) in
    let there = short-run maps map (256 * run) 256 (12884901888 + 1048576 * map + 256 * run) before shape shows.short here refl (omega arith) fits (omega arith) in
    let more : before + 256 * run + 256 ≡ before + 256 * (run + 1) = omega arith in
    subst (λ (n : ℕ). Holds maps bytes c.push_run.new.runs.items n) more
    (c.in_ok-push_run.ensures maps bytes (before + 256 * run) shows there.0 there.1 (c.loop-run.invariant maps bytes shape shows here long h))

pub returns-in_ok-push_run-2 : goal.returns-in_ok-push_run-2
returns-in_ok-push_run-2 c = λ maps bytes shape shows here long h.
    let map = c.args.map in
    let len = c.args.len in
    let before = maps_len (take map maps) in
    let last : before + 256 * c.loop-run.run ≡ before + (len - len % 256) = omega (arith, c.loop-run.auto.run-end, c.loop-run-test.false) in
    let there = short-run maps map (len - len % 256) (len % 256) (12884901888 + 1048576 * map + (len - len % 256)) before shape shows.short here refl c.if-rest-gt0.true
    (omega (arith, long)) (omega arith) in
    let whole : before + (len - len % 256) + len % 256 ≡ before + len = omega arith in
    subst (λ (n : ℕ). Holds maps bytes c.push_run-then-rest-gt0.new.runs.items n) whole
    (c.in_ok-push_run-2.ensures maps bytes (before + (len - len % 256)) shows there.0 there.1
    (subst (λ (n : ℕ). Holds maps bytes c.loop-run.runs.items n) last (c.loop-run.invariant maps bytes shape shows here long h)))

pub returns-else-rest-gt0 : goal.returns-else-rest-gt0
returns-else-rest-gt0 c = λ maps bytes shape shows here long h.
    let before = maps_len (take c.args.map maps) in
    let whole : before + 256 * c.loop-run.run ≡ before + c.args.len = omega (arith, c.loop-run.auto.run-end, c.loop-run-test.false, c.if-rest-gt0.false) in
    subst (λ (n : ℕ). Holds maps bytes c.loop-run.runs.items n) whole (c.loop-run.invariant maps bytes shape shows here long h)
