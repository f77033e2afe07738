use Rattle.std.proofs.Common.{◌≡◌, ◌-◌, ◌∙◌, ◌++◌, [], List, ℕ, ap, arith, refl, sym, take}
use Rattle.counted_io.proofs.Appending.{WritesAfter-WritesAfter, WritesAfter-text}
use Rattle.bpfdb_script.proofs.Telling.{WritesAfter-nothing}
use Rattle.bpf_diff.specs.Against.{differences}
use Rattle.bpf_diff.proofs.AgainstTelling.{differences-end, differences-more, differences-none}
use Rattle.bpf_diff.proofs.against_ending.put_differences.Goals as goal

pub loop-entry-init : goal.loop-entry-init
loop-entry-init g c = λ before are. (
  [],
  ap (λ (ws : List (List ℕ)). differences before c.args.cpu.now 0 (take 12 ws)) c.of-words.ensures,
  WritesAfter-nothing g.W.Write.contents c.args.writer.now c.args.so_far,
)

pub returns-in-None : goal.returns-in-None
returns-in-None g c = λ before are.
    let done = c.loop-entry.invariant before are in
    WritesAfter-text g.W.Write.contents _ _ _ _ _ _ done.2
    (differences-none before c.args.cpu.now c.loop-entry.entry done.0
    ∙ ap (λ (ws : List (List ℕ)). done.0 ++ differences before c.args.cpu.now c.loop-entry.entry (take (12 - c.loop-entry.entry) ws)) (sym c.in-None.ensures.next)
    ∙ done.1)

pub loop-entry-preserved : goal.loop-entry-preserved
loop-entry-preserved g c = λ before are.
    let done = c.loop-entry.invariant before are in (
      _,
      differences-more before c.args.cpu.now c.loop-entry.entry done.0 c.in-Some.word.now _ c.loop-entry-test.true
          ∙ ap (λ (ws : List (List ℕ)). done.0 ++ differences before c.args.cpu.now c.loop-entry.entry (take (12 - c.loop-entry.entry) ws)) (sym c.in-Some.ensures.next)
          ∙ done.1,
      WritesAfter-WritesAfter g.W.Write.contents _ _ _ _ _ _ _ _ _ done.2 (c.put_entry-told.ensures before are) refl,
    )

pub returns : goal.returns
returns g c = λ before are.
    let done = c.loop-entry.invariant before are in
    let all : c.loop-entry.entry ≡ 12 = omega (arith, c.loop-entry-test.false, c.loop-entry.auto.entry-end) in
    WritesAfter-text g.W.Write.contents _ _ _ _ _ _ done.2
    (differences-end before c.args.cpu.now c.loop-entry.entry done.0 c.loop-entry.words all ∙ done.1)
