use Rattle.std.proofs.Common.{◌≡◌, ◌∙◌, ap, refl, subst}
use Rattle.counted_io.proofs.Appending.{Writes-none}
use Rattle.bpf_journal.specs.Tracks.{CourseValue, track_of}
use Rattle.bpf_ring.specs.declared.keeper.RingKeeper.{RingKeeper}
use Rattle.bpf_steps.specs.State.{State}
use Rattle.bpf_whynot.specs.Branches.{AreBranches}
use Rattle.bpf_whynot.proofs.Finding.{all_again}
use Rattle.bpf_whynot.proofs.branch_text.find_branches.Goals as goal

pub open-course-requires : goal.open-course-requires
open-course-requires c = record { past = c.close-cpu.ensures.history; empty = c.in-Ok.ensures.empty; size = c.in-Ok.ensures.room ∙ c.capacity.ensures }

pub returns-in-Ok-written : goal.returns-in-Ok-written
returns-in-Ok-written c = λ h stands.
    let pair = c.close-cpu.ensures.same in
    let machine = ap (λ (p : State × RingKeeper). p.0) pair in
    let ring = ap (λ (p : State × RingKeeper). p.1) pair in
    let begins : c.open-course.result.state ≡ c.args.timeline.state = ap (λ (v : CourseValue RingKeeper). v.state) c.open-course.ensures.value ∙ machine in
    let follows = c.open-course.ensures.stands h (rw (machine, ring) stands) in
    let tells = c.in-Ok-put_branches.ensures.tells (track_of h) follows in
    let again = c.go_on-left.ensures.stands (track_of h) c.open-course.result.state follows.history.1 tells.within tells.back in
    let there = all_again c.go_on-left.result h c.open-course.result.state c.go_on-left.new.course (c.go_on-left.ensures.left.none (λ keeper. refl)) again in
    let last = c.close-cpu-in-Ok-written.ensures.same in
    let state = c.open-in-Ok-written.ensures.state ∙ ap (λ (p : State × RingKeeper). p.0) last in
    let keeper = c.open-in-Ok-written.ensures.keeper ∙ ap (λ (p : State × RingKeeper). p.1) last in
    let written = rw c.in-Ok-written.is at (tells.text _ _ (Writes-none _ c.new-writer.result _)) in
    record {
      answer = tells.answer;
      is = subst (λ (x : State). AreBranches c.args.question c.args.parts.now h x tells.answer) begins tells.is;
      text = rw c.into_inner.ensures (rw (c.new-writer.ensures, c.new.ensures.items) at written.ok);
      extent = tells.extent;
      state = state ∙ there.at ∙ begins;
      stands = rw (keeper, state) there.on.history;
    }
