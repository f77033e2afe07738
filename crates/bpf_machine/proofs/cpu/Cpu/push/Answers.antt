use Rattle.std.proofs.Common.{rules, arith, ◌<◌, ◌+◌, length, subst, sym, ap}
use Rattle.bpf_isa.specs.Programs.{Checked}
use Rattle.bpf_steps.specs.Platform.{frame_count}
use Rattle.bpf_steps.specs.State.{State, IsFrame, depth}
use Rattle.bpf_machine.proofs.Fitting.{frames_more}
use Rattle.bpf_machine.proofs.cpu.Cpu.push.Goals as goal

pub invariant_of-self : goal.invariant_of-self
invariant_of-self c = record {
  start = c.self.invariant.start;
  flat = c.self.invariant.flat;
  pointer = search rules;
  shallow =
      let room : length c.self.inside.frames.items + 1 < frame_count = subst (λ (x : State). depth x + 1 < frame_count) (sym c.self.view_is) c.requires.room in
      omega (arith, room, c.push.ensures.len);
  framed =
      frames_more c.self.inside.program c.self.inside.frames.items c.push.new.self.items c.call_frame-frame.result c.push.ensures.items c.self.invariant.framed
      (subst (λ (program : Checked). IsFrame program c.call_frame-frame.result) (sym (ap (λ (x : State). x.program) c.self.view_is)) c.call_frame-frame.ensures.frame);
  mapped = c.self.invariant.mapped;
}
