use Rattle.std.proofs.Common.{◌<◌, ◌≤◌, ◌^◌, ℕ, List, length, ap, sym, ◌∙◌, subst, arith, length-take}
use Rattle.std.specs.Prelude.{All}
use Rattle.std.proofs.lemmas.List.Elements.{All-take}
use Rattle.bpf_steps.specs.Platform.{trace_limit}
use Rattle.bpf_steps.specs.State.{State}
use Rattle.bpf_machine.proofs.cpu.Cpu.invariant.Goals as goal

pub returns : goal.returns
returns c = rw (← c.self.view_is) (record {
  checked = c.invariant.ensures;
  start = c.self.invariant.start;
  ten = let count = c.are_registers.ensures.count in omega (arith, length-take 10 c.self.inside.registers, count);
  numbers = All-take (λ (number : ℕ). number < 2 ^ 64) 10 c.self.inside.registers c.are_registers.ensures.range;
  shallow = c.self.invariant.shallow;
  framed = c.self.invariant.framed;
  image = c.invariant-2.ensures.image;
  mapped = c.self.invariant.mapped;
  bytes = c.invariant-2.ensures.bytes;
  traced = let traces : State → List ℕ = λ x. x.trace in subst (λ (ws : List ℕ). length ws ≤ trace_limit) (c.trace.ensures.value ∙ sym (ap traces c.self.view_is)) c.trace.ensures.fits;
  words = let traces : State → List ℕ = λ x. x.trace in subst (λ (ws : List ℕ). All (λ word. word < 2 ^ 64) ws) (c.trace.ensures.value ∙ sym (ap traces c.self.view_is)) c.are_words.ensures;
  ends = c.invariant-3.ensures;
})
