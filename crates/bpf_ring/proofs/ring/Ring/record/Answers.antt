use Rattle.std.proofs.Common.{◌≡◌, ◌∙◌, ◌++◌, length, take, ap, sym}
use Rattle.std.proofs.lemmas.List.{take_at}
use Rattle.bpf_entries.specs.Texts.{text}
use Rattle.bpf_entries.proofs.Texts.{length-text}
use Rattle.bpf_steps.specs.Entries.{step_entry}
use Rattle.bpf_ring.proofs.ring.Ring.record.Goals as goal

pub returns : goal.returns
returns c =
    let entry = step_entry c.args.cpu.now in
    let w = c.args.weight in
    let m = c.args.mark in
    let count : length (text entry m) ≡ w = length-text entry m c.requires.can.entry ∙ sym c.requires.can.weight in
    let written : take w c.record.new.room ≡ text entry m = ap (take w) c.record.ensures.text ∙ take_at (text entry m) _ w count in
    record {
      next = c.record.ensures.next;
      size = c.push.ensures.size;
      bytes = c.push.ensures.bytes ∙ ap (λ t. c.args.self.now.bytes ++ t) written;
    }
