use Rattle.std.proofs.Common.{◌≡◌, ◌∙◌, take, ap, sym, subst, false}
use Rattle.std.proofs.lemmas.List.{take_at}
use Rattle.bpf_entries.specs.declared.entry.Entry.{Entry}
use Rattle.bpf_entries.specs.Fields.{FitsFields}
use Rattle.bpf_entries.specs.Texts.{text}
use Rattle.bpf_entries.proofs.Texts.{length-text, weight_low}
use Rattle.bpf_machine.proofs.Fields.{come_fits}
use Rattle.bpf_machine.proofs.cpu.Cpu.revert.Goals as goal

pub write-weight-requires-clause-fits : goal.write-weight-requires-clause-fits
write-weight-requires-clause-fits c = come_fits _ _ c.requires c.is_typed.ensures

pub write-weight-requires-clause-room : goal.write-weight-requires-clause-room
write-weight-requires-clause-room c = weight_low _ (come_fits _ _ c.requires c.is_typed.ensures)

pub revert_text-requires : goal.revert_text-requires
revert_text-requires c =
    let e = c.args.entry.now in
    let fits = come_fits _ e c.requires c.is_typed.ensures in
    record {
      entry = e;
      mark = false;
      come = c.requires;
      fits = fits;
      held = ap (take c.write-weight.result) c.write-weight.ensures.text ∙ take_at (text e false) _ c.write-weight.result (length-text e false fits ∙ sym c.write-weight.ensures.weight);
    }

pub returns : goal.returns
returns c = λ x m leads is.
    let e = c.args.entry.now in
    let fits = come_fits _ e c.requires c.is_typed.ensures in
    let held : take c.write-weight.result c.write-weight.new.room ≡ text e false =
    ap (take c.write-weight.result) c.write-weight.ensures.text ∙ take_at (text e false) _ c.write-weight.result (length-text e false fits ∙ sym c.write-weight.ensures.weight) in
    c.revert_text.ensures x m false leads (subst FitsFields (sym is) fits) (held ∙ ap (λ (f : Entry). text f false) (sym is))
