use Rattle.std.proofs.Common.{◌≡◌, ◌∙◌, [], length, ap, sym, subst, arith}
use Rattle.std.proofs.lemmas.List.{append-nil}
use Rattle.bpf_entries.specs.declared.entry.Entry.{Entry}
use Rattle.bpf_entries.specs.Fields.{FitsFields}
use Rattle.bpf_entries.specs.Texts.{kind, text}
use Rattle.bpf_entries.specs.Weights.{weight}
use Rattle.bpf_entries.proofs.Texts.{kind_high, length-text, read_whole}
use Rattle.bpf_machine.specs.Moves.{overwritten}
use Rattle.bpf_machine.specs.Undoing.{undone, read_as, Restores}
use Rattle.bpf_machine.proofs.Restoring.{restores}
use Rattle.bpf_machine.proofs.Undoing.{undoing}
use Rattle.bpf_machine.proofs.cpu.Cpu.revert_text.Goals as goal

pub undo-requires-clause-kind : goal.undo-requires-clause-kind
undo-requires-clause-kind c =
    let e = c.requires.entry in
    let is : c.kind_of.result ≡ kind e = c.kind_of.ensures e c.requires.mark [] (c.requires.held ∙ sym (append-nil (text e c.requires.mark))) in
    let range = kind_high e in
    (omega (arith, is, range.0), omega (arith, is, range.1))

pub undo-requires-clause-reads : goal.undo-requires-clause-reads
undo-requires-clause-reads c =
    let e = c.requires.entry in
    let mark = c.requires.mark in
    let fits = c.requires.fits in
    let held = c.requires.held in
    let is : c.kind_of.result ≡ kind e = c.kind_of.ensures e mark [] (held ∙ sym (append-nil (text e mark))) in
    let whole : read_as c.kind_of.result c.args.bytes.now ≡ e = read_whole e mark c.kind_of.result c.args.bytes.now fits held is in
    record {
      fits = subst FitsFields (sym whole) fits;
      count = ap length held ∙ length-text e mark fits ∙ ap weight (sym whole);
      restores = subst (Restores c.args.self.now) (sym whole) (restores c.args.self.now e c.requires.come);
    }

pub returns : goal.returns
returns c = λ x m mark leads fits h.
    let e = overwritten x m in
    let is : c.kind_of.result ≡ kind e = c.kind_of.ensures e mark [] (h ∙ sym (append-nil (text e mark))) in
    let whole : read_as c.kind_of.result c.args.bytes.now ≡ e = read_whole e mark c.kind_of.result c.args.bytes.now fits h is in
    c.undo.ensures ∙ ap (λ (f : Entry). undone f c.args.self.now) whole ∙ undoing x m c.args.self.now leads
