use Rattle.std.proofs.Common.{◌∙◌, ap, sym}
use Rattle.bpf_cover.specs.Texts.{texts_of}
use Rattle.bpf_trace.proofs.Lines.{shown_are}
use Rattle.bpf_trace.proofs.Stepping.{Steps-program}
use Rattle.bpf_trace.proofs.trace.put_rows.Goals as goal

pub put_steps-taken-requires-clause-words : goal.put_steps-taken-requires-clause-words
put_steps-taken-requires-clause-words g c = record {
  texts = c.requires.texts ∙ ap texts_of (sym (Steps-program _ _ _ c.run-passed.ensures.steps));
  members = c.requires.members;
}

pub returns : goal.returns
returns g c =
    let run = rw (c.min.ensures, c.before-2.ensures) at c.run-passed.ensures in
    rw (shown_are c.args.limit c.min-most.result c.run-passed.result c.args.shown c.args.cpu.now _ run c.min-most.ensures) at c.put_steps-taken.ensures.text
