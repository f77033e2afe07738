use Rattle.bpf_remote.proofs.OriginTexts.{with-names, without-names}
use Rattle.bpf_remote.proofs.origin.show_answered.Goals as goal

pub returns-in-Some-Ok-clause-shows : goal.returns-in-Some-Ok-clause-shows
returns-in-Some-Ok-clause-shows g c =
    let s = c.show_named.ensures in
    rw (c.in-Some-Ok.is-0, c.in-Some-Ok.is-1) (s.0, s.1, s.2, with-names c.in-Some-Ok.names c.args.answered.text.items _ (rw c.as_slice-text.ensures.value at s.3), s.4)

pub returns-in_default-clause-shows : goal.returns-in_default-clause-shows
returns-in_default-clause-shows g c =
    let s = c.show_text.ensures in
    (s.0, s.1, s.2, without-names c.args.answered.written c.args.names c.args.answered.text.items _ (rw c.as_slice-text.ensures.value at s.3), s.4)
