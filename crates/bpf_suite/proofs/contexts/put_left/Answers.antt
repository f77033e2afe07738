use Rattle.std.proofs.Common.{sym, ◌∙◌}
use Rattle.bpf_suite.proofs.contexts.put_left.Goals as goal

pub returns-in-Some : goal.returns-in-Some
returns-in-Some g c = λ first front known.
    let found = rw c.sections.ensures at (sym c.section.ensures ∙ c.in-Some.is) in
    rw found
    (rw (
      c.context_after-bytes.ensures,
      c.digits-digits.ensures,
      c.context-context.ensures,
      c.place.ensures,
      c.place-in-Some.ensures,
      found,
    ) at (c.put_unfit.ensures first front known))

pub returns-in-None : goal.returns-in-None
returns-in-None g c = λ first front known.
    let found = rw c.sections.ensures at (sym c.section.ensures ∙ c.in-None.is) in
    rw found (c.put.ensures first front known)
