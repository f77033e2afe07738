use Rattle.std.proofs.Common.{inl, inr, refl}
use Rattle.bpf_link.proofs.linker.link_with.Goals as goal

pub returns-in-Err-clause-err : goal.returns-in-Err-clause-err
returns-in-Err-clause-err c = inl c.in-Err.ensures.err

pub returns-in-Err-fields_as_compiled-clause-err : goal.returns-in-Err-fields_as_compiled-clause-err
returns-in-Err-fields_as_compiled-clause-err c =
    inr (c.in-Ok.linked, c.in-Ok.ensures.ok, inl c.in-Err-fields_as_compiled.ensures.err)

pub returns-in-Err-with_context-clause-err : goal.returns-in-Err-with_context-clause-err
returns-in-Err-with_context-clause-err c =
    inr (c.in-Ok.linked, c.in-Ok.ensures.ok, inr c.in-Err-with_context.ensures.err)

pub returns-in-Ok-with_context-clause-ok : goal.returns-in-Ok-with_context-clause-ok
returns-in-Ok-with_context-clause-ok c = record {
  own = c.in-Ok.linked;
  linked = c.in-Ok.ensures.ok;
  rest = refl;
  left = c.in-Ok-fields_as_compiled.ensures.ok;
  words = c.in-Ok-with_context.ensures.ok;
}
