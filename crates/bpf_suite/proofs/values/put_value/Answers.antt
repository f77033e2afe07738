use Rattle.std.proofs.Common.{sym, ◌∙◌}
use Rattle.bpf_suite.proofs.values.put_value.Goals as goal

pub returns-in-Some : goal.returns-in-Some
returns-in-Some g c = λ first front known.
    rw (sym c.cell_size.ensures.value ∙ c.in-Some.is)
    (rw (c.cell_address.ensures, c.get.ensures.value) at (c.put_bytes.ensures first front known))

pub returns-in-None : goal.returns-in-None
returns-in-None g c = λ first front known. rw (sym c.cell_size.ensures.value ∙ c.in-None.is) (c.put.ensures first front known)
