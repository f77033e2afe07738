use Rattle.std.proofs.Common.{◌∙◌, sym, arith}
use Rattle.std.proofs.lemmas.List.{take_rest}
use Rattle.bpf_suite.proofs.Patterns.{fits-no, fits-yes}
use Rattle.bpf_suite.proofs.body.fits.Goals as goal

pub returns-else-fits_byte : goal.returns-else-fits_byte
returns-else-fits_byte c =
    sym (sym c.loop-byte.invariant ∙ fits-no c.loop-byte.rest.now c.args.bytes.now c.loop-byte.byte-index (omega arith) (sym c.if-fits_byte.ensures.value))

pub loop-byte-preserved : goal.loop-byte-preserved
loop-byte-preserved c =
    rw (take_rest c.loop-byte.rest.now 2)
    (sym (fits-yes c.loop-byte.rest.now c.args.bytes.now c.loop-byte.byte-index (omega arith) (sym c.if-fits_byte.ensures.value)) ∙ c.loop-byte.invariant)
