use Rattle.std.proofs.Common.{length-drop, refl, sym, arith}
use Rattle.std.proofs.lemmas.List.{take_rest}
use Rattle.bpf_suite.proofs.Patterns.{fitting-no, fitting-yes}
use Rattle.bpf_suite.proofs.contexts.fitting.Goals as goal

pub returns-else-fits_byte-clause-value : goal.returns-else-fits_byte-clause-value
returns-else-fits_byte-clause-value c =
    let none = fitting-no c.loop-byte.rest.now c.args.bytes.now c.loop-byte.byte-index (omega arith) (sym c.if-fits_byte.ensures.value) in
    omega (arith, c.loop-byte.invariant.0, none)

pub loop-byte-preserved : goal.loop-byte-preserved
loop-byte-preserved c =
    let rest = c.loop-byte.rest.now in
    let next = fitting-yes rest c.args.bytes.now c.loop-byte.byte-index (omega arith) (sym c.if-fits_byte.ensures.value) in
    rw (take_rest rest 2) (
      omega (arith, c.loop-byte.invariant.0, next),
      omega (arith, c.loop-byte.invariant.1),
      omega (arith, c.loop-byte.invariant.2, length-drop 2 rest, c.if-fits_byte.ensures.long refl),
    )
