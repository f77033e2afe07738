use Rattle.std.proofs.Common.{◌∙◌, ◌%◌, ◌&&◌, get_or, sym, ap, arith}
use Rattle.bpf_suite.specs.Bodies.{fits_digit}
use Rattle.bpf_suite.proofs.Patterns.{fits_byte-long, fits_byte-short}
use Rattle.bpf_suite.proofs.body.fits_byte.Goals as goal

pub returns-in_default-clause-value : goal.returns-in_default-clause-value
returns-in_default-clause-value c = sym (fits_byte-short c.args.digits.now c.args.byte (omega (arith, c.in_default.len_below)))

pub returns-then-fits_digit-clause-value : goal.returns-then-fits_digit-clause-value
returns-then-fits_digit-clause-value c =
    let digits = c.args.digits.now in
    c.fits_digit-then-fits_digit.ensures
    ∙ sym (fits_byte-long digits c.args.byte (omega (arith, c.in-len2-up.len_at_least))
    ∙ ap (λ b. b && fits_digit (get_or digits 1 0) (c.args.byte % 16)) (sym c.if-fits_digit.ensures))

pub returns-else-fits_digit-clause-value : goal.returns-else-fits_digit-clause-value
returns-else-fits_digit-clause-value c =
    let digits = c.args.digits.now in
    c.if-fits_digit.false
    ∙ sym (fits_byte-long digits c.args.byte (omega (arith, c.in-len2-up.len_at_least))
    ∙ ap (λ b. b && fits_digit (get_or digits 1 0) (c.args.byte % 16)) (sym c.if-fits_digit.ensures))
