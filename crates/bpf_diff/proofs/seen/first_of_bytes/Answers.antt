use Rattle.std.proofs.Common.{◌≡◌, ◌+◌, ◌∙◌, Some, ap, arith, false, sym, true}
use Rattle.std.specs.Prelude.{◌%◌, ◌^◌}
use Rattle.bpf_origin.specs.declared.place.Place.TheVariants.{Byte}
use Rattle.bpf_diff.proofs.Leaving.{bytes-more, bytes-none, bytes-start, is-here, isnt-here, test_of}
use Rattle.bpf_diff.proofs.seen.first_of_bytes.Goals as goal

pub loop-i-init : goal.loop-i-init
loop-i-init c = bytes-start (test_of c.args.sides.now) c.args.address c.args.len

pub returns-then-is_otherwise : goal.returns-then-is_otherwise
returns-then-is_otherwise c =
    let test = test_of c.args.sides.now in
    let place = Byte ((c.args.address + c.loop-i.i) % 2 ^ 64) in
    let is : test place ≡ true = ap test (sym c.byte_from-place.ensures) ∙ sym c.is_otherwise.ensures ∙ c.if-is_otherwise.true in
    ap Some c.byte_from-place.ensures
    ∙ is-here test place _ is
    ∙ sym (bytes-more test c.args.address c.args.len c.loop-i.i c.loop-i-test.true)
    ∙ c.loop-i.invariant

pub loop-i-preserved : goal.loop-i-preserved
loop-i-preserved c =
    let test = test_of c.args.sides.now in
    let place = Byte ((c.args.address + c.loop-i.i) % 2 ^ 64) in
    let isnt : test place ≡ false = ap test (sym c.byte_from-place.ensures) ∙ sym c.is_otherwise.ensures ∙ c.if-is_otherwise.false in
    sym (isnt-here test place _ isnt)
    ∙ sym (bytes-more test c.args.address c.args.len c.loop-i.i c.loop-i-test.true)
    ∙ c.loop-i.invariant

pub returns : goal.returns
returns c =
    let fin = c.loop-i-test.false in
    let within = c.loop-i.auto.i-end in
    sym (bytes-none (test_of c.args.sides.now) (c.args.address + c.loop-i.i) _ (omega (arith, fin, within))) ∙ c.loop-i.invariant
