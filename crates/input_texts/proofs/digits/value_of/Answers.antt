use Rattle.input_texts.proofs.DigitValues.{VALUES-at}
use Rattle.input_texts.proofs.digits.value_of.Goals as goal

pub returns : goal.returns
returns c = VALUES-at c.args.digit c.ranges.digit.fits
