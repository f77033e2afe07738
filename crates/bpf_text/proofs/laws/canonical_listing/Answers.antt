-- What holds of a checked program gives the law.
use Rattle.bpf_text.proofs.CanonicalLaw.{canonical-listing}
use Rattle.bpf_text.proofs.laws.canonical_listing.Goals as goal

pub returns : goal.returns
returns c = canonical-listing c.args.program.now c.invariant.ensures
