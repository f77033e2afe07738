use Rattle.std.proofs.Common.{◌≡◌, drop}
use Rattle.bpf_suite.specs.Bodies.{fits}
use Rattle.bpf_suite.proofs.body.fits.Given as goal

abbrev pub invariant-loop-byte : goal.invariant-loop-byte
invariant-loop-byte l = fits l.rest (drop l.byte-index l.bytes) ≡ fits l.digits l.bytes
