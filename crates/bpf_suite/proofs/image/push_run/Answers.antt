use Rattle.std.proofs.Common.{sym}
use Rattle.bpf_suite.proofs.Images.{holds-pushed, not-shown}
use Rattle.bpf_suite.proofs.image.push_run.Goals as goal

pub returns-in-Some : goal.returns-in-Some
returns-in-Some c =
    holds-pushed c.args.cpu.now c.args.runs.now.items c.push_bytes.new.runs.items c.args.address c.args.n c.in-Some.bytes.now c.push_bytes.result
    c.requires.0 c.requires.1 c.in-Some.ensures.fits c.in-Some.ensures.value c.push_bytes.ensures

pub returns-in-None : goal.returns-in-None
returns-in-None c = λ maps bytes j shows found fits h.
    absurd (not-shown c.args.cpu.now maps bytes c.args.address c.args.n j shows c.requires.0 c.requires.1 (sym c.in-None.ensures.value) found)
