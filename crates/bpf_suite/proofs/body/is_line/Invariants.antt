use Rattle.std.proofs.Common.{◌≡◌, length}
use Rattle.bpf_suite.specs.Bodies.{is_line}
use Rattle.std.specs.Prelude.{not}
use Rattle.std.specs.List.{list_all}
use Rattle.bpfdb_script.specs.Shown.{steers}
use Rattle.bpf_suite.proofs.body.is_line.Given as goal

-- What is left of the characters decides.
abbrev pub invariant-chars : goal.invariant-chars
invariant-chars l = list_all (λ c. not (steers c)) l.chars ≡ is_line l.fn.text

abbrev pub decreases-chars : goal.decreases-chars
decreases-chars l = length l.chars
