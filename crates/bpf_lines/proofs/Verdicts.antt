-- The verdict of a name, value by value.
use Rattle.std.proofs.Common.{◌≡◌, ◌+◌, ℕ, suc, List, ap, arith}
use Rattle.std.specs.Prelude.{if◌then◌else◌}
use Rattle.bpf_lines.specs.NamedValues.{is_verdict, verdict_below}
use Rattle.bpf_lines.specs.declared.enumerators.Enumerator.{Enumerator}
use Rattle.bpf_lines.specs.declared.enumerators.Enumerator.TheVariants.{Value}

next : (v : ℕ) → suc v ≡ v + 1
next v = omega arith

pub one_more : (name : List ℕ) (v : ℕ) → (if is_verdict v name then Value v else verdict_below name v) ≡ verdict_below name (v + 1)
one_more name v = ap (verdict_below name) (next v)
