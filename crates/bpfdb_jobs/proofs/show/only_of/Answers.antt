use Rattle.std.proofs.Common.{◌≡◌, List, [], ◌∷◌, length, get_or, sym, ap, arith}
use Rattle.bpf_suite.specs.declared.section.Section.{Section}
use Rattle.bpfdb_jobs.proofs.show.only_of.Goals as goal

-- The only one of a list is its first.
only_one : (ts : List (List Section)) (t : List Section) → length ts ≡ 1 → ((d : List Section) → t ≡ get_or ts 0 d) → ts ≡ t ∷ []
only_one [] t one at = absurd (omega (arith, one))
only_one (x ∷ []) t one at = ap (λ (u : List Section). u ∷ []) (sym (at []))
only_one (x ∷ y ∷ ts) t one at = absurd (omega (arith, one))

pub returns-then-len-eq1-clause-one : goal.returns-then-len-eq1-clause-one
returns-then-len-eq1-clause-one c = only_one c.args.tests.now c.at.result (omega (arith, c.len.ensures, c.if-len-eq1.true)) c.at.ensures
