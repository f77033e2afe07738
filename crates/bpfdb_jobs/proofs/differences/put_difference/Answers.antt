use Rattle.std.proofs.Common.{◌≡◌, ◌++◌, List, ℕ, append_assoc, codes, refl}
use Rattle.counted_io.proofs.Appending.{Writes-text}
use Rattle.bpfdb_script.specs.Shown.{shown}
use Rattle.bpfdb_jobs.proofs.differences.put_difference.Goals as goal

-- the parts, one behind the other
in_line : (front begun text ended : List ℕ) → ((front ++ begun) ++ text) ++ ended ≡ front ++ (begun ++ text ++ ended)
in_line front begun text ended = simp append_assoc refl

pub returns-in-Some : goal.returns-in-Some
returns-in-Some g c = λ first front known.
    let begun = c.put-begun.ensures first front known in
    let named = c.put_shown-shown.ensures first _ begun in
    rw c.in-Some.is
    (Writes-text g.W.Write.contents _ _ _ _ _ (c.put.ensures first _ named)
    (in_line front (codes "other than Linux: ") (shown c.in-Some.text.now) (codes "\n")))
