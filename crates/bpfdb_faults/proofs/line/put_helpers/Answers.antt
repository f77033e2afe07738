use Rattle.std.proofs.Common.{◌≡◌, ◌++◌, ℕ, List, append_assoc, codes, refl}
use Rattle.counted_io.proofs.Appending.{Writes-text}
use Rattle.bpf_link.specs.Helpers.{helper_name}
use Rattle.bpfdb_faults.specs.Faults.{answer_text, label_text, others_text}
use Rattle.bpfdb_faults.proofs.line.put_helpers.Goals as goal

-- the parts, one behind the other
in_line : (front blank label others answer : List ℕ)
    → (((front ++ blank) ++ label) ++ others) ++ answer ≡ front ++ (blank ++ label ++ others ++ answer)
in_line front blank label others answer = simp append_assoc refl

pub returns : goal.returns
returns g c = λ first front known.
    let name = helper_name c.args.helper in
    let begun = c.put-begun.ensures first front known in
    let named = c.put_label-named.ensures first _ begun in
    let listed = c.put_others-listed.ensures first _ named in
    Writes-text g.E.Write.contents _ _ _ _ _ (c.put_answer.ensures first _ listed)
    (in_line front (codes " ") (label_text c.args.helper name) (others_text c.args.others.now) (answer_text c.args.helper name))
