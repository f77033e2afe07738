use Rattle.std.proofs.Common.{ℕ, ◌≡◌, ◌++◌, Bool, true, false, List, append_assoc, codes}
use Rattle.counted_io.proofs.Appending.{Writes-text}
use Rattle.bpf_link.specs.Helpers.{helper_name}
use Rattle.bpfdb_faults.specs.Faults.{label_text, other_text}
use Rattle.bpfdb_faults.proofs.line.put_other.Goals as goal

-- a helper that is one of the others
shown : (is_other : Bool) (helper : ℕ) (front : List ℕ) → is_other ≡ true
    → (front ++ codes ", ") ++ label_text helper (helper_name helper) ≡ front ++ other_text is_other helper
shown true helper front is = append_assoc front (codes ", ") (label_text helper (helper_name helper))
shown false helper front is = cc

pub returns : goal.returns
returns g c = λ first front known.
    Writes-text g.E.Write.contents _ _ _ _ _ (c.put_label.ensures first _ (c.put-begun.ensures first front known))
    (shown c.args.is_other c.args.helper front c.if-not-is_other.false)
