use Rattle.std.proofs.Common.{◌≡◌, ◌++◌, ℕ, List, append_assoc, codes, decimal, refl}
use Rattle.counted_io.proofs.Appending.{Writes-text}
use Rattle.bpf_suite.specs.Contexts.{context_text}
use Rattle.bpf_suite.specs.Outcomes.{outcome_text}
use Rattle.bpf_suite.specs.Reports.{cells_text, diagnosis, show_line, wanted}
use Rattle.bpf_suite.specs.Tests.{first_line, title}
use Rattle.bpf_suite.specs.Verdicts.{wrong_cells}
use Rattle.bpf_suite.proofs.report.put_diagnosis.Goals as goal

-- the parts of the lines, one behind the other
in_line : (front begun came word want left cells show : List ℕ)
    → ((((((front ++ begun) ++ came) ++ word) ++ want) ++ left) ++ cells) ++ show ≡ front ++ (begun ++ came ++ word ++ want ++ left ++ cells ++ show)
in_line front begun came word want left cells show = simp append_assoc refl

pub returns : goal.returns
unfolding diagnosis
returns g c = λ first front known.
    let test = c.args.test.now in
    let outcome = c.args.outcome.now in
    let begun = rw (c.first_line-line.ensures, c.sections-sections.ensures) at
    (c.put_all-begun.ensures first front known) in
    let told = c.put_outcome-told.ensures first _ begun in
    let followed = c.put-followed.ensures first _ told in
    let said = c.put_wanted-said.ensures first _ followed in
    let left = c.put_context-left.ensures first _ said in
    let celled = c.put_cells-celled.ensures _ c.requires first _ left in
    let shown = rw (c.title.ensures, c.sections-sections.ensures) at (c.put_show_line.ensures first _ celled) in
    Writes-text g.W.Write.contents _ _ _ _ _ shown
    (in_line front (codes "# the test in line " ++ decimal (first_line test) ++ codes "\n# came: ") (outcome_text outcome) (codes "\n# wanted: ") (wanted test)
    (context_text test outcome) (cells_text (wrong_cells test outcome) outcome) (show_line c.args.file.now (title test)))
