use Rattle.std.proofs.Common.{◌≡◌, ◌++◌, ℕ, List, append_assoc, codes, refl}
use Rattle.counted_io.proofs.Appending.{Writes-text}
use Rattle.bpf_suite.specs.Bodies.{trimmed}
use Rattle.bpf_suite.specs.Reports.{cell_name, cell_text, value_text}
use Rattle.bpf_suite.proofs.values.put_cell.Goals as goal

-- the parts of both lines, one behind the other
in_line : (front begun value name wanted pattern end : List ℕ)
    → ((front ++ begun) ++ value) ++ (name ++ wanted ++ pattern ++ end) ≡ front ++ (begun ++ value ++ name ++ wanted ++ pattern ++ end)
in_line front begun value name wanted pattern end = simp append_assoc refl

pub returns : goal.returns
unfolding cell_text
returns g c = λ first front known.
    let line = c.args.line.now in
    let begun = c.put_all-begun.ensures first front known in
    let told = c.put_value-told.ensures first _ begun in
    let said = rw (c.trimmed-pattern.ensures, c.text.ensures) at (c.put_all.ensures first _ told) in
    Writes-text g.W.Write.contents _ _ _ _ _ said
    (in_line front (cell_name line ++ codes " came: ") (value_text c.args.cpu.now line.map line.index) (cell_name line) (codes " wanted: ")
    (trimmed line.digits) (codes "\n"))
