use Rattle.std.proofs.Common.{ℕ, ◌≡◌, List, Some, sym, ap, ◌∙◌}
use Rattle.std.specs.Option.{option_and_then, option_map}
use Rattle.bpf_suite.specs.Bodies.{number_of}
use Rattle.bpf_suite.specs.Cells.{line_of}
use Rattle.bpf_suite.specs.declared.cells.CellLine.{CellLine}
use Rattle.bpf_suite.proofs.cells.line_of.Goals as goal

abbrev line : ℕ → List ℕ → ℕ → CellLine
line map digits index = record { map = map; index = index; digits = digits }

-- by the first number, then by the second
first : (map index digits : List ℕ) (m : ℕ) → number_of map ≡ Some m → line_of map index digits ≡ option_map (line m digits) (number_of index)
first map index digits m e = ap (option_and_then (λ n. option_map (line n digits) (number_of index))) e

pub returns : goal.returns
returns c =
    let m = c.in_ok-map.map in
    let digits = c.args.digits.now in
    sym (first c.args.map.now c.args.index.now digits m (sym c.number_of.ensures ∙ c.in_ok-map.was)
    ∙ ap (option_map (line m digits)) (sym c.number_of-2.ensures ∙ c.in_ok-index.was))

pub returns-in_err-index : goal.returns-in_err-index
returns-in_err-index c =
    let m = c.in_ok-map.map in
    let digits = c.args.digits.now in
    c.from_residual-in_err-index.ensures
    ∙ sym (first c.args.map.now c.args.index.now digits m (sym c.number_of.ensures ∙ c.in_ok-map.was)
    ∙ ap (option_map (line m digits)) (sym c.number_of-2.ensures ∙ c.in_err-index.was))
