-- The machine of a bench stands on the words that its tests share.
use Rattle.std.proofs.Common.{ℕ, ◌≡◌, Bool, true, false, List, Option, Result, Ok, Err, sym, ◌∙◌}
use Rattle.bpf_text.proofs.Assembling.{one-assembly}
use Rattle.bpf_text.specs.declared.fault.AsmFault.{AsmFault}
use Rattle.bpf_suite.specs.Benches.{IsBench}
use Rattle.bpf_suite.specs.Outcomes.{HasWords, Outcome}
use Rattle.bpf_suite.specs.Stocks.{StandsOn}
use Rattle.bpf_suite.specs.Tests.{has_listing, program}
use Rattle.bpf_suite.specs.declared.cells.CellLine.{CellLine}
use Rattle.bpf_suite.specs.declared.image.Image.{Image}
use Rattle.bpf_suite.specs.declared.section.Section.{Section}

-- a program has one list of words
same-words : (listing : Bool) (program a b : List ℕ) → HasWords listing program a → HasWords listing program b → a ≡ b
same-words false program a b one other = one ∙ sym other
same-words true program a b one other = one-assembly.bytes program a b one other

-- the machine of a bench stands on its words
pub stands-on : (shared : List Section) (words : Result (List ℕ) AsmFault) (after : List CellLine) (kept : Image)
    (before : Option (List ℕ)) (machine : Outcome) → IsBench shared words after kept before machine → StandsOn words machine
stands-on shared (Ok those) after kept before (Ok x) bench = same-words (has_listing shared) (program shared) _ _ bench.loads.words bench.reads
stands-on shared (Err fault) after kept before (Ok x) bench = tt
stands-on shared words after kept before (Err refusal) bench = tt
