use Rattle.std.proofs.Common.{◌≡◌, ◌==◌, ◌∙◌, ℕ, Bool, false, List, [], ◌∷◌, length, sym}
use Rattle.std.specs.Borrow.{Bor}
use Rattle.bpf_turns.specs.Turned.{IsTurnFault}
use Rattle.bpf_turns.specs.declared.seats.TurnFault.{TurnFault}
use Rattle.bpf_load.specs.Faults.{LacksTurns, Unturned}
use Rattle.bpf_load.specs.Targets.{texts}
use Rattle.bpf_load.proofs.loading.turned_file.Goals as goal

-- there are some
lacks : (object section : List ℕ) (turns : List (Bor (List ℕ))) (why : TurnFault) → (length turns == 0) ≡ false
    → IsTurnFault object section (texts turns) why → LacksTurns object section (texts turns) why
lacks object section [] why some fault = absurd cc
lacks object section (turn ∷ turns) why some fault = fault

pub returns-clause-err : goal.returns-clause-err
returns-clause-err c =
    let target = c.args.target.now in
    let some = sym c.is_empty.ensures ∙ c.if-is_empty.false in
    Unturned c.args.counted.items c.requires c.in-Err.why
    (lacks c.args.counted.items target.section.now target.turns.now c.in-Err.why some (rw c.as_slice-object.ensures.value at c.in-Err.ensures.err))
    (rw c.as_slice-object.ensures.value at c.of_turns.ensures)
