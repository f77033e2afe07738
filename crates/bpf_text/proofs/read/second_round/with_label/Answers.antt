-- The distance, and then the instruction with it.
use Rattle.std.proofs.Common.{◌∙◌, ap, sym, w32, SFits}
use Rattle.std.proofs.lemmas.Int.{to_z-of_z}
use Rattle.bpf_text.specs.Scaffolding.Rounds.{with_distance, with_label}
use Rattle.bpf_text.proofs.read.second_round.with_label.Goals as goal

pub returns-in-Some : goal.returns-in-Some
returns-in-Some c =
    let fits : SFits w32 c.distance_to.result = record { sfits = c.distance_to.type_inv } in
    c.with_distance.ensures
    ∙ ap (with_distance c.args.insn) (to_z-of_z w32 c.distance_to.result fits ∙ c.distance_to.ensures)
    ∙ sym (ap (with_label c.args.slot c.args.insn) c.in-Some.is)
