use Rattle.std.proofs.Common.{◌≡◌, ◌∙◌, ℕ, ap, false, sym}
use Rattle.input_texts.specs.TraceForms.{is_told}
use Rattle.bpf_diff.specs.Against.{entry}
use Rattle.bpf_diff.proofs.against_ending.put_entry.Goals as goal

pub returns-else-is_told : goal.returns-else-is_told
returns-else-is_told g c = λ before are.
    let isnt : is_told (entry c.args.cpu.now c.args.entry) c.args.word.now ≡ false =
    ap (λ (n : ℕ). is_told n c.args.word.now) (sym c.entry_in.ensures) ∙ sym c.is_told.ensures ∙ c.if-is_told.false in
    rw isnt (c.put_difference.ensures before are)
