use Rattle.std.proofs.Common.{◌≡◌, sym, subst, arith}
use Rattle.bpf_entries.specs.Reading.{ReadsAs}
use Rattle.bpf_entries.proofs.read.values.entry_of_kind.Goals as goal

pub returns-in_default : goal.returns-in_default
returns-in_default c =
    let is : c.args.kind ≡ 12 = omega (arith, c.requires.0, c.requires.1, c.in_default) in
    subst (λ k. ReadsAs k c.args.bytes.now c.edit_pc_entry.result) (sym is) c.edit_pc_entry.ensures
