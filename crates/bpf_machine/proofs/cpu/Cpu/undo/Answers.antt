use Rattle.std.proofs.Common.{◌≡◌, ◌∙◌, ℕ, ap, sym, subst, arith}
use Rattle.bpf_machine.specs.Undoing.{undone, read_as, RestoresText}
use Rattle.bpf_machine.proofs.cpu.Cpu.undo.Goals as goal

pub undo_edit_pc-requires : goal.undo_edit_pc-requires
undo_edit_pc-requires c =
    let is : c.args.kind ≡ 12 = omega (arith, c.requires.kind.0, c.requires.kind.1, c.in_default) in
    subst (λ (k : ℕ). RestoresText c.args.self.now k c.args.bytes.now) is c.requires.reads

pub returns-in_default : goal.returns-in_default
returns-in_default c =
    let is : c.args.kind ≡ 12 = omega (arith, c.requires.kind.0, c.requires.kind.1, c.in_default) in
    c.undo_edit_pc.ensures ∙ ap (λ (k : ℕ). undone (read_as k c.args.bytes.now) c.args.self.now) (sym is)
