use Rattle.std.proofs.Common.{◌≡◌, ◌<◌, ℕ, subst, sym}
use Rattle.std.specs.Prelude.{slice_set}
use Rattle.bpf_opening.proofs.Values.{edit-made}
use Rattle.bpf_opening.proofs.machine.set.Goals as goal

pub returns-in-Some : goal.returns-in-Some
returns-in-Some c =
    let x = c.args.cpu.now in
    let y = c.edit-done.new.self in
    let few : c.in-Some.register < 10 = subst (λ (r : ℕ). r < 10) (sym c.in-Some.ensures.value) c.requires in
    subst (λ (r : ℕ). y ≡ record x { registers = slice_set x.registers r c.args.value }) c.in-Some.ensures.value
    (edit-made x y c.in-Some.register c.args.value c.edit-done.result few c.edit-done.ensures.next c.edit-done.ensures.err)
