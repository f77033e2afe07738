use Rattle.std.proofs.Common.{◌≡◌, List, Bool, ap, arith, length, subst, sym}
use Rattle.bpf_whynot.specs.Makings.{goals_left}
use Rattle.bpf_whynot.specs.Tables.{AreGoals}
use Rattle.bpf_whynot.proofs.Unmaking.{given_back}
use Rattle.bpf_whynot.proofs.aim.Aim.find.Goals as goal

pub returns-in-Ok-find-clause-ok : goal.returns-in-Ok-find-clause-ok
returns-in-Ok-find-clause-ok g c =
    let left = c.in-Ok-flag_left.ensures.ok in (
      left.0,
      left.1,
      λ h stands.
          let of = left.2 h stands in
          let blank = rw c.program-program.ensures at c.in-Ok.ensures in
          let size = of.0.size in
          let whole = blank.size in
          let lent = ap length c.as_mut_slice.ensures.value in
          let n : c.in-Ok.goals.len ≡ length c.flag_left.new.flags = omega (arith, c.as_mut_slice.ensures.len, lent, whole, size) in
          let there = subst (λ (flags : List Bool). AreGoals c.args.cpu.now.program (goals_left left.0 h) flags) (sym (given_back c.flag_left.new.flags _ c.in-Ok.goals.len n)) of.0 in
          let asked : AreGoals c.program-program.result.now (goals_left left.0 h) c.as_slice.result.now = rw (c.as_slice.ensures.value, c.program-program.ensures) there in
          record { flags = there; made = of.1; tells = rw c.program-program.ensures at (c.in-Ok-find.ensures (goals_left left.0 h) asked) },
    )
