use Rattle.std.proofs.Common.{◌≡◌, ℕ, List, Option, length, sym, subst, rules}
use Rattle.bpf_isa.specs.declared.instruction.Insn.{Insn}
use Rattle.bpf_isa.specs.declared.maps.MapShape.{MapShape}
use Rattle.bpf_isa.specs.Checker.{AreSlots}
use Rattle.bpf_isa.specs.Scaffolding.Checking.{AreInsns}
use Rattle.bpf_isa.specs.Programs.{IsProgram}
use Rattle.bpf_isa.proofs.Accepted.{is_program}
use Rattle.bpf_isa.proofs.program.check.Goals as goal

copied_program : (bytes copy : List ℕ) (insns : List (Option Insn)) (maps copied : List MapShape) → copy ≡ bytes → copied ≡ maps → IsProgram (record { bytes = bytes; insns = insns; maps = maps }) → IsProgram (record { bytes = copy; insns = insns; maps = copied })
copied_program bytes copy insns maps copied e f h =
    subst (λ ms. IsProgram (record { bytes = copy; insns = insns; maps = ms })) (sym f)
    (subst (λ bs. IsProgram (record { bytes = bs; insns = insns; maps = maps })) (sym e) h)

pub invariant_of-result : goal.invariant_of-result
invariant_of-result c =
    let bytes = c.args.bytes.now in
    let slots : AreSlots bytes = search rules in
    let kept : AreInsns bytes c.args.maps.now c.in_ok-insns.insns.items (length c.in-Ok.starts.items) = subst (λ starts. AreInsns bytes c.args.maps.now c.in_ok-insns.insns.items (length starts)) c.deref.ensures.value c.in_ok-insns.ensures.ok in
    copied_program bytes _ _ c.args.maps.now _ c.in-Ok-from_slice.ensures.items c.copied.ensures.value
    (is_program bytes c.in_ok-insns.insns.items c.args.maps.now (length c.in-Ok.starts.items) c.in-Ok.ensures.slots slots c.copied.ensures.fits kept)

pub returns-in-Some-clause-fault : goal.returns-in-Some-clause-fault
returns-in-Some-clause-fault c = c.in-Some.ensures.found c.args.maps.now
