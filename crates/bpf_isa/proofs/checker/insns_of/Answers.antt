use Rattle.std.proofs.Common.{◌≡◌, ◌<◌, ◌+◌, Bool, false, cond, List, [], ◌∷◌, ◌++◌, Option, Some, None, Result, Ok, Err, length, sym, ap, ◌∙◌, subst, arith}
use Rattle.std.specs.Prelude.{IsTrue}
use Rattle.std.specs.Result.{is_ok, is_err}
use Rattle.std.proofs.lemmas.Option.{get_or_from_slice_get}
use Rattle.bpf_isa.specs.declared.instruction.Insn.{Insn}
use Rattle.bpf_isa.specs.Checker.{is_start}
use Rattle.bpf_isa.specs.Scaffolding.Checking.{AreInsns}
use Rattle.bpf_isa.proofs.KeptInsns.{one_more}
use Rattle.bpf_isa.proofs.checker.insns_of.Goals as goal
use Rattle.bpf_isa.proofs.checker.insns_of.Goals.{then-draft-slot+in-Ok-piece+else-is_err, else-draft-slot+else-is_err-2}

pushed : {T E : Type 0} (r : Result T E) (xs a b : List (Option Insn)) → false ≡ is_err r → xs ≡ cond (is_ok r) a b → xs ≡ a
pushed (Ok x) xs a b e h = h
pushed (Err x) xs a b e h = cc

not_start : (b : Bool) → b ≡ false → IsTrue b → ⊥
not_start b e h = cc

pub loop-slot-preserved : goal.loop-slot-preserved
loop-slot-preserved c =
    let slot = c.loop-slot.slot in
    let bytes = c.args.draft.now.bytes.now in
    let inside : slot < length c.args.draft.now.starts.now = omega arith in
    let flag = get_or_from_slice_get c.args.draft.now.starts.now slot (is_start bytes slot) false (c.requires.flags.flags slot inside) in
    elim c.if-draft-slot.branch [
      | then-draft-slot+in-Ok-piece+else-is_err w ↦
          let start = sym flag ∙ w.if-draft-slot.true in
          let items = pushed w.push.result _ _ _ w.if-is_err.ensures.value w.push.ensures.items in
          let whole : c.if-draft-slot.insns.items ≡ c.loop-slot.insns.items ++ Some w.in-Ok-piece.insn ∷ [] = ap (λ v. v.items) w.insns-is ∙ items in
          subst (λ xs. AreInsns bytes c.args.draft.now.maps.now xs (slot + 1)) (sym whole)
          (one_more bytes c.args.draft.now.maps.now c.loop-slot.insns.items (Some w.in-Ok-piece.insn) slot c.loop-slot.invariant (start, w.in-Ok-piece.ensures.ok) (λ _. w.in-Ok-piece.ensures.clear))
      | else-draft-slot+else-is_err-2 w ↦
          let start = sym flag ∙ w.if-draft-slot.false in
          let items = pushed w.push-else-draft-slot.result _ _ _ w.if-is_err-2.ensures.value w.push-else-draft-slot.ensures.items in
          let whole : c.if-draft-slot.insns.items ≡ c.loop-slot.insns.items ++ None ∷ [] = ap (λ v. v.items) w.insns-is ∙ items in
          subst (λ xs. AreInsns bytes c.args.draft.now.maps.now xs (slot + 1)) (sym whole)
          (one_more bytes c.args.draft.now.maps.now c.loop-slot.insns.items None slot c.loop-slot.invariant start (λ h. absurd (not_start _ start h.1)))
    ]
