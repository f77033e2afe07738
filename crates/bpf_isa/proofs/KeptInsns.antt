-- One more slot in the checker's pass.
use Rattle.std.proofs.Common.{◌≡◌, ◌<◌, ◌+◌, ℕ, List, [], ◌∷◌, ◌++◌, Option, None, length, get_or, sym, ap, ◌∙◌, subst, arith, length-append}
use Rattle.std.specs.Prelude.{unwrap_or, slice_get}
use Rattle.std.proofs.lemmas.Option.{unwrap_or-slice_get}
use Rattle.std.proofs.lemmas.List.{get_or_append_left}
use Rattle.std.proofs.Math.Seq.{get_or-append_seam}
use borrow.Author.Count.{below_more}
use Rattle.bpf_isa.specs.declared.instruction.Insn.{Insn}
use Rattle.bpf_isa.specs.declared.maps.MapShape.{MapShape}
use Rattle.bpf_isa.specs.Checker.{IsStartIn, HasNoFault}
use Rattle.bpf_isa.specs.Scaffolding.Checking.{IsInsnAt, AreInsns}

entry_before : (insns : List (Option Insn)) (o : Option Insn) (p : ℕ) → p < length insns → unwrap_or (slice_get insns p) None ≡ unwrap_or (slice_get (insns ++ o ∷ []) p) None
entry_before insns o p inside = unwrap_or-slice_get insns p None ∙ sym (get_or_append_left insns (o ∷ []) None p inside) ∙ sym (unwrap_or-slice_get (insns ++ o ∷ []) p None)

entry_at : (insns : List (Option Insn)) (o : Option Insn) (n : ℕ) → length insns ≡ n → o ≡ unwrap_or (slice_get (insns ++ o ∷ []) n) None
entry_at insns o n e =
    sym (unwrap_or-slice_get (insns ++ o ∷ []) n None ∙ ap (λ k. get_or (insns ++ o ∷ []) k None) (sym e) ∙ get_or-append_seam insns o [] None)

pub one_more : (bytes : List ℕ) (maps : List MapShape) (insns : List (Option Insn)) (o : Option Insn) (n : ℕ) → AreInsns bytes maps insns n → IsInsnAt bytes maps n o → (IsStartIn bytes n → HasNoFault bytes maps n) → AreInsns bytes maps (insns ++ o ∷ []) (n + 1)
one_more bytes maps insns o n kept here clear =
    let slots : length insns ≡ n = kept.slots in
    record {
      slots = omega (arith, length-append insns (o ∷ []));
      each = below_more (λ p. IsInsnAt bytes maps p (unwrap_or (slice_get (insns ++ o ∷ []) p) None)) n (λ p below. subst (IsInsnAt bytes maps p) (entry_before insns o p (omega arith)) (kept.each p below)) (subst (IsInsnAt bytes maps n) (entry_at insns o n slots) here);
      clear = below_more (λ p. IsStartIn bytes p → HasNoFault bytes maps p) n kept.clear clear;
    }
