-- Steps, one after the other: one more, and a fault, which stays.
use Rattle.std.proofs.Common.{◌≡◌, ◌<◌, inl, inr, ℕ, zero, suc, ◌+◌, ◌-◌, List, Result, Ok, Err, ap, subst, ◌∙◌, arith, add-one, add-zero, add-suc}
use Rattle.bpf_link.specs.declared.fault.LinkFault.{LinkFault}
use Rattle.bpf_link.specs.declared.parts.Side.{Side}
use Rattle.bpf_link.specs.declared.patch.Patch.{Patch}
use Rattle.bpf_link.specs.Data.{Numbered}
use Rattle.bpf_link.specs.Plans.{after, steps}
use Rattle.bpf_link.specs.Patches.{patch_of}
use Rattle.bpf_link.specs.Links.{MemoryOr, with_patch, with_relocation}

pub one_more : {A : Type 0} (step : ℕ → A → Result A LinkFault) (start : A) (n : ℕ) (a : A) (next : Result A LinkFault) → steps step start n ≡ Ok a → step n a ≡ next → steps step start (n + 1) ≡ next
one_more step start n a next e h = ap (steps step start) (add-one n) ∙ ap (λ r. after r (step n)) e ∙ h

stays : {A : Type 0} (step : ℕ → A → Result A LinkFault) (start : A) (n k : ℕ) (fault : LinkFault) → steps step start n ≡ Err fault → steps step start (n + k) ≡ Err fault
stays step start n zero fault e = ap (steps step start) (add-zero n) ∙ e
stays step start n (suc k) fault e = ap (steps step start) (add-suc n k) ∙ ap (λ r. after r (step (n + k))) (stays step start n k fault e)

pub fails : {A : Type 0} (step : ℕ → A → Result A LinkFault) (start : A) (n m : ℕ) (a : A) (fault : LinkFault) → n < m → steps step start n ≡ Ok a → step n a ≡ Err fault → steps step start m ≡ Err fault
fails step start n m a fault inside e h =
    let rest : (n + 1) + (m - (n + 1)) ≡ m = omega arith in
    subst (λ k. steps step start k ≡ Err fault) rest (stays step start (n + 1) (m - (n + 1)) fault (one_more step start n a (Err fault) e h))

pub fails_or : {A : Type 0} (step : ℕ → A → Result A LinkFault) (start : A) (n m : ℕ) (a : A) (fault : LinkFault) → n < m → steps step start n ≡ Ok a → MemoryOr (step n a) fault → MemoryOr (steps step start m) fault
fails_or step start n m a fault inside e (inl memory) = inl memory
fails_or step start n m a fault inside e (inr h) = inr (fails step start n m a fault inside e h)

pub patched : (placed : Numbered) (side : Side) (i : ℕ) (words : List ℕ) (patch : Patch) → patch_of placed side i ≡ Ok patch → with_relocation placed side i words ≡ Ok (with_patch words patch)
patched placed side i words patch e = ap (λ r. after r (λ p. Ok (with_patch words p))) e

pub not_patched : (placed : Numbered) (side : Side) (i : ℕ) (words : List ℕ) (fault : LinkFault) → patch_of placed side i ≡ Err fault → with_relocation placed side i words ≡ Err fault
not_patched placed side i words fault e = ap (λ r. after r (λ p. Ok (with_patch words p))) e
