-- One more block of a list.
use Rattle.std.proofs.Common.{◌≡◌, ℕ, suc, true, false, List, ap, sym, ◌∙◌}
use Rattle.std.specs.Prelude.{Option, Some, if◌then◌else◌}
use Rattle.bpf_isa.specs.Words.{u32_at}
use Rattle.bpf_btf.specs.CoreRelocations.{block_place}
use Rattle.bpf_btf.specs.Layout.{is_called}
use Rattle.bpf_lines.specs.LineInfo.{block_below}

pub block_is : (strings listed name : List ℕ) (n at : ℕ) → at ≡ block_place listed n → is_called strings (u32_at listed at) name ≡ true
    → Some at ≡ block_below strings listed name (suc n)
block_is strings listed name n at e named =
    ap Some e
    ∙ sym (ap (λ b. if b then Some (block_place listed n) else block_below strings listed name n)
    (sym (ap (λ a. is_called strings (u32_at listed a) name) e) ∙ named))

pub block_stays : (strings listed name : List ℕ) (n at : ℕ) (found : Option ℕ) → at ≡ block_place listed n
    → is_called strings (u32_at listed at) name ≡ false → found ≡ block_below strings listed name n
    → found ≡ block_below strings listed name (suc n)
block_stays strings listed name n at found e named known =
    known
    ∙ sym (ap (λ b. if b then Some (block_place listed n) else block_below strings listed name n)
    (sym (ap (λ a. is_called strings (u32_at listed a) name) e) ∙ named))
