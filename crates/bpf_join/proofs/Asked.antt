-- The function that answers a helper is known once the helper was asked for.
use Rattle.std.proofs.Common.{◌≡◌, ◌≤◌, ◌<◌, ℕ, List, length, get_or, sym, subst, ◌∙◌, arith}
use Rattle.std.specs.Prelude.{Option, Some, None}
use Rattle.std.proofs.lemmas.List.{get_or_past}
use Rattle.bpf_link.proofs.Lists.{below_at, below_length}
use Rattle.bpf_link.specs.declared.plan.Plan.{Plan}
use Rattle.bpf_join.specs.Functions.{callee, callees}
use Rattle.bpf_join.specs.Known.{AreKnown, IsKnown}

-- Behind the kernel's list no helper has one.
pub none_behind : (functions : Plan) (number : ℕ) → 212 ≤ number → None ≡ get_or (callees functions) number None
none_behind functions number past =
    let size : length (callees functions) ≡ 212 = below_length (callee functions) 212 in
    sym (get_or_past (callees functions) number None (omega (arith, size)))

-- One that was looked for now.
pub found_now : (functions : Plan) (number : ℕ) (to : Option ℕ) → number < 212 → to ≡ callee functions number → to ≡ get_or (callees functions) number None
found_now functions number to inside found = found ∙ sym (below_at (callee functions) 212 number None inside)

-- One that was looked for before.
pub found_before : (functions : Plan) (known : List (Option (Option ℕ))) (number : ℕ) (read : Option (Option ℕ)) (to : Option ℕ) → AreKnown functions known → number < 212
    → read ≡ get_or known number None → read ≡ Some to → to ≡ get_or (callees functions) number None
found_before functions known number read to are inside here some =
    found_now functions number to inside (subst (IsKnown functions number) (sym here ∙ some) (are.each number))
