-- What a walk by hand needs where a contract states two facts in clauses of their own.
use seplogic.Ra.Ura.{Ura}
use mathlib.Core.List.{List, [], ◌∷◌}
use base.Logic.{SProp, ent, sep, emp, via, mono_l, mono_r, comm∗, emp∗}
use contract.Monad.{fact, fact_i}
use denote.Steps.{heard}
use types.Kit.{Item, Step, prop, raw, step, ◌$◌, ◌∵◌, !, qed, use0, done}
use types.Logic.{Logic}

two_facts : {M : Type 1} {𝓤 : Ura M} (𝓛 : Logic 𝓤) (F G : Type 0) → ent 𝓤 (fact 𝓤 (F × G)) (sep 𝓤 (fact 𝓤 F) (fact 𝓤 G))
two_facts {𝓤 = 𝓤} 𝓛 F G =
    qed 𝓛 (raw (fact 𝓤 (F × G)) ∷ []) ∵ heard ! _ (λ both.
    use0 𝓛 (raw (fact 𝓤 G)) (fact_i 𝓤 G (emp 𝓤) both.1) $ use0 𝓛 (raw (fact 𝓤 F)) (fact_i 𝓤 F (emp 𝓤) both.0) $ done !)

-- Both facts are shown, and the rest of the goal is left.
pub says_both : {M : Type 1} {𝓤 : Ura M} {𝓛 : Logic 𝓤} {K : Type 0} {Γ : List (Item 𝓤)} → K → {F G : Type 0} {P : SProp 𝓤} → F × G → Step K 𝓛 Γ (prop P) Γ (prop (sep 𝓤 P (sep 𝓤 (fact 𝓤 F) (fact 𝓤 G))))
says_both {𝓤 = 𝓤} {𝓛 = 𝓛} t {F} {G} {P} both =
    let beside : ent 𝓤 P (sep 𝓤 P (fact 𝓤 (F × G))) = via 𝓤 (sep 𝓤 (emp 𝓤) P) (emp∗ 𝓤 P) (via 𝓤 (sep 𝓤 (fact 𝓤 (F × G)) P) (mono_l 𝓤 P (fact_i 𝓤 (F × G) (emp 𝓤) both)) (comm∗ 𝓤 (fact 𝓤 (F × G)) P)) in
    step (λ s. record { prf = via 𝓤 P s.prf (via 𝓤 (sep 𝓤 P (fact 𝓤 (F × G))) beside (mono_r 𝓤 P (two_facts 𝓛 F G))) })
