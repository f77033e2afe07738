-- The members of slots, made one after another.
use Rattle.std.proofs.Common.{◌≡◌, ◌+◌, ◌<◌, ℕ, zero, suc, List, [], ◌∷◌, ◌++◌, Vec, drop, get_or, length, map, refl, sym, ap, ◌∙◌, append_assoc}
use Rattle.std.specs.declared.alloc.Global.{Global}
use Rattle.std.proofs.lemmas.List.{drop_more, map-append}
use Rattle.bpf_trace.specs.Objects.{place_members}
use Rattle.bpf_trace.specs.SlotWords.{members_at}

abbrev items-of : Vec ℕ Global → List ℕ
items-of text = text.items

abbrev members-of : Vec ℕ Global → List ℕ
members-of text = place_members text.items

-- of one more slot
pub members-next : (ts ms : List (Vec ℕ Global)) (k : ℕ) (d made : Vec ℕ Global) → k < length ts → made.items ≡ place_members (get_or ts k d).items
    → map (λ text. text.items) ms ++ map (λ text. place_members text.items) (drop k ts) ≡ map (λ text. place_members text.items) ts
    → map (λ text. text.items) (ms ++ made ∷ []) ++ map (λ text. place_members text.items) (drop (k + 1) ts) ≡ map (λ text. place_members text.items) ts
members-next ts ms k d made inside e h =
    ap (λ (t : List (List ℕ)). t ++ map members-of (drop (k + 1) ts)) (map-append items-of ms (made ∷ []) ∙ ap (λ (x : List ℕ). map items-of ms ++ x ∷ []) e)
    ∙ append_assoc (map items-of ms) (members-of (get_or ts k d) ∷ []) (map members-of (drop (k + 1) ts))
    ∙ ap (λ (t : List (List ℕ)). map items-of ms ++ t) (sym (ap (map members-of) (drop_more ts k d inside)))
    ∙ h

-- those of a slot
pub members-at : (ms ts : List (Vec ℕ Global)) → map (λ text. text.items) ms ≡ map (λ text. place_members text.items) ts → (slot : ℕ)
    → members_at ms slot ≡ place_members (members_at ts slot)
members-at [] [] e slot = refl
members-at [] (t ∷ ts) e slot = absurd cc
members-at (m ∷ ms) [] e slot = absurd cc
members-at (m ∷ ms) (t ∷ ts) e zero = cc
members-at (m ∷ ms) (t ∷ ts) e (suc slot) =
    let rest : map items-of ms ≡ map members-of ts = cc in
    members-at ms ts rest slot
