-- Moves that left a byte as it was, one behind another.
use Rattle.std.proofs.Common.{◌≡◌, ◌≤◌, ◌+◌, ◌-◌, ℕ, zero, suc, List, [], ◌∷◌, ◌++◌, length, take, drop, refl, sym, ap, subst, arith, add-one}
use Rattle.std.proofs.lemmas.List.{length-append, length-take, take_all}
use Rattle.bpf_entries.specs.Before.{byte_before, depth_before}
use Rattle.bpf_entries.specs.Keeping.{Kept}
use Rattle.bpf_ring.proofs.Ways.{text_left}
use Rattle.bpf_ring.specs.Quiet.{AreQuiet, EndsQuiet, IsQuietTo}
use Rattle.bpf_ring.specs.Ways.{HasText}

-- None was passed over.
pub quiet_none : (a byte d : ℕ) (front bytes : List ℕ) (ks : List Kept) → HasText (front ++ bytes) ks
    → IsQuietTo a byte d front bytes ks (record { count = 0; place = length bytes; depth = d })
quiet_none a byte d front bytes ks held = record {
  quiet = refl;
  left = subst (λ (l : List ℕ). HasText (front ++ l) ks) (sym (take_all (length bytes) bytes (omega arith))) held;
}

-- One more.
quiet_more : (a byte d e f n : ℕ) (ks : List Kept) (k : Kept) (ls : List Kept) → AreQuiet a byte d e n ks → drop n ks ≡ k ∷ ls
    → byte_before e k.0 a byte ≡ byte → f ≡ depth_before e k.0 → AreQuiet a byte d f (suc n) ks × (drop (suc n) ks ≡ ls)
quiet_more a byte d e f zero [] k ls quiet cut same deep = absurd cc
quiet_more a byte d e f zero (h ∷ t) k ls quiet cut same deep =
    let here : h ≡ k = cc in
    let rest : t ≡ ls = cc in (
      subst (λ (c : ℕ). (byte_before c h.0 a byte ≡ byte) × (f ≡ depth_before c h.0)) quiet
          (subst (λ (j : Kept). (byte_before e j.0 a byte ≡ byte) × (f ≡ depth_before e j.0)) (sym here) (same, deep)),
      rest,
    )
quiet_more a byte d e f (suc n) [] k ls quiet cut same deep = absurd quiet
quiet_more a byte d e f (suc n) (h ∷ t) k ls quiet cut same deep =
    let more = quiet_more a byte (depth_before d h.0) e f n t k ls quiet.1 cut same deep in
    ((quiet.0, more.0), more.1)

pub quiet_on : (a byte d e f n place weight : ℕ) (front bytes : List ℕ) (ks : List Kept) → place ≤ length bytes → EndsQuiet a byte e (take place bytes) weight f
    → IsQuietTo a byte d front bytes ks (record { count = n; place = place; depth = e })
    → IsQuietTo a byte d front bytes ks (record { count = n + 1; place = place - weight; depth = f })
quiet_on a byte d e f n place weight front bytes ks high ends to = split (drop n ks) refl to.left where
  split : (older : List Kept) → drop n ks ≡ older → HasText (front ++ take place bytes) older
      → IsQuietTo a byte d front bytes ks (record { count = n + 1; place = place - weight; depth = f })
  split [] cut left = absurd (omega (arith, ap length left.whole, length-append front (take place bytes), ends.some, ends.within))
  split (k ∷ ls) cut left =
      let end = ends.is front k ls left in
      let more = quiet_more a byte d e f n ks k ls to.quiet cut end.quiet end.depth in
      let low : weight ≤ place = omega (arith, ends.within, length-take place bytes) in
      rw add-one (record {
        quiet = more.0;
        left = subst (HasText (front ++ take (place - weight) bytes)) (sym more.1) (text_left front bytes place weight k ls left low high end.newest);
      })
