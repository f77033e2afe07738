-- Offsets and their signs.
use Rattle.std.proofs.Common.{ℤ, pos, negsuc, ◌≡◌, ◌++◌, codes, refl, arith, false, w16, w64, SFits}
use Rattle.std.specs.Fmt.{signed_decimal}
use Rattle.std.proofs.lemmas.Int.{to_z-of_z}
use mir.Val.{to_z, of_z}
use lib.Signed.{lt_z}
use Rattle.bpf_text.specs.Operands.{offset_text}

-- an offset that isn't below zero
pub offset_text-pos : (z y : ℤ) → lt_z (to_z w16 (of_z w16 z)) (pos 0) ≡ false → SFits w16 z → y ≡ z
    → codes "+" ++ signed_decimal (to_z w64 (of_z w64 y)) ≡ offset_text z
offset_text-pos (pos n) y h fits e =
    let wide : SFits w64 (pos n) = record { sfits = omega (arith, fits.sfits) } in
    rw (e, to_z-of_z w64 (pos n) wide) refl
offset_text-pos (negsuc n) y h fits e = let below = rw (to_z-of_z w16 (negsuc n) fits) at h in cc
