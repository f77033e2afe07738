-- Up to 16 maps of one byte each fit in a table.
use Rattle.std.proofs.Common.{◌≡◌, ◌<◌, ◌≤◌, ◌+◌, inl, inr, ℕ, zero, suc, List, ◌∷◌, ◌++◌, [], length, take, ap, ◌∙◌, arith, length-append}
use Rattle.std.proofs.lemmas.Grind.{common_steps}
use Rattle.bpf_isa.specs.declared.maps.MapShape.{MapShape}
use Rattle.bpf_isa.specs.declared.fault.MapFault.{MapFault}
use Rattle.bpf_isa.specs.declared.fault.MapFault.TheVariants.{ValueSize, Entries, Total, Full, Malformed}
use Rattle.bpf_isa.specs.Maps.{IsShape, HasMapFault}
use Rattle.bpf_link.specs.Links.{plain_maps}

pub plain_length : (n : ℕ) → length (plain_maps n) ≡ n
plain_length zero = omega arith
plain_length (suc n) = omega (arith, plain_length n, length-append (plain_maps n) (record { value_size = 1; entries = 1 } ∷ []))

-- and one more map of a shape that may be
pub room : (maps : List MapShape) (shape : MapShape) (fault : MapFault) → length maps < 16 → IsShape shape → HasMapFault maps shape.value_size shape.entries fault → ⊥
room maps shape fault below fits has = by fault fits has below
  where
    by : (fault : MapFault) → IsShape shape → HasMapFault maps shape.value_size shape.entries fault → length maps < 16 → ⊥
    by ValueSize fits (inl none) below = let filled = fits.filled.0 in omega arith
    by ValueSize fits (inr many) below = let few = fits.value in omega arith
    by Entries fits (inl none) below = let filled = fits.filled.1 in omega arith
    by Entries fits (inr many) below = let few = fits.entries in omega arith
    by Total fits has below = let few = fits.total in omega arith
    by Full fits has below = omega arith
    by Malformed fits has below = has

pub below : (n i : ℕ) (maps shapes : List MapShape) → maps ≡ plain_maps n ++ take i shapes → i < length shapes → n + length shapes ≤ 16 → length maps < 16
below n i maps shapes e inside few =
    let own = plain_length n in
    let others : length (take i shapes) ≡ i = grind (arith, common_steps) in
    let both = length-append (plain_maps n) (take i shapes) in
    let size : length maps ≡ length (plain_maps n ++ take i shapes) = ap length e in
    omega (arith, own, others, both, size)

fits : (maps : List MapShape) (fault : MapFault) → length maps < 16 → HasMapFault maps 1 1 fault → ⊥
fits maps ValueSize room has = omega arith
fits maps Entries room has = omega arith
fits maps Total room has = omega arith
fits maps Full room has = omega arith
fits maps Malformed room has = has

pub never_full : (n : ℕ) (maps : List MapShape) (fault : MapFault) → maps ≡ plain_maps n → n < 16 → HasMapFault maps 1 1 fault → ⊥
never_full n maps fault e room has = let size : length maps ≡ n = ap length e ∙ plain_length n in fits maps fault (omega arith) has
