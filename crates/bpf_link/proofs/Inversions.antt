-- What a value tells of the tests on the way to it.
use Rattle.std.proofs.Common.{◌≡◌, ◌<◌, ◌*◌, ◌+◌, ◌/◌, ◌%◌, ◌==◌, nat_lt, ℕ, List, Bool, true, false, Result, Ok, Err, length, refl, sym, subst, ◌⊎◌, inl, inr, ◌≤◌, arith}
use Rattle.std.specs.Prelude.{if◌then◌else◌, not, ◌&&◌}
use Rattle.std.proofs.lemmas.Grind.{common_steps}
use Rattle.bpf_isa.specs.Words.{u32_at}
use Rattle.bpf_link.specs.declared.fault.LinkFault.{LinkFault}
use Rattle.bpf_link.specs.declared.fault.LinkFault.TheVariants.{Place, Symbol}
use Rattle.bpf_link.specs.declared.fault.RelocationFault.TheVariants.{CallTarget, RelocationKind, NoLoad}
use Rattle.bpf_link.specs.declared.layout.RelocationEntry.{RelocationEntry}
use Rattle.bpf_link.specs.declared.layout.SymbolEntry.{SymbolEntry}
use Rattle.bpf_link.specs.declared.parts.Side.{Side}
use Rattle.bpf_link.specs.declared.parts.Part.{Part}
use Rattle.bpf_link.specs.declared.plan.Plan.{Plan}
use Rattle.bpf_link.specs.declared.patch.Patch.{Patch}
use Rattle.bpf_link.specs.Objects.{provided}
use Rattle.bpf_link.specs.Parts.{Sides, first_of, part_of, slots_in}
use Rattle.bpf_link.specs.Plans.{after}
use Rattle.bpf_link.specs.Tables.{relocation_at, symbol_at}
use Rattle.bpf_link.specs.Links.{patch_width}
use Rattle.bpf_link.specs.Data.{Numbered, is_among}
use Rattle.bpf_link.specs.Patches.{is_call, is_map, is_empty_load, is_next, symbol_fault, side_with, call_to, call_patch, map_patch, is_short_load, data_patch, load_patch, width_of, patch_with, patch_at, patch_of}

clash : {A : Type 0} (fault : LinkFault) (v : A) → ◌≡◌ {A = Result A LinkFault} (Err fault) (Ok v) → ⊥
clash fault v e = cc

pub ok_same : {A : Type 0} (a b : A) → ◌≡◌ {A = Result A LinkFault} (Ok a) (Ok b) → a ≡ b
ok_same a b e = cc

pub provided_ok : {A : Type 0} (b : Bool) (fault : LinkFault) (next : Result A LinkFault) (v : A) → provided b fault next ≡ Ok v → (b ≡ true) × (next ≡ Ok v)
provided_ok true fault next v e = (refl, e)
provided_ok false fault next v e = absurd (clash fault v e)

pub after_ok : {A B : Type 0} (r : Result A LinkFault) (next : A → Result B LinkFault) (v : B) → after r next ≡ Ok v → (a : A) × (r ≡ Ok a) × (next a ≡ Ok v)
after_ok (Ok a) next v e = (a, refl, e)
after_ok (Err fault) next v e = absurd (clash fault v e)

-- a part of a plan, the slot of the program that its first one is, and how many it has
abbrev pub here : Numbered → Side → Part
here placed side = part_of placed.plan.parts side

abbrev pub from : Numbered → Side → ℕ
from placed side = first_of placed.plan.parts side

abbrev pub count : Numbered → Side → ℕ
count placed side = slots_in (here placed side)

-- a patch's slot, and how many bytes it changes
pub record Fits (patch : Patch) (slot size : ℕ) : Type 0 where
  pub at : patch.at ≡ 8 * slot
  pub width : patch_width patch ≡ size

fits_made : (patch other : Patch) (slot size : ℕ) → ◌≡◌ {A = Result Patch LinkFault} (Ok other) (Ok patch) → Fits other slot size → Fits patch slot size
fits_made patch other slot size e fits = subst (λ p. Fits p slot size) (ok_same other patch e) fits

call_to_at : (parts : Sides) (side : Side) (value imm slot : ℕ) (fault : LinkFault) (patch : Patch) → call_to parts side value imm slot fault ≡ Ok patch → Fits patch slot 8
call_to_at parts side value imm slot fault patch e =
    let a = provided_ok (value % 8 == 0) fault _ _ e in
    let b = provided_ok (nat_lt (value / 8) (slots_in (part_of parts side))) fault _ _ a.1 in
    let c = provided_ok (nat_lt ((value / 8 + imm + 1) % 4294967296) (slots_in (part_of parts side))) fault _ _ b.1 in
    fits_made patch _ slot 8 c.1 (record { at = refl; width = refl })

call_at : (plan : Plan) (slots : List ℕ) (symbol : SymbolEntry) (at slot : ℕ) (patch : Patch) → call_patch plan slots symbol at slot ≡ Ok patch → Fits patch slot 8
call_at plan slots symbol at slot patch e =
    let a = provided_ok (is_call slots at) _ _ _ e in
    let fault = symbol_fault plan symbol slot CallTarget in
    let b = after_ok (side_with plan.parts symbol.section fault) (λ side. call_to plan.parts side symbol.value (u32_at slots (at + 4)) slot fault) patch a.1 in
    call_to_at plan.parts b.0 symbol.value (u32_at slots (at + 4)) slot fault patch b.2

map_at : (placed : Numbered) (slots : List ℕ) (symbol : SymbolEntry) (at slot : ℕ) (patch : Patch) → map_patch placed slots symbol at slot ≡ Ok patch → Fits patch slot 16
map_at placed slots symbol at slot patch e =
    let a = provided_ok (is_map placed.plan.maps symbol) _ _ _ e in
    let b = provided_ok (is_empty_load slots at) _ _ _ a.1 in
    fits_made patch _ slot 16 b.1 (record { at = refl; width = refl })

data_at : (placed : Numbered) (slots : List ℕ) (symbol : SymbolEntry) (at slot : ℕ) (patch : Patch) → data_patch placed slots symbol at slot ≡ Ok patch → Fits patch slot 16
data_at placed slots symbol at slot patch e =
    let a = provided_ok (is_short_load slots at) _ _ _ e in
    fits_made patch _ slot 16 a.1 (record { at = refl; width = refl })

load_at : (placed : Numbered) (slots : List ℕ) (symbol : SymbolEntry) (at slot : ℕ) (patch : Patch) (among : Bool)
    → (if among then data_patch placed slots symbol at slot else map_patch placed slots symbol at slot) ≡ Ok patch → Fits patch slot 16
load_at placed slots symbol at slot patch true e = data_at placed slots symbol at slot patch e
load_at placed slots symbol at slot patch false e = map_at placed slots symbol at slot patch e

-- that of a wide load has two slots
pub record Stands (patch : Patch) (slot size : ℕ) (second : Bool) : Type 0 where
  pub fits : Fits patch slot size
  pub room : (size ≡ 8) ⊎ (second ≡ true)

kind_at : (placed : Numbered) (slots : List ℕ) (symbol : SymbolEntry) (at slot : ℕ) (patch : Patch) (call load room : Bool) → (call ≡ true → load ≡ false)
    → (if call then call_patch placed.plan slots symbol at slot else (if load then provided room (symbol_fault placed.plan symbol slot NoLoad) (load_patch placed slots symbol at slot) else Err (symbol_fault placed.plan symbol slot RelocationKind))) ≡ Ok patch
    → Stands patch slot (if load then 16 else 8) room
kind_at placed slots symbol at slot patch true true room other e = absurd (differ (other refl))
  where
    differ : ◌≡◌ {A = Bool} true false → ⊥
    differ e = cc
kind_at placed slots symbol at slot patch true false room other e = record { fits = call_at placed.plan slots symbol at slot patch e; room = inl refl }
kind_at placed slots symbol at slot patch false true room other e =
    let a = provided_ok room _ (load_patch placed slots symbol at slot) patch e in
    record { fits = load_at placed slots symbol at slot patch (is_among placed.taken symbol.section) a.1; room = inr a.0 }
kind_at placed slots symbol at slot patch false false room other e = absurd (clash _ patch e)

one_kind : (kind : ℕ) → (kind == 10) ≡ true → (kind == 1) ≡ false
one_kind kind e = grind (arith, common_steps)

with_at : (placed : Numbered) (side : Side) (relocation : RelocationEntry) (symbol : SymbolEntry) (patch : Patch)
    → patch_with placed side relocation symbol ≡ Ok patch
    → Stands patch (from placed side + relocation.offset / 8) (width_of relocation) (nat_lt (relocation.offset / 8 + 1) (count placed side))
with_at placed side relocation symbol patch e =
    let a = provided_ok (not (symbol.section == 0)) _ _ _ e in
    kind_at placed (here placed side).slots symbol relocation.offset (from placed side + relocation.offset / 8) patch
    (relocation.kind == 10) (relocation.kind == 1) (nat_lt (relocation.offset / 8 + 1) (count placed side)) (one_kind relocation.kind) a.1

is_zero : (n : ℕ) → (n == 0) ≡ true → n ≡ 0
is_zero n e = grind (arith, common_steps)

is_below : (n m : ℕ) → nat_lt n m ≡ true → n < m
is_below n m e = grind (arith, common_steps)

-- a relocation that comes to a patch names a slot of its part, and that is the patch's
pub record NamesSlot (placed : Numbered) (side : Side) (i : ℕ) (patch : Patch) : Type 0 where
  pub at : patch.at ≡ 8 * (from placed side + (relocation_at (here placed side).relocations i).offset / 8)
  pub whole : (relocation_at (here placed side).relocations i).offset % 8 ≡ 0
  pub inside : (relocation_at (here placed side).relocations i).offset / 8 < (count placed side)
  pub width : patch_width patch ≡ width_of (relocation_at (here placed side).relocations i)
  pub fits : patch.at + patch_width patch ≤ 8 * (from placed side + (count placed side))

ends : (at width first offset count : ℕ) → at ≡ 8 * (first + offset / 8) → offset / 8 < count → (width ≡ 16) ⊎ (width ≡ 8)
    → (width ≡ 8) ⊎ (nat_lt (offset / 8 + 1) count ≡ true) → at + width ≤ 8 * (first + count)
ends at width first offset count same inside sizes (inl short) = omega arith
ends at width first offset count same inside (inl long) (inr room) = let next = is_below (offset / 8 + 1) count room in omega arith
ends at width first offset count same inside (inr short) (inr room) = omega arith

abbrev pub sized : Bool → ℕ
sized b = if b then 16 else 8

pub two_sizes : (b : Bool) → (sized b ≡ 16) ⊎ (sized b ≡ 8)
two_sizes true = inl refl
two_sizes false = inr refl

-- the same of a relocation, whatever stands before it in its table
pub record StandsAt (placed : Numbered) (side : Side) (relocation : RelocationEntry) (patch : Patch) : Type 0 where
  pub at : patch.at ≡ 8 * (from placed side + relocation.offset / 8)
  pub whole : relocation.offset % 8 ≡ 0
  pub inside : relocation.offset / 8 < count placed side
  pub width : patch_width patch ≡ width_of relocation
  pub fits : patch.at + patch_width patch ≤ 8 * (from placed side + count placed side)
  pub with : patch_with placed side relocation (symbol_at placed.plan.symbols relocation.symbol) ≡ Ok patch

pub stands_at : (placed : Numbered) (side : Side) (relocation : RelocationEntry) (patch : Patch) → patch_at placed side relocation ≡ Ok patch → StandsAt placed side relocation patch
stands_at placed side relocation patch e =
    let b = provided_ok (relocation.offset % 8 == 0) Place _ _ e in
    let c = provided_ok (nat_lt (relocation.offset / 8) (count placed side)) Place _ _ b.1 in
    let d = provided_ok (nat_lt relocation.symbol (length placed.plan.symbols)) (Symbol (from placed side + relocation.offset / 8)) _ _ c.1 in
    let stands = with_at placed side relocation (symbol_at placed.plan.symbols relocation.symbol) patch d.1 in
    let inside = is_below (relocation.offset / 8) (count placed side) c.0 in
    let end : patch.at + width_of relocation ≤ 8 * (from placed side + (count placed side)) =
    ends patch.at (width_of relocation) (from placed side) relocation.offset (count placed side) stands.fits.at inside (two_sizes (relocation.kind == 1)) stands.room in
    record {
      at = stands.fits.at;
      whole = is_zero (relocation.offset % 8) b.0;
      inside = inside;
      width = stands.fits.width;
      fits = subst (λ w. patch.at + w ≤ 8 * (from placed side + (count placed side))) (sym stands.fits.width) end;
      with = d.1;
    }

pub names_slot : (placed : Numbered) (side : Side) (i : ℕ) (patch : Patch) → patch_of placed side i ≡ Ok patch → NamesSlot placed side i patch
names_slot placed side i patch e =
    let a = provided_ok (is_next (here placed side).relocations i) Place _ _ e in
    let s = stands_at placed side (relocation_at (here placed side).relocations i) patch a.1 in
    record { at = s.at; whole = s.whole; inside = s.inside; width = s.width; fits = s.fits }

-- a wide load has the opcodes of one
both_short : (short : Bool) (empty : Bool) → (short && empty) ≡ true → short ≡ true
both_short short empty e = grind (arith, common_steps)

loaded : (placed : Numbered) (slots : List ℕ) (symbol : SymbolEntry) (at slot : ℕ) (patch : Patch) (among : Bool)
    → (if among then data_patch placed slots symbol at slot else map_patch placed slots symbol at slot) ≡ Ok patch → is_short_load slots at ≡ true
loaded placed slots symbol at slot patch true e = (provided_ok (is_short_load slots at) _ _ _ e).0
loaded placed slots symbol at slot patch false e =
    let a = provided_ok (is_map placed.plan.maps symbol) _ _ _ e in
    let b = provided_ok (is_empty_load slots at) _ _ _ a.1 in
    both_short (is_short_load slots at) (u32_at slots (at + 4) == 0) b.0

-- what a relocation is of: a call, or a wide load
pub by_kind : (placed : Numbered) (slots : List ℕ) (symbol : SymbolEntry) (at slot : ℕ) (patch : Patch) (call load room : Bool)
    → (if call then call_patch placed.plan slots symbol at slot else (if load then provided room (symbol_fault placed.plan symbol slot NoLoad) (load_patch placed slots symbol at slot) else Err (symbol_fault placed.plan symbol slot RelocationKind))) ≡ Ok patch
    → (call ≡ true) ⊎ ((load ≡ true) × (is_short_load slots at ≡ true))
by_kind placed slots symbol at slot patch true load room e = inl refl
by_kind placed slots symbol at slot patch false true room e =
    let a = provided_ok room _ (load_patch placed slots symbol at slot) patch e in
    inr (refl, loaded placed slots symbol at slot patch (is_among placed.taken symbol.section) a.1)
by_kind placed slots symbol at slot patch false false room e = absurd (clash _ patch e)

pub kind_of : (placed : Numbered) (side : Side) (relocation : RelocationEntry) (patch : Patch) → patch_at placed side relocation ≡ Ok patch
    → ((relocation.kind == 10) ≡ true) ⊎ (((relocation.kind == 1) ≡ true) × (is_short_load (here placed side).slots relocation.offset ≡ true))
kind_of placed side relocation patch e =
    let s = stands_at placed side relocation patch e in
    let symbol = symbol_at placed.plan.symbols relocation.symbol in
    let a = provided_ok (not (symbol.section == 0)) _ _ _ s.with in
    by_kind placed (here placed side).slots symbol relocation.offset (from placed side + relocation.offset / 8) patch
    (relocation.kind == 10) (relocation.kind == 1) (nat_lt (relocation.offset / 8 + 1) (count placed side)) a.1
