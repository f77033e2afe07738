-- A patch leaves the bytes of other slots.
use Rattle.std.proofs.Common.{◌≡◌, ◌≢◌, ◌<◌, ◌≤◌, ◌⊎◌, inl, inr, ℕ, ◌+◌, ◌-◌, List, ◌++◌, length, take, drop, get_or, refl, ap, ◌∙◌, arith, get_or-set_other}
use Rattle.std.specs.Prelude.{slice_set, Option, Some, None, is_some, if◌then◌else◌}
use Rattle.std.proofs.lemmas.List.{get_or-append_right, get_or_append_left, get_or-take, get_or-drop}
use Rattle.std.proofs.lemmas.Grind.{common_steps}
use Rattle.byteorder.specs.Endian.{little_bytes}
use Rattle.byteorder.specs.Numbers.{length-bytes_low_first}
use Rattle.bpf_link.specs.declared.patch.Patch.{Patch}
use Rattle.bpf_link.specs.Patches.{with_u32}
use Rattle.bpf_link.specs.Links.{with_slot, with_next, with_patch, patch_width}

pub u32_length : (bytes : List ℕ) (at n : ℕ) → at + 4 ≤ length bytes → length (with_u32 bytes at n) ≡ length bytes
u32_length bytes at n fits = let four : length (little_bytes 4 n) ≡ 4 = length-bytes_low_first 0 4 n in grind (arith, common_steps)

pub u32_low : (bytes : List ℕ) (at n j : ℕ) → at + 4 ≤ length bytes → j < at → get_or (with_u32 bytes at n) j 0 ≡ get_or bytes j 0
u32_low bytes at n j fits low =
    let size : length (take at bytes) ≡ at = grind (arith, common_steps) in
    get_or_append_left (take at bytes) (little_bytes 4 n ++ drop (at + 4) bytes) 0 j (omega arith) ∙ get_or-take at bytes j 0 low

pub u32_high : (bytes : List ℕ) (at n j : ℕ) → at + 4 ≤ length bytes → at + 4 ≤ j → get_or (with_u32 bytes at n) j 0 ≡ get_or bytes j 0
u32_high bytes at n j fits high =
    let size : length (take at bytes) ≡ at = grind (arith, common_steps) in
    get_or-append_right (take at bytes) (little_bytes 4 n ++ drop (at + 4) bytes) at j 0 size (omega arith)
    ∙ get_or-append_right (little_bytes 4 n) (drop (at + 4) bytes) 4 (j - at) 0 (length-bytes_low_first 0 4 n) (omega arith)
    ∙ get_or-drop (at + 4) bytes (j - at - 4) 0
    ∙ ap (λ i. get_or bytes i 0) (omega arith)

pub set_length : (bytes : List ℕ) (at n : ℕ) → length (slice_set bytes at n) ≡ length bytes
set_length bytes at n = grind (arith, common_steps)

pub slot_length : (bytes : List ℕ) (patch : Patch) → patch.at + 8 ≤ length bytes → length (with_slot bytes patch) ≡ length bytes
slot_length bytes patch fits =
    let size = set_length bytes (patch.at + 1) patch.registers in
    u32_length (slice_set bytes (patch.at + 1) patch.registers) (patch.at + 4) patch.imm (omega arith) ∙ size

pub slot_apart : (bytes : List ℕ) (patch : Patch) (j : ℕ) → patch.at + 8 ≤ length bytes → (j < patch.at) ⊎ (patch.at + 8 ≤ j) → get_or (with_slot bytes patch) j 0 ≡ get_or bytes j 0
slot_apart bytes patch j fits (inl low) =
    let size = set_length bytes (patch.at + 1) patch.registers in
    let other : j ≢ patch.at + 1 = omega arith in
    u32_low (slice_set bytes (patch.at + 1) patch.registers) (patch.at + 4) patch.imm j (omega arith) (omega arith)
    ∙ get_or-set_other bytes (patch.at + 1) j patch.registers 0 other
slot_apart bytes patch j fits (inr high) =
    let size = set_length bytes (patch.at + 1) patch.registers in
    let other : j ≢ patch.at + 1 = omega arith in
    u32_high (slice_set bytes (patch.at + 1) patch.registers) (patch.at + 4) patch.imm j (omega arith) (omega arith)
    ∙ get_or-set_other bytes (patch.at + 1) j patch.registers 0 other

-- the slot after it, of a wide load
abbrev pub width : Option ℕ → ℕ
width next = if is_some next then 16 else 8

pub at_least : (next : Option ℕ) → 8 ≤ width next
at_least None = omega arith
at_least (Some n) = omega arith

next_length : (bytes : List ℕ) (at : ℕ) (next : Option ℕ) → at + width next ≤ length bytes → length (with_next bytes at next) ≡ length bytes
next_length bytes at None fits = refl
next_length bytes at (Some n) fits = u32_length bytes (at + 12) n (omega arith)

next_apart : (bytes : List ℕ) (at : ℕ) (next : Option ℕ) (j : ℕ) → at + width next ≤ length bytes → (j < at + 12) ⊎ (at + width next ≤ j) → get_or (with_next bytes at next) j 0 ≡ get_or bytes j 0
next_apart bytes at None j fits side = refl
next_apart bytes at (Some n) j fits (inl low) = u32_low bytes (at + 12) n j (omega arith) low
next_apart bytes at (Some n) j fits (inr high) = u32_high bytes (at + 12) n j (omega arith) (omega arith)

pub patched_length : (bytes : List ℕ) (patch : Patch) → patch.at + patch_width patch ≤ length bytes → length (with_patch bytes patch) ≡ length bytes
patched_length bytes patch fits =
    let least : 8 ≤ width patch.next = at_least patch.next in
    let size : length (with_slot bytes patch) ≡ length bytes = slot_length bytes patch (omega arith) in
    next_length (with_slot bytes patch) patch.at patch.next (omega arith) ∙ size

pub head_kept : (bytes : List ℕ) (patch : Patch) (j : ℕ) → patch.at + patch_width patch ≤ length bytes → j < patch.at + 12 → get_or (with_patch bytes patch) j 0 ≡ get_or (with_slot bytes patch) j 0
head_kept bytes patch j fits low =
    let least : 8 ≤ width patch.next = at_least patch.next in
    let size : length (with_slot bytes patch) ≡ length bytes = slot_length bytes patch (omega arith) in
    next_apart (with_slot bytes patch) patch.at patch.next j (omega arith) (inl low)

pub patched_apart : (bytes : List ℕ) (patch : Patch) (j : ℕ) → patch.at + patch_width patch ≤ length bytes → (j < patch.at) ⊎ (patch.at + patch_width patch ≤ j) → get_or (with_patch bytes patch) j 0 ≡ get_or bytes j 0
patched_apart bytes patch j fits (inl low) =
    let least : 8 ≤ width patch.next = at_least patch.next in
    head_kept bytes patch j fits (omega arith) ∙ slot_apart bytes patch j (omega arith) (inl low)
patched_apart bytes patch j fits (inr high) =
    let least : 8 ≤ width patch.next = at_least patch.next in
    let size : length (with_slot bytes patch) ≡ length bytes = slot_length bytes patch (omega arith) in
    next_apart (with_slot bytes patch) patch.at patch.next j (omega arith) (inr high) ∙ slot_apart bytes patch j (omega arith) (inr (omega arith))
