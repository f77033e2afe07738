-- The setup: what a program with data runs before its entry, so that they have their bytes at the start.
use Rattle.std.specs.Prelude.{ℕ, zero, suc, ◌+◌, ◌-◌, ◌*◌, ◌/◌, ◌%◌, ◌==◌, Bool, if◌then◌else◌, List, [], ◌∷◌, ◌++◌, Result, Ok, length, slice_index}
use Rattle.std.specs.List.{list_all}
use Rattle.byteorder.specs.Endian.{little_bytes}
use Rattle.bpf_link.specs.declared.fault.LinkFault.{LinkFault}
use Rattle.bpf_link.specs.Data.{Numbered}
use Rattle.bpf_link.specs.Layout.{u64_at}
use Rattle.bpf_link.specs.Plans.{after, steps}
use Rattle.bpf_link.specs.Images.{image_of}

-- `ldmapval r3, MAP, AT`, where AT is a whole number of 256 (RFC 9669, section 5.4).
abbrev pub place_words : ℕ → ℕ → List ℕ
place_words map at =
    0x18 ∷ (0x63 ∷ (0 ∷ (0 ∷ (map ∷ (0 ∷ (0 ∷ (0 ∷ (0 ∷ (0 ∷ (0 ∷ (0 ∷ (0 ∷ (at / 256 % 256 ∷ (0 ∷ (0 ∷ [])))))))))))))))

-- `lddw r4, N` and `stxdw [r3+OFFSET], r4`: N is what stands at a place of the bytes.
abbrev pub store_words : List ℕ → ℕ → ℕ → List ℕ
store_words image at offset =
    0x18 ∷ (0x04 ∷ (0 ∷ (0 ∷ (slice_index image at ∷ (slice_index image (at + 1) ∷ (slice_index image (at + 2) ∷ (slice_index image (at + 3)
    ∷ (0 ∷ (0 ∷ (0 ∷ (0 ∷ (slice_index image (at + 4) ∷ (slice_index image (at + 5) ∷ (slice_index image (at + 6) ∷ (slice_index image (at + 7)
    ∷ (0x7b ∷ (0x43 ∷ (offset % 256 ∷ (offset / 256 % 256 ∷ (0 ∷ (0 ∷ (0 ∷ (0 ∷ [])))))))))))))))))))))))

-- r3 is a place in the map again at each 32,768 bytes, since an offset is below that.
abbrev pub with_place : ℕ → ℕ → List ℕ → List ℕ
with_place map at setup = if at % 32768 == 0 then setup ++ place_words map at else setup

-- Eight bytes that aren't zero are stored.
abbrev pub with_store : List ℕ → ℕ → List ℕ → List ℕ
with_store image at setup = if u64_at image at == 0 then setup else setup ++ store_words image at (at % 32768)

-- The first n pieces of eight bytes of a map.
abbrev pub with_stores : ℕ → List ℕ → List ℕ → ℕ → List ℕ
with_stores map image setup zero = setup
with_stores map image setup (suc n) = with_store image (8 * n) (with_place map (8 * n) (with_stores map image setup n))

-- All bytes are zero.
abbrev pub is_zero : List ℕ → Bool
is_zero image = list_all (λ byte. byte == 0) image

-- A map is stored where a byte of it isn't zero.
abbrev pub with_image : ℕ → List ℕ → List ℕ → List ℕ
with_image map image setup = if is_zero image then setup else with_stores map image setup (length image / 8)

-- The stores of all maps that are data.
abbrev pub with_section_image : Numbered → ℕ → List ℕ → Result (List ℕ) LinkFault
with_section_image placed k setup =
    after (image_of placed (slice_index placed.taken k)) (λ image. Ok (with_image (length placed.maps + k) image setup))

abbrev pub stores_of : Numbered → Result (List ℕ) LinkFault
stores_of placed = steps (with_section_image placed) [] (length placed.taken)

-- `ja32 +DISTANCE`, in 32 bits of two's complement.
abbrev pub jump_words : ℕ → List ℕ
jump_words distance = 0x06 ∷ (0 ∷ (0 ∷ (0 ∷ little_bytes 4 distance)))

-- `mov r3, 0` and `mov r4, 0`.
abbrev pub clear_words : List ℕ
clear_words = 0xb7 ∷ (0x03 ∷ (0 ∷ (0 ∷ (0 ∷ (0 ∷ (0 ∷ (0 ∷ (0xb7 ∷ (0x04 ∷ (0 ∷ (0 ∷ (0 ∷ (0 ∷ (0 ∷ (0 ∷ [])))))))))))))))

-- A program without a setup. Where its entry isn't the first slot of the code, slot 0 jumps there, and the code begins at slot 1.
abbrev pub with_entry : List ℕ → ℕ → List ℕ
with_entry code entry = if entry == 0 then code else jump_words entry ++ code

-- A program with the setup: slot 0 jumps behind the code, and from the end of the stores it goes on at the entry. The code begins at slot 1.
abbrev pub with_setup : List ℕ → List ℕ → ℕ → List ℕ
with_setup code stores entry =
    if length stores == 0 then with_entry code entry
    else (jump_words (length code / 8) ++ code) ++ (stores ++ clear_words) ++ jump_words ((4294967296 + entry - (length code + length stores + 24) / 8) % 4294967296)
