-- What stands in the slots of a program, whatever the order in which relocations are done.
use Rattle.std.specs.Prelude.{◌≡◌, ◌≤◌, ◌<◌, ℕ, ◌+◌, ◌*◌, Bool, List, ◌∷◌, Ok, Some, length, slice_index}
use Rattle.byteorder.specs.Endian.{little_bytes}
use Rattle.bpf_link.specs.declared.parts.Part.{Part}
use Rattle.bpf_link.specs.declared.parts.Side.{Side}
use Rattle.bpf_link.specs.declared.parts.Side.TheVariants.{Code, Text}
use Rattle.bpf_link.specs.declared.plan.Plan.{Plan}
use Rattle.bpf_link.specs.declared.patch.Patch.{Patch}
use Rattle.bpf_link.specs.Parts.{AreParts, part_of, slots_in}
use Rattle.bpf_link.specs.Tables.{relocation_at}
use Rattle.bpf_link.specs.Patches.{patch_of}
use Rattle.bpf_link.specs.Blanked.{blanked}
use Rattle.bpf_link.specs.Data.{Numbered, data_of, numbered}
use Rattle.bpf_link.specs.Setup.{stores_of, with_setup}
use Rattle.bpf_link.specs.Stubs.{answered}
use Rattle.bpf_link.specs.declared.stubs.Stub.{Stub}
use Rattle.bpf_link.specs.Links.{maps_of, words_of}

-- No relocation of a part changes a slot of it: none names it, and none of a wide load the slot before it.
pub record IsPlain (part : Part) (p : ℕ) : Type 0 where
  pub first : (i : ℕ) → i < length part.relocations → (relocation_at part.relocations i).offset ≡ 8 * p → ⊥
  pub second : (i : ℕ) → i < length part.relocations → (relocation_at part.relocations i).kind ≡ 1 → (relocation_at part.relocations i).offset + 8 ≡ 8 * p → ⊥

-- The bytes of a slot at a place in a section, with the registers and the imm of a patch.
abbrev pub patched_slot : List ℕ → ℕ → Patch → List ℕ
patched_slot slots at patch =
    slice_index slots at ∷ (patch.registers ∷ (slice_index slots (at + 2) ∷ (slice_index slots (at + 3) ∷ little_bytes 4 patch.imm)))

-- The bytes of the slot after it, of a wide load.
abbrev pub next_slot : List ℕ → ℕ → ℕ → List ℕ
next_slot slots at next =
    slice_index slots at ∷ (slice_index slots (at + 1) ∷ (slice_index slots (at + 2) ∷ (slice_index slots (at + 3) ∷ little_bytes 4 next)))

-- A relocation of a part is done in the words: the slot that it names, and the one after it of a wide load, are as the relocation says, and else as in the section.
pub record IsDone (placed : Numbered) (side : Side) (words : List ℕ) (i : ℕ) : Type 0 where
  pub patch : Patch
  pub told : patch_of placed side i ≡ Ok patch
  pub bytes : (k : ℕ) → k < 8
      → slice_index words (patch.at + k) ≡ slice_index (patched_slot (part_of placed.plan.parts side).slots (relocation_at (part_of placed.plan.parts side).relocations i).offset patch) k
  pub next : (next k : ℕ) → patch.next ≡ Some next → k < 8
      → slice_index words (patch.at + 8 + k) ≡ slice_index (next_slot (part_of placed.plan.parts side).slots ((relocation_at (part_of placed.plan.parts side).relocations i).offset + 8) next) k

-- A program has the slots of its section and then those of `.text`. A slot that no relocation names holds the bytes that it has in its section,
-- and each relocation is done.
pub record IsLaid (placed : Numbered) (words : List ℕ) : Type 0 where
  pub size : length words ≡ 8 * (slots_in placed.plan.parts.code + slots_in placed.plan.parts.text)
  pub code : (p k : ℕ) → p < slots_in placed.plan.parts.code → k < 8 → IsPlain placed.plan.parts.code p
      → slice_index words (8 * p + k) ≡ slice_index placed.plan.parts.code.slots (8 * p + k)
  pub text : (p k : ℕ) → p < slots_in placed.plan.parts.text → k < 8 → IsPlain placed.plan.parts.text p
      → slice_index words (8 * (slots_in placed.plan.parts.code + p) + k) ≡ slice_index placed.plan.parts.text.slots (8 * p + k)
  pub code_done : (i : ℕ) → i < length placed.plan.parts.code.relocations → IsDone placed Code words i
  pub text_done : (i : ℕ) → i < length placed.plan.parts.text.relocations → IsDone placed Text words i

-- A program is that with an exit in each slot that isn't reached, and with calls answered; with the setup where its data aren't zeros at the start, and
-- else, where it doesn't begin with the entry, with a jump there.
pub record IsLaidOut (plan : Plan) (slot : ℕ) (reach : List Bool) (stubs : List Stub) (words : List ℕ) : Type 0 where
  pub maps : List ℕ
  pub taken : List ℕ
  pub counted : maps_of plan ≡ Ok maps
  pub referred : data_of plan ≡ Ok taken
  pub parts : AreParts plan.parts
  pub relocated : List ℕ
  pub done : words_of (numbered plan maps taken) ≡ Ok relocated
  pub laid : IsLaid (numbered plan maps taken) relocated
  pub code : List ℕ
  pub blank : code ≡ blanked reach relocated
  pub inside : slot ≤ slots_in plan.parts.code
  pub stores : List ℕ
  pub stored : stores_of (numbered plan maps taken) ≡ Ok stores
  pub whole : words ≡ with_setup (answered stubs code) stores slot
