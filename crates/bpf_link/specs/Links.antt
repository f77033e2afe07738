-- The program that an object holds: the words of its code, with the relocations of these done.
use Rattle.std.specs.Prelude.{◌≡◌, ◌⊎◌, ◌≤◌, All, ℕ, zero, suc, ◌+◌, ◌*◌, ◌/◌, ◌==◌, nat_le, nat_lt, min, Bool, ◌&&◌, Option, Some, None, is_some, List, [], ◌∷◌, ◌++◌, Result, Ok, Err, length, map, slice_set, if◌then◌else◌}
use Rattle.bpf_isa.specs.Checker.{most_slots}
use Rattle.bpf_isa.specs.Maps.{IsShape, most_maps, most_entries}
use Rattle.bpf_isa.specs.declared.maps.MapShape.{MapShape}
use Rattle.bpf_isa.specs.declared.fault.LoadFault.{LoadFault}
use Rattle.bpf_isa.specs.declared.fault.LoadFault.TheVariants.{At}
use Rattle.bpf_isa.specs.declared.fault.PieceFault.TheVariants.{UnknownHelper}
use Rattle.bpf_isa.specs.Words.{u32_at}
use Rattle.bpf_link.specs.declared.fault.LinkFault.{LinkFault}
use Rattle.bpf_link.specs.declared.fault.LinkFault.TheVariants.{LongName, TooLong, TooManyMaps, Program, Helper, Memory}
use Rattle.bpf_link.specs.declared.layout.RelocationEntry.{RelocationEntry}
use Rattle.bpf_link.specs.declared.parts.Side.{Side}
use Rattle.bpf_link.specs.declared.parts.Side.TheVariants.{Code, Text}
use Rattle.bpf_link.specs.declared.plan.Plan.{Plan}
use Rattle.bpf_link.specs.declared.patch.Patch.{Patch}
use Rattle.bpf_link.specs.Missing.{others_in}
use Rattle.bpf_link.specs.Objects.{provided, opened, section_at}
use Rattle.bpf_link.specs.Parts.{Sides, first_of, part_of, slots_in}
use Rattle.bpf_link.specs.Tables.{relocation_at, symbol_at}
use Rattle.bpf_link.specs.Sections.{roles_in}
use Rattle.bpf_link.specs.Plans.{after, steps, plan_of}
use Rattle.bpf_link.specs.Blanked.{blanked}
use Rattle.bpf_link.specs.Data.{Numbered, data_of, numbered, with_section}
use Rattle.bpf_link.specs.Patches.{is_map, patch_of, with_u32}
use Rattle.bpf_link.specs.Setup.{stores_of, with_setup}
use Rattle.bpf_link.specs.Sources.{source_of}
use Rattle.bpf_link.specs.Stubs.{answered, answers}
use Rattle.bpf_link.specs.declared.stubs.Stub.{Stub}

-- A wide load refers to a map.
abbrev pub refers_to_map : Plan → RelocationEntry → Bool
refers_to_map plan relocation =
    (relocation.kind == 1) && (nat_lt relocation.symbol (length plan.symbols) && is_map plan.maps (symbol_at plan.symbols relocation.symbol))

-- Maps, by their places in their section, with the one that a relocation refers to. There are at most `most_maps`.
abbrev pub with_map : Plan → List RelocationEntry → ℕ → List ℕ → Result (List ℕ) LinkFault
with_map plan relocations i maps =
    if refers_to_map plan (relocation_at relocations i) then with_section (symbol_at plan.symbols (relocation_at relocations i).symbol).value maps else Ok maps

abbrev pub with_maps : Plan → List RelocationEntry → List ℕ → Result (List ℕ) LinkFault
with_maps plan relocations maps = steps (with_map plan relocations) maps (length relocations)

-- The maps of a plan: those to which its code refers.
abbrev pub maps_of : Plan → Result (List ℕ) LinkFault
maps_of plan = after (with_maps plan plan.parts.code.relocations []) (λ maps. with_maps plan plan.parts.text.relocations maps)

-- A slot with its registers and imm replaced, and the imm of the slot after it, of a wide load.
abbrev pub with_slot : List ℕ → Patch → List ℕ
with_slot bytes patch = with_u32 (slice_set bytes (patch.at + 1) patch.registers) (patch.at + 4) patch.imm

abbrev pub with_next : List ℕ → ℕ → Option ℕ → List ℕ
with_next bytes at None = bytes
with_next bytes at (Some next) = with_u32 bytes (at + 12) next

abbrev pub with_patch : List ℕ → Patch → List ℕ
with_patch bytes patch = with_next (with_slot bytes patch) patch.at patch.next

-- How many bytes of the slots a patch changes.
abbrev pub patch_width : Patch → ℕ
patch_width patch = if is_some patch.next then 16 else 8

-- The words with one relocation of a part done, and with those below n.
abbrev pub with_relocation : Numbered → Side → ℕ → List ℕ → Result (List ℕ) LinkFault
with_relocation placed side i words = after (patch_of placed side i) (λ patch. Ok (with_patch words patch))

abbrev pub relocated : Numbered → Side → List ℕ → ℕ → Result (List ℕ) LinkFault
relocated placed side words n = steps (with_relocation placed side) words n

-- The slots of a part lie in the words.
pub record HasRoom (parts : Sides) (side : Side) (words : List ℕ) : Type 0 where
  pub room : 8 * (first_of parts side + slots_in (part_of parts side)) ≤ length words

-- The slots of a program as they stand in the object.
abbrev pub unlinked : Sides → List ℕ
unlinked parts = parts.code.slots ++ parts.text.slots

-- The words of a plan: those of its section, then those of `.text`, relocations done.
abbrev pub words_of : Numbered → Result (List ℕ) LinkFault
words_of placed =
    let parts = placed.plan.parts in
    after (relocated placed Code (unlinked parts) (length parts.code.relocations)) (λ words.
    relocated placed Text words (length parts.text.relocations))

-- Want of memory may be answered instead of a fault; else it is that of the answer.
abbrev pub MemoryOr : {A : Type 0} → Result A LinkFault → LinkFault → Type 0
MemoryOr answer fault = (fault ≡ Memory) ⊎ (answer ≡ Err fault)

-- What the program of a section is put together from; an empty name asks for the only code section.
abbrev pub planned : List ℕ → List ℕ → Result Plan LinkFault
planned bytes name =
    provided (nat_le (length name) 255) LongName
    (after (opened bytes) (λ object. plan_of object (roles_in object name object.sections) (length name == 0)))

-- The shape of the map that holds so many bytes of data, at most 65,536: values of 8 bytes, or of 16 where 4,096 of these are too few. It has a byte more,
-- so that the address behind the data is one of the map, unless there is no room for it.
abbrev pub data_shape : ℕ → MapShape
data_shape size =
    if nat_lt size 32768 then record { value_size = 8; entries = size / 8 + 1 } else record { value_size = 16; entries = min (size / 16 + 1) most_entries }

-- The shapes of the maps that sections of data become.
abbrev pub shape_of_data : Plan → ℕ → MapShape
shape_of_data plan section = data_shape (section_at plan.object section).size

abbrev pub data_shapes : Plan → List ℕ → List MapShape
data_shapes plan taken = map (shape_of_data plan) taken

-- Each is the shape of a map that there may be.
abbrev pub AllShapes : List MapShape → Type 0
AllShapes shapes = All IsShape shapes

-- A program: its words, how many maps the object has of its own, and the shapes of those that its data become, which come after them; and how many calls of
-- helpers are answered.
pub record Made : Type 0 where
  pub words : List ℕ
  pub maps : ℕ
  pub data_maps : List MapShape
  pub answered : ℕ

-- Words, and how many calls of helpers are answered in them.
pub record Answered : Type 0 where
  pub words : List ℕ
  pub count : ℕ

-- The words of a plan where slots that aren't reached hold an exit, with calls answered, and with the setup. They are at most as many as a program may have.
abbrev pub program_words : Numbered → List Bool → ℕ → List Stub → Result Answered LinkFault
program_words placed reach entry stubs =
    after (words_of placed) (λ code.
    after (stores_of placed) (λ stores.
    provided (nat_le (length code + length stores) (8 * most_slots)) TooLong
    (Ok (record { words = with_setup (answered stubs (blanked reach code)) stores entry; count = answers stubs (blanked reach code) }))))

-- The program of a plan whose entry is a slot: its words with relocations done and, where its data aren't zeros at the start, the setup.
abbrev pub program_of : ℕ → List Bool → List Stub → Plan → Result Made LinkFault
program_of slot reach stubs plan =
    after (maps_of plan) (λ maps.
    after (data_of plan) (λ taken.
    provided (nat_le (length maps + length taken) most_maps) TooManyMaps
    (after (program_words (numbered plan maps taken) reach slot stubs) (λ done.
    Ok (record { words = done.words; maps = length maps; data_maps = data_shapes plan taken; answered = done.count })))))

-- Maps of one byte each: the object's own shapes are its loader's matter.
abbrev pub plain_maps : ℕ → List MapShape
plain_maps zero = []
plain_maps (suc n) = plain_maps n ++ record { value_size = 1; entries = 1 } ∷ []

-- Those, and after them the maps of data.
abbrev pub least_maps : ℕ → List MapShape → List MapShape
least_maps own shapes = plain_maps own ++ shapes

-- What is told of a slot that calls a helper which there isn't: the helper's number, from where the slot comes, and which others there aren't.
abbrev pub helper_fault : Plan → List ℕ → ℕ → LinkFault
helper_fault plan words slot =
    let helper = u32_at words (8 * slot + 4) in Helper slot helper (source_of plan words slot) (others_in words helper)

-- What is told of words that the checker refuses: from where their slot comes.
abbrev pub told_of : Plan → List ℕ → LoadFault → LinkFault
told_of plan words (At slot UnknownHelper) = helper_fault plan words slot
told_of plan words (At slot fault) = Program (At slot fault) (source_of plan words slot)
told_of plan words refusal = Program refusal None
