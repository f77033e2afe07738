-- The images of sections of data: they fit their maps, which are zero at the opening.
use Rattle.std.proofs.Common.{◌≡◌, ◌≤◌, ◌<◌, ◌+◌, ◌*◌, ◌/◌, ◌==◌, nat_le, nat_lt, ℕ, zero, suc, Bool, true, false, List, [], ◌∷◌, ◌++◌, Some, Ok, length, refl, sym, ap, ◌∙◌, arith, length-append}
use Rattle.std.specs.Prelude.{if◌then◌else◌, min, option_map, replicate, slice_get, slice_index, slice_range}
use Rattle.std.proofs.lemmas.Bool.Decides.{nat_tests}
use Rattle.std.proofs.lemmas.Grind.{common_steps}
use Rattle.std.proofs.lemmas.List.{length-replicate}
use Rattle.std.proofs.lemmas.Option.{slice_get-get_or, slice_get-map}
use Rattle.byteorder.specs.Endian.{little_bytes}
use Rattle.byteorder.specs.Numbers.{length-bytes_low_first}
use Rattle.bpf_isa.specs.declared.maps.MapShape.{MapShape}
use Rattle.bpf_isa.specs.Programs.{Checked, IsProgram}
use Rattle.bpf_link.specs.declared.fault.LinkFault.TheVariants.{LongData, DataSection}
use Rattle.bpf_link.specs.declared.layout.RelocationEntry.{RelocationEntry}
use Rattle.bpf_link.specs.declared.layout.SectionHeader.{SectionHeader}
use Rattle.bpf_link.specs.declared.plan.Plan.{Plan}
use Rattle.bpf_link.specs.Data.{Numbered, is_among, pointers_of}
use Rattle.bpf_link.specs.Objects.{Elf, provided, section_at}
use Rattle.bpf_link.specs.Tables.{relocation_at, symbol_at}
use Rattle.bpf_link.specs.Images.{filled, whole_size, bytes_of, with_u64, address_of, with_relocated, with_pointer, with_pointers, image_of}
use Rattle.bpf_link.specs.Layout.{u64_at}
use Rattle.bpf_link.specs.Links.{data_shape, shape_of_data, data_shapes}
use Rattle.bpf_link.specs.Plans.{after, steps}
use Rattle.bpf_link.proofs.Inversions.{ok_same, provided_ok, after_ok}
use Rattle.bpf_steps.specs.ByAddress.{byte_at}
use Rattle.bpf_steps.specs.Platform.{context_limit, frame_count, frame_len, map_address}
use Rattle.bpf_steps.specs.Regions.{IsImage, map_len, maps_len, opened}
use Rattle.bpf_steps.proofs.ByAddress.{law_opened}
use Rattle.bpf_isa.specs.Maps.{most_map_bytes}

is_most : (a b : ℕ) → nat_le a b ≡ true → a ≤ b
is_most a b e = grind (arith, nat_tests)

is_below : (a b : ℕ) → nat_lt a b ≡ true → a < b
is_below a b e = grind (arith, nat_tests)

-- The bytes of a section, up to a whole number of eight.
filled_length : (size : ℕ) (bytes : List ℕ) → length (filled size bytes) ≡ size
filled_length size bytes = grind (arith, common_steps)

pub record Fits (size : ℕ) (image : List ℕ) : Type 0 where
  pub most : size ≤ 65536
  pub whole : length image ≡ whole_size size

bytes_fit : (object : Elf) (section : SectionHeader) (bytes : List ℕ) (empty : Bool)
    → (if empty then Ok (filled (whole_size section.size) []) else provided (nat_le (section.offset + section.size) (length object.bytes)) DataSection (Ok (filled (whole_size section.size) (slice_range object.bytes section.offset (section.offset + section.size))))) ≡ Ok bytes
    → length bytes ≡ whole_size section.size
bytes_fit object section bytes true e = ap length (sym (ok_same _ bytes e)) ∙ filled_length (whole_size section.size) []
bytes_fit object section bytes false e =
    let a = provided_ok (nat_le (section.offset + section.size) (length object.bytes)) DataSection _ bytes e in
    ap length (sym (ok_same _ bytes a.1)) ∙ filled_length (whole_size section.size) (slice_range object.bytes section.offset (section.offset + section.size))

of_section : (object : Elf) (section : SectionHeader) (bytes : List ℕ) → bytes_of object section ≡ Ok bytes → Fits section.size bytes
of_section object section bytes e =
    let a = provided_ok (nat_le section.size most_map_bytes) LongData _ bytes e in
    record { most = is_most section.size most_map_bytes a.0; whole = bytes_fit object section bytes (section.kind == 8) a.1 }

-- Addresses in them leave their length.
u64_length : (bytes : List ℕ) (at n : ℕ) → at + 8 ≤ length bytes → length (with_u64 bytes at n) ≡ length bytes
u64_length bytes at n fits = let eight : length (little_bytes 8 n) ≡ 8 = length-bytes_low_first 0 8 n in grind (arith, common_steps)

pointer_length : (placed : Numbered) (relocation : RelocationEntry) (image new : List ℕ) → with_relocated placed relocation image ≡ Ok new → length new ≡ length image
pointer_length placed relocation image new e =
    let symbol = symbol_at placed.plan.symbols relocation.symbol in
    let a = provided_ok (relocation.kind == 2) _ _ new e in
    let b = provided_ok (nat_le (relocation.offset + 8) (length image)) _ _ new a.1 in
    let c = provided_ok (nat_lt relocation.symbol (length placed.plan.symbols)) _ _ new b.1 in
    let d = provided_ok (is_among placed.taken symbol.section) _ _ new c.1 in
    ap length (sym (ok_same _ new d.1)) ∙ u64_length image relocation.offset (address_of placed symbol (u64_at image relocation.offset)) (is_most (relocation.offset + 8) (length image) b.0)

pointers_length : (placed : Numbered) (relocations : List RelocationEntry) (image : List ℕ) (n : ℕ) (new : List ℕ) → steps (with_pointer placed relocations) image n ≡ Ok new → length new ≡ length image
pointers_length placed relocations image zero new e = ap length (sym (ok_same image new e))
pointers_length placed relocations image (suc n) new e =
    let a = after_ok (steps (with_pointer placed relocations) image n) (with_pointer placed relocations n) new e in
    pointer_length placed (relocation_at relocations n) a.0 new a.2 ∙ pointers_length placed relocations image n a.0 a.1

pub image_fits : (placed : Numbered) (section : ℕ) (image : List ℕ) → image_of placed section ≡ Ok image → Fits (section_at placed.plan.object section).size image
image_fits placed section image e =
    let a = after_ok (bytes_of placed.plan.object (section_at placed.plan.object section)) (λ bytes. after (pointers_of placed.plan section) (λ relocations. with_pointers placed relocations bytes)) image e in
    let b = after_ok (pointers_of placed.plan section) (λ relocations. with_pointers placed relocations a.0) image a.2 in
    let first = of_section placed.plan.object (section_at placed.plan.object section) a.0 a.1 in
    record { most = first.most; whole = pointers_length placed b.0 a.0 (length b.0) image b.2 ∙ first.whole }

-- So they are a whole number of eight, at most 65,536, and fit their map.
pub image_whole : (size : ℕ) (image : List ℕ) → Fits size image → 8 * (length image / 8) ≡ length image
image_whole size image fits = let whole = fits.whole in omega arith

pub image_short : (size : ℕ) (image : List ℕ) → Fits size image → length image ≤ 65536
image_short size image fits = let whole = fits.whole in let most = fits.most in omega arith

shape_holds : (size : ℕ) (small : Bool) → nat_lt size 32768 ≡ small → size ≤ 65536 → whole_size size ≤ map_len (if small then record { value_size = 8; entries = size / 8 + 1 } else record { value_size = 16; entries = min (size / 16 + 1) 4096 })
shape_holds size true e most = omega arith
shape_holds size false e most = omega arith

most_of : (a b c : ℕ) → a ≡ b → b ≤ c → a ≤ c
most_of a b c e h = omega arith

below_of : (a b c : ℕ) → a < b → b ≤ c → a < c
below_of a b c h g = omega arith

pub image_within : (size : ℕ) (image : List ℕ) → Fits size image → length image ≤ map_len (data_shape size)
image_within size image fits = most_of (length image) (whole_size size) (map_len (data_shape size)) fits.whole (shape_holds size (nat_lt size 32768) refl fits.most)

-- The map of a section.
get_behind : (own others : List MapShape) (k i : ℕ) → i ≡ length own + k → slice_get (own ++ others) i ≡ slice_get others k
get_behind [] others k i e = let same : i ≡ k = omega arith in ap (slice_get others) same
get_behind (shape ∷ own) others k zero e = absurd (omega arith)
get_behind (shape ∷ own) others k (suc i) e = get_behind own others k i (omega arith)

pub map_shape : (plan : Plan) (taken : List ℕ) (own maps : List MapShape) (n k : ℕ) → maps ≡ own ++ data_shapes plan taken → length own ≡ n → k < length taken → slice_get maps (n + k) ≡ Some (shape_of_data plan (slice_index taken k))
map_shape plan taken own maps n k e count known =
    ap (λ shapes. slice_get shapes (n + k)) e
    ∙ get_behind own (data_shapes plan taken) k (n + k) (omega arith)
    ∙ slice_get-map (shape_of_data plan) taken k
    ∙ ap (option_map (shape_of_data plan)) (slice_get-get_or taken k 0 known)

-- It is zero at the opening.
pub zero_there : (plan : Plan) (program : Checked) (context : List ℕ) (i section : ℕ) (image : List ℕ) → length context ≤ context_limit → slice_get program.maps i ≡ Some (shape_of_data plan section) → Fits (section_at plan.object section).size image
    → (j : ℕ) → j < length image → byte_at (opened program.maps context) (map_address i + j) ≡ Some 0
zero_there plan program context i section image short here fits j low =
    let within = image_within (section_at plan.object section).size image fits in
    (law_opened program context short).2 i j (shape_of_data plan section) here (below_of j (length image) (map_len (shape_of_data plan section)) low within)

zeros_length : (context : List ℕ) (n : ℕ) → length (context ++ replicate n 0) ≡ length context + n
zeros_length context n = length-append context (replicate n 0) ∙ ap (λ k. length context + k) (length-replicate {A = ℕ} n 0)

three_parts : (a b c : ℕ) → a + (b + c) ≡ a + b + c
three_parts a b c = omega arith

pub opened_image : (program : Checked) (context : List ℕ) → IsProgram program → length context ≤ context_limit → IsImage (opened program.maps context)
opened_image program context is short = record {
  short = short;
  tables = is.tables;
  whole = zeros_length context (frame_len * frame_count + maps_len program.maps) ∙ three_parts (length context) (frame_len * frame_count) (maps_len program.maps);
}
