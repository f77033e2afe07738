-- The walk through all of a setup.
use Rattle.std.proofs.Common.{◌≡◌, ◌≤◌, ◌<◌, ◌⊎◌, ◌+◌, ◌-◌, ◌*◌, ◌/◌, ◌%◌, ◌==◌, ℕ, zero, suc, pos, Bool, true, false, List, [], ◌∷◌, ◌++◌, Some, Ok, length, inl, inr, refl, sym, ap, subst, ◌∙◌, arith, append_assoc, length-append}
use Rattle.std.specs.Prelude.{◌+ℤ◌, ◌&&◌, if◌then◌else◌, slice_index, slice_get, unsigned_abs}
use Rattle.std.specs.Int.{byte_at as number_byte, w32, cast_signed}
use Rattle.std.proofs.Math.IntN.{pos-+ℤ-pos}
use Rattle.std.proofs.lemmas.Bool.{cases_lt}
use Rattle.std.proofs.lemmas.Bool.Decides.{nat_tests}
use Rattle.std.proofs.lemmas.List.{append-nil, length-map}
use Rattle.bpf_isa.specs.declared.instruction.Insn.TheVariants.{JumpLong}
use Rattle.bpf_isa.specs.Programs.{Checked, IsProgram, IsStart, IsStartAt, insn_at}
use Rattle.bpf_link.specs.declared.plan.Plan.{Plan}
use Rattle.bpf_link.specs.declared.stubs.Stub.{Stub}
use Rattle.bpf_link.specs.Data.{Numbered, numbered}
use Rattle.bpf_link.specs.Images.{image_of}
use Rattle.bpf_link.specs.Links.{data_shapes, shape_of_data}
use Rattle.bpf_link.specs.Plans.{steps}
use Rattle.bpf_link.specs.Objects.{section_at}
use Rattle.bpf_link.specs.Parts.{slots_in}
use Rattle.bpf_link.specs.Layout.{u64_at}
use Rattle.bpf_link.specs.Setup.{place_words, with_stores, is_zero, with_image, with_section_image, jump_words, clear_words, with_entry}
use Rattle.bpf_link.specs.Stubs.{answered}
use Rattle.bpf_link.proofs.Answered.{answered_length}
use Rattle.bpf_link.proofs.Blanking.{blanked_length}
use Rattle.bpf_link.proofs.Inversions.{ok_same, after_ok}
use Rattle.bpf_steps.specs.ByAddress.{byte_at}
use Rattle.bpf_steps.specs.Platform.{context_limit, map_address}
use Rattle.bpf_steps.specs.Regions.{Image, IsImage, opened}
use Rattle.bpf_steps.specs.Next.{target}
use Rattle.bpf_steps.specs.State.{State, initial}
use Rattle.bpf_link_laws.specs.Setups.{IsLinked, entry_slot, HoldsSection, IsOfData, IsSetUp, SetupsStoreTheData}
use Rattle.bpf_link_laws.proofs.Numbers.{four_bytes, back_is, distance_is}
use Rattle.bpf_link_laws.proofs.Slots.{move_bytes, move_here, jump_here}
use Rattle.bpf_link_laws.proofs.Steps.{within, Gone, still, once, go, step_clear, step_clear_both, step_jump}
use Rattle.bpf_link_laws.proofs.Filling.{Filled, AreZero, none_filled, zero_filled, zero_at}
use Rattle.bpf_link_laws.proofs.Walk.{At, stand, walk, store_part, piece_part, one_more, stores_more}
use Rattle.bpf_link_laws.proofs.Sections.{image_fits, image_whole, image_short, map_shape, zero_there, opened_image}

-- Where the last jump goes to, and the words of a program with a setup.
abbrev distance : List ℕ → List ℕ → ℕ → ℕ
distance code stores slot = (4294967296 + slot - (length code + length stores + 24) / 8) % 4294967296

abbrev with_setup_words : List ℕ → List ℕ → ℕ → List ℕ
with_setup_words code stores slot = (jump_words (length code / 8) ++ code) ++ (stores ++ clear_words) ++ jump_words (distance code stores slot)

-- They are the jump and the code, the stores, and the end.
in_parts : (first code stores clear last : List ℕ) → (first ++ code) ++ (stores ++ clear) ++ last ≡ (first ++ code) ++ (stores ++ (clear ++ last))
in_parts first code stores clear last = simp append_assoc refl

-- One map.
record Imaged (program : Checked) (context : List ℕ) (least : ℕ) (done : List ℕ) (old : Image) (base : ℕ) (image : List ℕ) : Type 0 where
  a : ℕ
  b : ℕ
  m : Image
  at : At program context least done a b m
  filled : Filled old m base image (length image / 8)

abbrev image_words : ℕ → List ℕ → List ℕ → Bool → List ℕ
image_words map image setup none = if none then setup else with_stores map image setup (length image / 8)

imaged : (program : Checked) (context : List ℕ) (least : ℕ) (begin setup rest : List ℕ) (old : Image) (map : ℕ) (image : List ℕ) (a b : ℕ) (none : Bool) → is_zero image ≡ none → IsProgram program → map < 16 → length image ≤ 65536
    → IsImage old → AreZero old (map_address map) image → program.bytes ≡ begin ++ (image_words map image setup none ++ rest) → At program context least (begin ++ setup) a b old
    → Imaged program context least (begin ++ image_words map image setup none) old (map_address map) image
imaged program context least begin setup rest old map image a b true test is few long good zeros e x = record {
  a = a;
  b = b;
  m = old;
  at = x;
  filled = zero_filled old (map_address map) (length image / 8) image good zeros test (omega arith);
}
imaged program context least begin setup rest old map image a b false test is few long good zeros e x =
    let walked = walk program context least begin setup rest old map image a b (length image / 8) is few long (omega arith) zeros e (none_filled old (map_address map) image good) x in
    record { a = walked.a; b = walked.b; m = walked.m; at = walked.at; filled = walked.filled }

image_more : (map : ℕ) (image setup : List ℕ) (none : Bool) → (more : List ℕ) × (image_words map image setup none ≡ setup ++ more)
image_more map image setup true = ([], sym (append-nil setup))
image_more map image setup false = stores_more map image setup (length image / 8)

-- The sections below a number.
record OfSome (placed : Numbered) (k address : ℕ) : Type 0 where
  i : ℕ
  image : List ℕ
  j : ℕ
  known : i < k
  is : image_of placed (slice_index placed.taken i) ≡ Ok image
  inside : j < length image
  place : address ≡ map_address (length placed.maps + i) + j

record Stored (placed : Numbered) (program : Checked) (context : List ℕ) (least : ℕ) (done : List ℕ) (old : Image) (k : ℕ) : Type 0 where
  a : ℕ
  b : ℕ
  m : Image
  at : At program context least done a b m
  is : IsImage m
  same : m ≡ record old { bytes = m.bytes }
  data_of : (i : ℕ) → i < k → HoldsSection placed m i
  others : (address : ℕ) → (OfSome placed k address → ⊥) → byte_at m address ≡ byte_at old address

short_of : (placed : Numbered) (section : ℕ) (image : List ℕ) → image_of placed section ≡ Ok image → length image ≤ 65536
short_of placed section image e = image_short (section_at placed.plan.object section).size image (image_fits placed section image e)

-- The maps of two sections are apart.
apart : (placed : Numbered) (k j : ℕ) → OfSome placed k (map_address (length placed.maps + k) + j) → ⊥
apart placed k j o =
    let short = short_of placed (slice_index placed.taken o.i) o.image o.is in
    let known = o.known in
    let inside = o.inside in
    let place = o.place in
    absurd (omega arith)

-- One more section.
added : (placed : Numbered) (program : Checked) (context : List ℕ) (least : ℕ) (before done image : List ℕ) (old : Image) (k : ℕ) → image_of placed (slice_index placed.taken k) ≡ Ok image
    → (known : Stored placed program context least before old k) → Imaged program context least done known.m (map_address (length placed.maps + k)) image
    → Stored placed program context least done old (suc k)
added placed program context least before done image old k here known im =
    let base = map_address (length placed.maps + k) in
    let fits = image_fits placed (slice_index placed.taken k) image here in
    let whole = image_whole (section_at placed.plan.object (slice_index placed.taken k)).size image fits in
    record {
      a = im.a;
      b = im.b;
      m = im.m;
      at = im.at;
      is = im.filled.is;
      same = im.filled.same ∙ ap (λ (i : Image). record i { bytes = im.m.bytes }) known.same;
      data_of = λ i low. elim (cases_lt i k) [
        | inl below ↦
            let holds = known.data_of i below in
            let short = short_of placed (slice_index placed.taken i) holds.image holds.is in
            record {
              image = holds.image;
              is = holds.is;
              bytes = λ j inside. im.filled.outside (map_address (length placed.maps + i) + j) (inl (omega arith)) ∙ holds.bytes j inside;
            }
        | inr from ↦
            let same : k ≡ i = omega arith in
            subst (HoldsSection placed im.m) same (record { image = image; is = here; bytes = λ j inside. im.filled.inside j (omega arith) })
      ];
      others = λ address none.
          let earlier : OfSome placed k address → ⊥ = λ o. none (record { i = o.i; image = o.image; j = o.j; known = omega (arith, o.known); is = o.is; inside = o.inside; place = o.place }) in
          let side : (address < base) ⊎ (base + 8 * (length image / 8) ≤ address) = elim (cases_lt address base) [
            | inl below ↦ inl below
            | inr from ↦ elim (cases_lt address (base + 8 * (length image / 8))) [
              | inl inside ↦ absurd (none (record { i = k; image = image; j = address - base; known = omega arith; is = here; inside = omega arith; place = omega arith }))
              | inr above ↦ inr above
            ]
          ] in
          im.filled.outside address side ∙ known.others address earlier;
    }

-- All sections.
pub record Ready (placed : Numbered) (program : Checked) (context : List ℕ) : Type 0 where
  pub checked : IsProgram program
  pub short : length context ≤ context_limit
  pub few : (k : ℕ) → k < length placed.taken → length placed.maps + k < 16
  pub shape : (k : ℕ) → k < length placed.taken → slice_get program.maps (length placed.maps + k) ≡ Some (shape_of_data placed.plan (slice_index placed.taken k))

three : (a b c d : List ℕ) → a ++ ((b ++ c) ++ d) ≡ a ++ (b ++ (c ++ d))
three a b c d = ap (λ xs. a ++ xs) (append_assoc b c d)

sections : (placed : Numbered) (program : Checked) (context : List ℕ) (least : ℕ) (begin : List ℕ) (a b k : ℕ) (setup rest : List ℕ) → Ready placed program context → k ≤ length placed.taken
    → steps (with_section_image placed) [] k ≡ Ok setup → program.bytes ≡ begin ++ (setup ++ rest) → At program context least begin a b (opened program.maps context)
    → Stored placed program context least (begin ++ setup) (opened program.maps context) k
sections placed program context least begin a b zero setup rest ready within e whole x = record {
  a = a;
  b = b;
  m = opened program.maps context;
  at = subst (λ words. At program context least words a b (opened program.maps context)) (sym (append-nil begin) ∙ ap (λ words. begin ++ words) (ok_same [] setup e)) x;
  is = opened_image program context ready.checked ready.short;
  same = refl;
  data_of = λ i low. absurd (omega arith);
  others = λ address none. refl;
}
sections placed program context least begin a b (suc k) setup rest ready within e whole x =
    let old = opened program.maps context in
    let map = length placed.maps + k in
    let first = after_ok (steps (with_section_image placed) [] k) (with_section_image placed k) setup e in
    let before : List ℕ = first.0 in
    let second = after_ok (image_of placed (slice_index placed.taken k)) (λ image. Ok (with_image map image before)) setup first.2 in
    let image : List ℕ = second.0 in
    let here : image_of placed (slice_index placed.taken k) ≡ Ok image = second.1 in
    let same : image_words map image before (is_zero image) ≡ setup = ok_same (with_image map image before) setup second.2 in
    let more = image_more map image before (is_zero image) in
    let split : program.bytes ≡ begin ++ (image_words map image before (is_zero image) ++ rest) = whole ∙ ap (λ words. begin ++ (words ++ rest)) (sym same) in
    let earlier : program.bytes ≡ begin ++ (before ++ (more.0 ++ rest)) = split ∙ ap (λ words. begin ++ (words ++ rest)) more.1 ∙ three begin before more.0 rest in
    let known = sections placed program context least begin a b k before (more.0 ++ rest) ready (omega arith) first.1 earlier x in
    let fits = image_fits placed (slice_index placed.taken k) image here in
    let long = short_of placed (slice_index placed.taken k) image here in
    let zeros : AreZero known.m (map_address map) image = λ j low.
    known.others (map_address map + j) (apart placed k j)
    ∙ zero_there placed.plan program context map (slice_index placed.taken k) image ready.short (ready.shape k (omega arith)) fits j low in
    let im = imaged program context least begin before rest known.m map image known.a known.b (is_zero image) refl ready.checked (ready.few k (omega arith)) long known.is zeros split known.at in
    subst (λ words. Stored placed program context least (begin ++ words) old (suc k)) same
    (added placed program context least (begin ++ before) (begin ++ image_words map image before (is_zero image)) image old k here known im)

-- Where there are no stores all images are zero.
filled_some : (image : List ℕ) → is_zero image ≡ false → 0 < length image
filled_some [] e = cc
filled_some (byte ∷ image) e = omega arith

longer : (map : ℕ) (image setup : List ℕ) (n : ℕ) → 16 ≤ length (with_stores map image setup (suc n))
longer map image setup zero =
    let stores = store_part image 0 (u64_at image 0 == 0) in
    let size = length-append setup (place_words map 0 ++ stores) in
    let first = length-append (place_words map 0) stores in
    let same = ap length (one_more map image setup 0) in
    omega arith
longer map image setup (suc n) =
    let before = longer map image setup n in
    let size = length-append (with_stores map image setup (suc n)) (piece_part map image (suc n)) in
    let same = ap length (one_more map image setup (suc n)) in
    omega arith

holds_zero : (placed : Numbered) (program : Checked) (context : List ℕ) (k : ℕ) (image : List ℕ) → Ready placed program context → k < length placed.taken → image_of placed (slice_index placed.taken k) ≡ Ok image
    → is_zero image ≡ true → HoldsSection placed (opened program.maps context) k
holds_zero placed program context k image ready known here none = record {
  image = image;
  is = here;
  bytes = λ j low.
      zero_there placed.plan program context (length placed.maps + k) (slice_index placed.taken k) image ready.short (ready.shape k known) (image_fits placed (slice_index placed.taken k) image here) j low
      ∙ ap Some (sym (zero_at image none j));
}

is_zero_by : (map : ℕ) (image setup : List ℕ) (none : Bool) → is_zero image ≡ none → 8 * (length image / 8) ≡ length image → length (image_words map image setup none) ≡ 0 → (is_zero image ≡ true) × (length setup ≡ 0)
is_zero_by map image setup true test whole e = (test, e)
is_zero_by map image setup false test whole e =
    let some = filled_some image test in
    let pieces : length image / 8 ≡ suc (length image / 8 - 1) = omega arith in
    let much = longer map image setup (length image / 8 - 1) in
    let count = ap (λ n. length (with_stores map image setup n)) pieces in
    absurd (omega arith)

none_stored : (placed : Numbered) (program : Checked) (context : List ℕ) (k : ℕ) (setup : List ℕ) → Ready placed program context → k ≤ length placed.taken
    → steps (with_section_image placed) [] k ≡ Ok setup → length setup ≡ 0 → (i : ℕ) → i < k → HoldsSection placed (opened program.maps context) i
none_stored placed program context zero setup ready within e none i low = absurd (omega arith)
none_stored placed program context (suc k) setup ready within e none i low =
    let map = length placed.maps + k in
    let first = after_ok (steps (with_section_image placed) [] k) (with_section_image placed k) setup e in
    let before : List ℕ = first.0 in
    let second = after_ok (image_of placed (slice_index placed.taken k)) (λ image. Ok (with_image map image before)) setup first.2 in
    let image : List ℕ = second.0 in
    let here : image_of placed (slice_index placed.taken k) ≡ Ok image = second.1 in
    let same : image_words map image before (is_zero image) ≡ setup = ok_same (with_image map image before) setup second.2 in
    let whole = image_whole (section_at placed.plan.object (slice_index placed.taken k)).size image (image_fits placed (slice_index placed.taken k) image here) in
    let zeros = is_zero_by map image before (is_zero image) refl whole (ap length same ∙ none) in
    elim (cases_lt i k) [
      | inl below ↦ none_stored placed program context k before ready (omega arith) first.1 zeros.1 i below
      | inr from ↦
          let last : k ≡ i = omega arith in
          subst (HoldsSection placed (opened program.maps context)) last (holds_zero placed program context k image ready (omega arith) here zeros.0)
    ]

-- The first jump.
record Jumped (program : Checked) (context : List ℕ) (least n : ℕ) : Type 0 where
  gone : (g : Gone program context least (n + 1) 0 0 (opened program.maps context)) × (g.steps ≡ 1)
  start : IsStart program (n + 1)

jumped : (program : Checked) (context : List ℕ) (least n : ℕ) (rest : List ℕ) → IsProgram program → n < 2147483648 → program.bytes ≡ jump_words n ++ rest → Jumped program context least n
jumped program context least n rest is short whole =
    let bytes : ℕ = (number_byte 0 n + 256 * number_byte 1 n) + 65536 * (number_byte 2 n + 256 * number_byte 3 n) in
    let same : bytes ≡ n = four_bytes n (omega arith) in
    let old = opened program.maps context in
    let here : insn_at program 0 ≡ Some (JumpLong (cast_signed w32 bytes)) =
    jump_here program 0 (number_byte 0 n) (number_byte 1 n) (number_byte 2 n) (number_byte 3 n) is is.first (stand program 0 [] (jump_words n) rest whole refl) in
    let distance : cast_signed w32 bytes ≡ pos n = ap (cast_signed w32) same ∙ distance_is n short in
    let there : pos 1 +ℤ cast_signed w32 bytes ≡ pos (n + 1) = ap (λ d. pos 1 +ℤ d) distance ∙ pos-+ℤ-pos 1 n ∙ ap pos (omega arith) in
    let goes : target (within program context 0 0 0 old) (cast_signed w32 bytes) ≡ n + 1 = ap unsigned_abs there in
    record {
      gone = once program context least (n + 1) (step_jump program context 0 0 0 old (cast_signed w32 bytes) here ∙ ap (λ p. within program context p 0 0 old) goes);
      start = subst (IsStartAt program) there (is.lands 0 (pos 1 +ℤ cast_signed w32 bytes) _ here refl);
    }

-- The end of the setup: r3 and r4 are zero again, and the last jump goes to the entry.
ended : (program : Checked) (context : List ℕ) (least : ℕ) (done : List ℕ) (a b : ℕ) (m : Image) (slot k : ℕ) → IsProgram program → (x : At program context least done a b m) → slot < 2147483648 → k < 2147483648 → x.p + 2 ≡ slot + suc k
    → program.bytes ≡ done ++ (clear_words ++ jump_words ((4294967296 + slot - (slot + suc k)) % 4294967296))
    → Gone program context least (slot + 1) 0 0 m
ended program context least done a b m slot k is x short near same e =
    let d : ℕ = (4294967296 + slot - (slot + suc k)) % 4294967296 in
    let bytes : ℕ = (number_byte 0 d + 256 * number_byte 1 d) + 65536 * (number_byte 2 d + 256 * number_byte 3 d) in
    let p = x.p in
    let one = move_here program p 3 is x.start (omega arith) (stand program p done (move_bytes 3) (move_bytes 4 ++ jump_words d) e x.place) in
    let gone_one = go program context least p a b (p + 1) 0 b m m x.gone (λ some. x.low) (step_clear program context p a b m one) in
    let whole_one : program.bytes ≡ (done ++ move_bytes 3) ++ (move_bytes 4 ++ jump_words d) = e ∙ sym (append_assoc done (move_bytes 3) (move_bytes 4 ++ jump_words d)) in
    let more_one = length-append done (move_bytes 3) in
    let place_one : length (done ++ move_bytes 3) ≡ 8 * (p + 1) = omega (arith, x.place) in
    let start_one : IsStart program (p + 1) = is.falls p _ one tt in
    let two = move_here program (p + 1) 4 is start_one (omega arith) (stand program (p + 1) (done ++ move_bytes 3) (move_bytes 4) (jump_words d) whole_one place_one) in
    let gone_two = go program context least (p + 1) 0 b (p + 1 + 1) 0 0 m m gone_one (λ some. omega (arith, x.low)) (step_clear_both program context (p + 1) 0 b m two) in
    let whole_two : program.bytes ≡ ((done ++ move_bytes 3) ++ move_bytes 4) ++ (jump_words d ++ []) = whole_one ∙ sym (append_assoc (done ++ move_bytes 3) (move_bytes 4) (jump_words d)) in
    let more_two = length-append (done ++ move_bytes 3) (move_bytes 4) in
    let place_two : length ((done ++ move_bytes 3) ++ move_bytes 4) ≡ 8 * (p + 1 + 1) = omega arith in
    let start_two : IsStart program (p + 1 + 1) = is.falls (p + 1) _ two tt in
    let three = jump_here program (p + 1 + 1) (number_byte 0 d) (number_byte 1 d) (number_byte 2 d) (number_byte 3 d) is start_two (stand program (p + 1 + 1) ((done ++ move_bytes 3) ++ move_bytes 4) (jump_words d) [] whole_two place_two) in
    let here : p + 1 + 1 ≡ slot + suc k = omega arith in
    let goes : target (within program context (p + 1 + 1) 0 0 m) (cast_signed w32 bytes) ≡ slot + 1 =
    ap (λ n. unsigned_abs (pos (p + 1 + 1 + 1) +ℤ cast_signed w32 n)) (four_bytes d (omega arith))
    ∙ ap (λ n. unsigned_abs (pos (n + 1) +ℤ cast_signed w32 d)) here
    ∙ back_is slot k short near in
    go program context least (p + 1 + 1) 0 0 (slot + 1) 0 0 m m gone_two (λ some. omega (arith, x.low))
    (step_jump program context (p + 1 + 1) 0 0 m (cast_signed w32 bytes) three ∙ ap (λ q. within program context q 0 0 m) goes)

-- What is known of a linked program.
ready : (plan : Plan) (entry : ℕ) (reach : List Bool) (stubs : List Stub) (program : Checked) (linked : IsLinked plan entry reach stubs program) (context : List ℕ) → length context ≤ context_limit
    → Ready (numbered plan linked.laid.maps linked.laid.taken) program context
ready plan entry reach stubs program linked context short =
    let taken = linked.laid.taken in
    let count : length program.maps ≡ length linked.own + length taken =
    ap length linked.shapes ∙ length-append linked.own (data_shapes plan taken) ∙ ap (λ n. length linked.own + n) (length-map taken (shape_of_data plan)) in
    let few = linked.checked.tables.few in
    record {
      checked = linked.checked;
      short = short;
      few = λ k known. omega (arith, linked.count);
      shape = λ k known. map_shape plan taken linked.own program.maps (length linked.laid.maps) k linked.shapes linked.count known;
    }

finished : (plan : Plan) (entry : ℕ) (reach : List Bool) (stubs : List Stub) (program : Checked) (linked : IsLinked plan entry reach stubs program) (context : List ℕ) (m : Image)
    → (g : Gone program context (length linked.laid.code / 8 + 1) (entry_slot linked.laid.stores entry) 0 0 m) → (length linked.laid.stores ≡ 0 → g.steps ≡ (if entry == 0 then 0 else 1))
    → IsImage m → m ≡ record (opened program.maps context) { bytes = m.bytes } → ((k : ℕ) → k < length linked.laid.taken → HoldsSection (numbered plan linked.laid.maps linked.laid.taken) m k)
    → ((a : ℕ) → (IsOfData (numbered plan linked.laid.maps linked.laid.taken) a → ⊥) → byte_at m a ≡ byte_at (opened program.maps context) a)
    → (y : State) × (n : ℕ) × IsSetUp linked.laid (initial program context) y n
finished plan entry reach stubs program linked context m g without image same holds others = (
  within program context (entry_slot linked.laid.stores entry) 0 0 m,
  g.steps,
  record {
    steps = record { state = sym g.state; running = g.running };
    behind = λ k some low. omega (arith, g.past k some low);
    without = without;
    sections = holds;
    others = others;
    image = image;
    rest = ap (λ (i : Image). within program context (entry_slot linked.laid.stores entry) 0 0 i) same;
  },
)

-- Without a setup.
itself : (n : ℕ) → n ≤ n
itself n = omega arith

is_none : (n : ℕ) → (n == 0) ≡ true → n ≡ 0
is_none n e = grind (arith, nat_tests)

is_some : (n : ℕ) → (n == 0) ≡ false → n ≡ 0 → ⊥
is_some n e none = grind (arith, nat_tests)

abbrev Sets : (plan : Plan) (entry : ℕ) (reach : List Bool) (stubs : List Stub) (program : Checked) (linked : IsLinked plan entry reach stubs program) (context : List ℕ) → Type 0
Sets plan entry reach stubs program linked context = (y : State) × (n : ℕ) × IsSetUp linked.laid (initial program context) y n

without_setup : (plan : Plan) (entry : ℕ) (reach : List Bool) (stubs : List Stub) (program : Checked) (linked : IsLinked plan entry reach stubs program) (context : List ℕ) → length context ≤ context_limit
    → entry < 2147483648 → (length linked.laid.stores == 0) ≡ true → (begins : Bool) → (entry == 0) ≡ begins → Sets plan entry reach stubs program linked context
without_setup plan entry reach stubs program linked context short near none true first =
    let least = length linked.laid.code / 8 + 1 in
    let old = opened program.maps context in
    let known = ready plan entry reach stubs program linked context short in
    let at : 0 ≡ entry_slot linked.laid.stores entry = sym (ap (λ b. if b && (entry == 0) then 0 else entry + 1) none ∙ ap (λ b. if true && b then 0 else entry + 1) first) in
    let count : 0 ≡ (if entry == 0 then 0 else 1) = sym (ap (λ b. if b then 0 else 1) first) in
    let way : (p : ℕ) → 0 ≡ p → (g : Gone program context least p 0 0 old) × (g.steps ≡ 0) = λ p e. subst (λ q. (g : Gone program context least q 0 0 old) × (g.steps ≡ 0)) e (still program context least) in
    let there = way (entry_slot linked.laid.stores entry) at in
    finished plan entry reach stubs program linked context old there.0 (λ stores. there.1 ∙ count) (opened_image program context linked.checked short) refl
    (none_stored (numbered plan linked.laid.maps linked.laid.taken) program context (length linked.laid.taken) linked.laid.stores known (itself (length linked.laid.taken)) linked.laid.stored (is_none (length linked.laid.stores) none))
    (λ a other. refl)
without_setup plan entry reach stubs program linked context short near none false first =
    let least = length linked.laid.code / 8 + 1 in
    let old = opened program.maps context in
    let slot = entry in
    let code = answered stubs linked.laid.code in
    let known = ready plan entry reach stubs program linked context short in
    let at : slot + 1 ≡ entry_slot linked.laid.stores slot = sym (ap (λ b. if b && (slot == 0) then 0 else slot + 1) none ∙ ap (λ b. if true && b then 0 else slot + 1) first) in
    let count : 1 ≡ (if slot == 0 then 0 else 1) = sym (ap (λ b. if b then 0 else 1) first) in
    let whole : program.bytes ≡ jump_words slot ++ code = linked.laid.whole ∙ ap (λ b. if b then with_entry code slot else with_setup_words code linked.laid.stores slot) none ∙ ap (λ b. if b then code else jump_words slot ++ code) first in
    let jump = jumped program context least slot code linked.checked near whole in
    let way : (p : ℕ) → slot + 1 ≡ p → (g : Gone program context least p 0 0 old) × (g.steps ≡ 1) = λ p e. subst (λ q. (g : Gone program context least q 0 0 old) × (g.steps ≡ 1)) e jump.gone in
    let there = way (entry_slot linked.laid.stores slot) at in
    finished plan entry reach stubs program linked context old there.0 (λ stores. there.1 ∙ count) (opened_image program context linked.checked short) refl
    (none_stored (numbered plan linked.laid.maps linked.laid.taken) program context (length linked.laid.taken) linked.laid.stores known (itself (length linked.laid.taken)) linked.laid.stored (is_none (length linked.laid.stores) none))
    (λ a other. refl)

-- With one.
with_it : (plan : Plan) (entry : ℕ) (reach : List Bool) (stubs : List Stub) (program : Checked) (linked : IsLinked plan entry reach stubs program) (context : List ℕ) → length context ≤ context_limit
    → (n : ℕ) → length (answered stubs linked.laid.code) ≡ 8 * n → length linked.laid.code / 8 ≡ n → entry ≤ n → n < 65536 → length program.bytes ≤ 8 * 65535 → (length linked.laid.stores == 0) ≡ false → Sets plan entry reach stubs program linked context
with_it plan entry reach stubs program linked context short n size pieces inside few limit some =
    let least = length linked.laid.code / 8 + 1 in
    let old = opened program.maps context in
    let slot = entry in
    let stores = linked.laid.stores in
    let maps = linked.laid.maps in
    let taken = linked.laid.taken in
    let code = answered stubs linked.laid.code in
    let known = ready plan entry reach stubs program linked context short in
    let whole : program.bytes ≡ with_setup_words code stores slot = linked.laid.whole ∙ ap (λ b. if b then with_entry code slot else with_setup_words code stores slot) some in
    let last : List ℕ = jump_words (distance code stores slot) in
    let begin : List ℕ = jump_words n ++ code in
    let first : length code / 8 ≡ n = omega arith in
    let split : program.bytes ≡ begin ++ (stores ++ (clear_words ++ last)) = whole ∙ in_parts (jump_words (length code / 8)) code stores clear_words last ∙ ap (λ k. (jump_words k ++ code) ++ (stores ++ (clear_words ++ last))) first in
    let jump = jumped program context least n (code ++ (stores ++ (clear_words ++ last))) linked.checked (omega arith) (split ∙ append_assoc (jump_words n) code (stores ++ (clear_words ++ last))) in
    let begun = length-append (jump_words n) code in
    let at : At program context least begin 0 0 old = record { p = n + 1; place = omega arith; start = jump.start; low = omega arith; gone = jump.gone.0 } in
    let st = sections (numbered plan maps taken) program context least begin 0 0 (length taken) stores (clear_words ++ last) known (omega arith) linked.laid.stored split at in
    let ends = length-append begin stores in
    let place = st.at.place in
    let low = st.at.low in
    let all = length-append (begin ++ stores) (clear_words ++ last) in
    let total = ap length (split ∙ sym (append_assoc begin stores (clear_words ++ last))) in
    let k = st.at.p + 1 - slot in
    let here : st.at.p + 2 ≡ slot + suc k = omega arith in
    let back : (length code + length stores + 24) / 8 ≡ slot + suc k = omega arith in
    let turned : program.bytes ≡ (begin ++ stores) ++ (clear_words ++ jump_words ((4294967296 + slot - (slot + suc k)) % 4294967296)) =
    split ∙ sym (append_assoc begin stores (clear_words ++ last)) ∙ ap (λ d. (begin ++ stores) ++ (clear_words ++ jump_words ((4294967296 + slot - d) % 4294967296))) back in
    let gone = ended program context least (begin ++ stores) st.a st.b st.m slot k linked.checked st.at (omega arith) (omega arith) here turned in
    let slot_is : slot + 1 ≡ entry_slot stores slot = sym (ap (λ b. if b && (slot == 0) then 0 else slot + 1) some) in
    finished plan entry reach stubs program linked context st.m (subst (λ p. Gone program context least p 0 0 st.m) slot_is gone) (λ none. absurd (is_some (length stores) some none)) st.is st.same st.data_of
    (λ a other. st.others a (λ o. other (record { k = o.i; image = o.image; j = o.j; known = o.known; is = o.is; inside = o.inside; place = o.place })))

by_stores : (plan : Plan) (entry : ℕ) (reach : List Bool) (stubs : List Stub) (program : Checked) (linked : IsLinked plan entry reach stubs program) (context : List ℕ) → length context ≤ context_limit
    → (n : ℕ) → length (answered stubs linked.laid.code) ≡ 8 * n → length linked.laid.code / 8 ≡ n → entry ≤ n → n < 65536 → length program.bytes ≤ 8 * 65535 → (none : Bool) → (length linked.laid.stores == 0) ≡ none → Sets plan entry reach stubs program linked context
by_stores plan entry reach stubs program linked context short n size pieces inside few limit true none = without_setup plan entry reach stubs program linked context short (omega arith) none (entry == 0) refl
by_stores plan entry reach stubs program linked context short n size pieces inside few limit false some = with_it plan entry reach stubs program linked context short n size pieces inside few limit some

-- The code is at least as short as the program.
code_within : (code stores : List ℕ) (slot : ℕ) (none begins : Bool) → length code ≤ length (if none then (if begins then code else jump_words slot ++ code) else with_setup_words code stores slot)
code_within code stores slot true true = omega arith
code_within code stores slot true false = let more = length-append (jump_words slot) code in omega arith
code_within code stores slot false begins =
    let first = jump_words (length code / 8) in
    let last = jump_words (distance code stores slot) in
    let more = length-append first code in
    let all = length-append (first ++ code) (stores ++ (clear_words ++ last)) in
    let same = ap length (in_parts first code stores clear_words last) in
    omega arith

pub law : SetupsStoreTheData
law plan entry reach stubs program linked context short =
    let code = answered stubs linked.laid.code in
    let n = slots_in plan.parts.code + slots_in plan.parts.text in
    let size : length linked.laid.code ≡ 8 * n = ap length linked.laid.blank ∙ blanked_length reach linked.laid.relocated ∙ linked.laid.laid.size in
    let kept = answered_length stubs linked.laid.code in
    let slots = linked.checked.slots in
    let most = linked.checked.short in
    let fits : length code ≤ length program.bytes =
    subst (λ words. length code ≤ length words) (sym linked.laid.whole) (code_within code linked.laid.stores entry (length linked.laid.stores == 0) (entry == 0)) in
    let slot = linked.laid.inside in
    by_stores plan entry reach stubs program linked context short n (kept ∙ size) (omega arith) (omega arith) (omega arith) (omega arith) (length linked.laid.stores == 0) refl
