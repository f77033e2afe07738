-- What lengths of maps say of the slots of a program.
use Rattle.std.proofs.Common.{◌≡◌, ◌<◌, ◌≤◌, ◌⊎◌, inl, inr, ℕ, ◌+◌, ◌*◌, Bool, false, List, [], ◌∷◌, ◌++◌, Option, Some, None, length, get_or, sym, ap, ◌∙◌, subst, arith, lit≤, mul-le-mul_left}
use Rattle.std.specs.Prelude.{◌↔◌, IfNone, IfSome, IsTrue, MatchOption, slice_get}
use Rattle.std.specs.Option.{option_map_or}
use Rattle.std.proofs.lemmas.Bool.{cases_lt}
use Rattle.std.proofs.lemmas.List.{get_or-replicate, get_or_append_left, get_or_push}
use Rattle.std.proofs.lemmas.List.Elements.{All-get_or}
use Rattle.std.proofs.lemmas.Option.{slice_get-get_or, slice_get_past}
use borrow.Author.Count.{below_more, below_none}
use Rattle.bpf_isa.specs.declared.instruction.Insn.{Insn}
use Rattle.bpf_isa.specs.declared.instruction.WideValue.{WideValue}
use Rattle.bpf_isa.specs.declared.instruction.Insn.TheVariants.{LoadWide}
use Rattle.bpf_isa.specs.declared.instruction.WideValue.TheVariants.{Number, Map, MapValue}
use Rattle.bpf_isa.specs.declared.demands.Lengths.{Lengths}
use Rattle.bpf_isa.specs.declared.maps.MapShape.{MapShape}
use Rattle.bpf_isa.specs.declared.fault.LoadFault.{LoadFault}
use Rattle.bpf_isa.specs.declared.fault.LoadFault.TheVariants.{At, Memory}
use Rattle.bpf_isa.specs.declared.fault.WordFault.TheVariants.{UnknownInstruction, RegisterAboveTen, UnusedField, CutOff}
use Rattle.bpf_isa.specs.declared.fault.PieceFault.{PieceFault}
use Rattle.bpf_isa.specs.declared.fault.PieceFault.TheVariants.{Word, WritesFramePointer, NoTarget, RunsOff, UnknownHelper, NoMap}
use Rattle.bpf_isa.specs.Checker.{AreSlots, is_start, piece_at, IsStartIn, MapExists, HasFault, HasNoFault, IsFirstFault, IsAccepted, IsRefused}
use Rattle.bpf_isa.specs.Faults.{IsLeast, piece_fault}
use Rattle.bpf_isa.specs.Maps.{IsShape, AreMaps}
use Rattle.bpf_isa.specs.Scaffolding.Checking.{IsSound}
use Rattle.bpf_isa.specs.Scaffolding.Codec.{IsRead}
use Rattle.bpf_isa.specs.Scaffolding.Demands.{largest_maps, bytes_in, Meet, AreClear, AreWanted, AreWantedAt, AreDemands, Says}
use Rattle.bpf_isa.proofs.BrokenRules.{no_fault}

abbrev size_of : MapShape → ℕ
size_of shape = shape.value_size * shape.entries

some_size : (o : Option MapShape) (shape : MapShape) → o ≡ Some shape → option_map_or size_of o 0 ≡ size_of shape
some_size o shape e = ap (λ v. option_map_or size_of v 0) e

none_size : (o : Option MapShape) → o ≡ None → option_map_or size_of o 0 ≡ 0
none_size o e = ap (λ v. option_map_or size_of v 0) e

-- the bytes of a map that is there, and of one that isn't
there : (maps : List MapShape) (m : ℕ) (d : MapShape) → m < length maps → bytes_in maps m ≡ size_of (get_or maps m d)
there maps m d inside = some_size _ _ (slice_get-get_or maps m d inside)

pub past : (maps : List MapShape) (m : ℕ) → length maps ≤ m → bytes_in maps m ≡ 0
past maps m outside = none_size _ (slice_get_past maps m outside)

abbrev one_byte : MapShape
one_byte = record { value_size = 1; entries = 1 }

product_filled : (a b : ℕ) → 0 < a → 0 < b → 1 ≤ a * b
product_filled a b p q = omega (arith, mul-le-mul_left a q)

shape_at : (maps : List MapShape) (m : ℕ) → AreMaps maps → m < length maps → IsShape (get_or maps m one_byte)
shape_at maps m are inside = All-get_or IsShape maps m one_byte inside are.shapes

filled : (maps : List MapShape) (m : ℕ) → AreMaps maps → m < length maps → 1 ≤ bytes_in maps m
filled maps m are inside =
    let shape = shape_at maps m are inside in
    let product = product_filled _ _ shape.filled.0 shape.filled.1 in
    subst (λ n. 1 ≤ n) (sym (there maps m one_byte inside)) product

within : (maps : List MapShape) (m : ℕ) → AreMaps maps → bytes_in maps m ≤ 65536
within maps m are = elim (cases_lt m (length maps)) [
  | inl inside ↦ subst (λ n. n ≤ 65536) (sym (there maps m one_byte inside)) ((shape_at maps m are inside).total)
  | inr outside ↦ omega (arith, past maps m outside)
]

-- a map is there when it has a byte, and a byte of it when it has more bytes than that one's offset
pub map_there : (maps : List MapShape) (m : ℕ) → AreMaps maps → (1 ≤ bytes_in maps m) ↔ (m < length maps)
map_there maps m are = (
  λ some. (elim (cases_lt m (length maps)) [ inl inside ↦ inside | inr outside ↦ absurd (omega (arith, some, past maps m outside)) ]),
  λ inside. filled maps m are inside,
)

offset_there : (o : Option MapShape) (k : ℕ) → (k + 1 ≤ option_map_or size_of o 0) ↔ MatchOption o ⊥ (λ shape. k < shape.value_size * shape.entries)
offset_there None k = (λ h. absurd (omega (arith, h)), λ h. absurd h)
offset_there (Some shape) k = (λ h. omega (arith, h), λ h. omega (arith, h))

pub byte_there : (maps : List MapShape) (m k : ℕ) → (k + 1 ≤ bytes_in maps m) ↔ MatchOption (slice_get maps m) ⊥ (λ shape. k < shape.value_size * shape.entries)
byte_there maps m k = offset_there (slice_get maps m) k

-- the largest table has what any has
abbrev largest_shape : MapShape
largest_shape = record { value_size = 256; entries = 256 }

largest_at : (m : ℕ) → m < 16 → bytes_in largest_maps m ≡ 65536
largest_at m below = there largest_maps m one_byte below ∙ ap size_of (get_or-replicate 16 m largest_shape one_byte below)

pub in_range : (m n : ℕ) → 1 ≤ n → n ≤ bytes_in largest_maps m → (m < 16) × (n ≤ 65536)
in_range m n some fits = elim (cases_lt m 16) [
  | inl below ↦ (below, omega (arith, fits, largest_at m below))
  | inr outside ↦ absurd (omega (arith, some, fits, past largest_maps m outside))
]

grown : (maps : List MapShape) (m n : ℕ) → AreMaps maps → 1 ≤ n → n ≤ bytes_in maps m → n ≤ bytes_in largest_maps m
grown maps m n are some fits = elim (cases_lt m (length maps)) [
  | inl inside ↦ omega (arith, are.few, fits, within maps m are, largest_at m (omega (arith, are.few, inside)))
  | inr outside ↦ absurd (omega (arith, some, fits, past maps m outside))
]

wide_in_largest : (maps : List MapShape) (dst : ℕ) (value : WideValue) → AreMaps maps → MapExists maps (LoadWide dst value) → MapExists largest_maps (LoadWide dst value)
wide_in_largest maps dst (Number n) are exists = exists
wide_in_largest maps dst (Map m) are exists = omega (arith, are.few, exists)
wide_in_largest maps dst (MapValue m k) are exists = (byte_there largest_maps m k).0 (grown maps m (k + 1) are (omega arith) ((byte_there maps m k).1 exists))

in_largest : (maps : List MapShape) (insn : Insn) → AreMaps maps → MapExists maps insn → MapExists largest_maps insn
in_largest maps (LoadWide dst value) are exists = wide_in_largest maps dst value are exists
in_largest maps _ are exists = tt

-- a fault with the largest maps is one with all, and no other fault depends on maps
with_maps : (bytes : List ℕ) (maps : List MapShape) (p : ℕ) → AreMaps maps → (fault : PieceFault) → HasFault bytes largest_maps p fault → HasFault bytes maps p fault
with_maps bytes maps p are (Word fault) has = has
with_maps bytes maps p are WritesFramePointer has = has
with_maps bytes maps p are NoTarget has = has
with_maps bytes maps p are RunsOff has = has
with_maps bytes maps p are UnknownHelper has = has
with_maps bytes maps p are NoMap has = (has.0, has.1, λ exists. has.2 (in_largest maps has.0 are exists))

last_number : (fault : PieceFault) → (piece_fault fault).0 ≤ 12
last_number (Word UnknownInstruction) = lit≤ tt
last_number (Word RegisterAboveTen) = lit≤ tt
last_number (Word UnusedField) = lit≤ tt
last_number (Word CutOff) = lit≤ tt
last_number WritesFramePointer = lit≤ tt
last_number NoTarget = lit≤ tt
last_number RunsOff = lit≤ tt
last_number UnknownHelper = lit≤ tt
last_number NoMap = lit≤ tt

least_number : (bytes : List ℕ) (maps : List MapShape) (p n : ℕ) → n ≤ 12 → ((other : PieceFault) → HasFault bytes largest_maps p other → n ≤ (piece_fault other).0) → (other : PieceFault) → HasFault bytes maps p other → n ≤ (piece_fault other).0
least_number bytes maps p n last least (Word fault) has = least (Word fault) has
least_number bytes maps p n last least WritesFramePointer has = least WritesFramePointer has
least_number bytes maps p n last least NoTarget has = least NoTarget has
least_number bytes maps p n last least RunsOff has = least RunsOff has
least_number bytes maps p n last least UnknownHelper has = least UnknownHelper has
least_number bytes maps p n last least NoMap has = last

pub least_with : (bytes : List ℕ) (maps : List MapShape) (p : ℕ) (fault : PieceFault) → AreMaps maps → IsLeast piece_fault (HasFault bytes largest_maps p) fault → IsLeast piece_fault (HasFault bytes maps p) fault
least_with bytes maps p fault are h = record { applies = with_maps bytes maps p are fault h.applies; least = least_number bytes maps p (piece_fault fault).0 (last_number fault) h.least }

-- a slot that has no fault with the largest maps has just that the map is missing, where it is
only_missing : (bytes : List ℕ) (maps : List MapShape) (p : ℕ) → HasNoFault bytes largest_maps p → (other : PieceFault) → HasFault bytes maps p other → 12 ≤ (piece_fault other).0
only_missing bytes maps p clear (Word fault) has = absurd (clear.none (Word fault) has)
only_missing bytes maps p clear WritesFramePointer has = absurd (clear.none WritesFramePointer has)
only_missing bytes maps p clear NoTarget has = absurd (clear.none NoTarget has)
only_missing bytes maps p clear RunsOff has = absurd (clear.none RunsOff has)
only_missing bytes maps p clear UnknownHelper has = absurd (clear.none UnknownHelper has)
only_missing bytes maps p clear NoMap has = lit≤ tt

sound_with : (bytes : List ℕ) (maps : List MapShape) (p : ℕ) (insn : Insn) → IsSound bytes largest_maps p insn → MapExists maps insn → IsSound bytes maps p insn
sound_with bytes maps p insn sound exists = record { spares = sound.spares; lands = sound.lands; whole = sound.whole; falls = sound.falls; helper = sound.helper; names = exists }

-- whether a map exists is decided
wide_decided : (maps : List MapShape) (dst : ℕ) (value : WideValue) → MapExists maps (LoadWide dst value) ⊎ (MapExists maps (LoadWide dst value) → ⊥)
wide_decided maps dst (Number n) = inl tt
wide_decided maps dst (Map m) = elim (cases_lt m (length maps)) [ inl inside ↦ inl inside | inr outside ↦ inr (λ h. omega (arith, h, outside)) ]
wide_decided maps dst (MapValue m k) = elim (cases_lt k (bytes_in maps m)) [
  | inl inside ↦ inl ((byte_there maps m k).0 (omega (arith, inside)))
  | inr outside ↦ inr (λ h. omega (arith, outside, (byte_there maps m k).1 h))
]

pub decided : (maps : List MapShape) (insn : Insn) → MapExists maps insn ⊎ (MapExists maps insn → ⊥)
decided maps (LoadWide dst value) = wide_decided maps dst value
decided maps _ = inl tt

pub exists_where_clear : (bytes : List ℕ) (maps : List MapShape) (p : ℕ) (insn : Insn) → IsRead (piece_at bytes p) insn → HasNoFault bytes maps p → MapExists maps insn
exists_where_clear bytes maps p insn read clear = elim (decided maps insn) [ inl exists ↦ exists | inr missing ↦ absurd (clear.none NoMap (insn, read.reads, missing)) ]

-- one more slot
abbrev both : {A B C : Type 0} → A ↔ B → B ↔ C → A ↔ C
both f g = (λ a. g.0 (f.0 a), λ c. f.1 (g.1 c))

pub clear_none : (bytes : List ℕ) (maps : List MapShape) → AreClear bytes maps 0
clear_none bytes maps = below_none (λ p. IsStartIn bytes p → HasNoFault bytes maps p)

clear_before : (bytes : List ℕ) (maps : List MapShape) (p : ℕ) → AreClear bytes maps (p + 1) → AreClear bytes maps p
clear_before bytes maps p clear q below = clear q (omega (arith, below))

clear_more : (bytes : List ℕ) (maps : List MapShape) (p : ℕ) → AreClear bytes maps p → (IsStartIn bytes p → HasNoFault bytes maps p) → AreClear bytes maps (p + 1)
clear_more bytes maps p before here = below_more (λ q. IsStartIn bytes q → HasNoFault bytes maps q) p before here

not_both : (b : Bool) → b ≡ false → IsTrue b → ⊥
not_both b e h = cc

no_start : (bytes : List ℕ) (p : ℕ) → is_start bytes p ≡ false → IsStartIn bytes p → ⊥
no_start bytes p e start = not_both (is_start bytes p) e start.1

pub second_slot : (bytes : List ℕ) (p : ℕ) (lengths : List ℕ) → is_start bytes p ≡ false → AreWanted bytes p lengths → AreWantedAt bytes p lengths
second_slot bytes p lengths e wanted = record {
  enough = λ maps are. both (wanted maps are) (λ before. clear_more bytes maps p before (λ start. absurd (no_start bytes p e start)), clear_before bytes maps p);
  missing = λ maps are before unmet. absurd (unmet ((wanted maps are).1 before));
}

module _ (bytes : List ℕ) (p : ℕ) (insn : Insn) (slots : AreSlots bytes) (start : IsStartIn bytes p) (read : IsRead (piece_at bytes p) insn) (sound : IsSound bytes largest_maps p insn) (clear : HasNoFault bytes largest_maps p) where
  clear_with : (maps : List MapShape) → MapExists maps insn → HasNoFault bytes maps p
  clear_with maps exists = no_fault bytes maps p insn read (sound_with bytes maps p insn sound exists)

  missing_with : (maps : List MapShape) → AreClear bytes maps p → (MapExists maps insn → ⊥) → IsFirstFault bytes maps p NoMap
  missing_with maps before missing = record {
    slots = slots;
    start = start;
    least = record { applies = (insn, read.reads, missing); least = only_missing bytes maps p clear };
    before = before;
  }

  pub one_start : (before after : List ℕ) → AreWanted bytes p before → ((maps : List MapShape) → AreMaps maps → Meet maps after ↔ (Meet maps before × MapExists maps insn)) → AreWantedAt bytes p after
  one_start before after wanted more = record {
    enough = λ maps are. (
      λ met. (let parts = (more maps are).0 met in clear_more bytes maps p ((wanted maps are).0 parts.0) (λ _. clear_with maps parts.1)),
      λ all. (more maps are).1 ((wanted maps are).1 (clear_before bytes maps p all), exists_where_clear bytes maps p insn read (all p (omega arith) start)),
    );
    missing = λ maps are clear_so_far unmet. missing_with maps clear_so_far (λ exists. unmet ((more maps are).1 ((wanted maps are).1 clear_so_far, exists)));
  }

-- what slots want, so far and in the end
abbrev pub AreEach : List ℕ → List Lengths → ℕ → Type 0
AreEach bytes wanted n = (p : ℕ) (d : Lengths) → p < n → AreWantedAt bytes p (get_or wanted p d).bytes

pub more_each : (bytes : List ℕ) (wanted : List Lengths) (l : Lengths) (n : ℕ) → length wanted ≡ n → AreEach bytes wanted n → AreWantedAt bytes n l.bytes → AreEach bytes (wanted ++ l ∷ []) (n + 1)
more_each bytes wanted l n size before here p d below =
    below_more (λ q. AreWantedAt bytes q (get_or (wanted ++ l ∷ []) q d).bytes) n
    (λ q inside. subst (λ (x : Lengths). AreWantedAt bytes q x.bytes) (sym (get_or_append_left wanted (l ∷ []) d q (omega (arith, inside, size)))) (before q d inside))
    (subst (λ (x : Lengths). AreWantedAt bytes n x.bytes) (sym (get_or_push wanted l d n size)) here)
    p below

each_of : (bytes : List ℕ) (wanted : List Lengths) (n : ℕ) → length wanted ≡ n → AreEach bytes wanted n → AreEach bytes wanted (length wanted)
each_of bytes wanted n size each p d below = each p d (omega (arith, below, size))

not_memory : (p : ℕ) (fault : PieceFault) → ◌≡◌ {A = LoadFault} (At p fault) Memory → ⊥
not_memory p fault e = cc

pub up_to_fault : (bytes : List ℕ) (wanted : List Lengths) (p : ℕ) (fault : PieceFault) → AreSlots bytes → length wanted ≡ p → AreEach bytes wanted p → IsStartIn bytes p
    → ((maps : List MapShape) → AreMaps maps → IsLeast piece_fault (HasFault bytes maps p) fault) → AreDemands bytes wanted (Some (At p fault))
up_to_fault bytes wanted p fault slots size each start least = record {
  each = each_of bytes wanted p size each;
  rest = λ maps are clear. (record { slots = slots; start = start; least = least maps are; before = λ q below at. clear q (omega (arith, below, size)) at }, not_memory p fault);
}

pub all_slots : (bytes : List ℕ) (wanted : List Lengths) (n : ℕ) → AreSlots bytes → 8 * n ≡ length bytes → length wanted ≡ n → AreEach bytes wanted n → AreDemands bytes wanted None
all_slots bytes wanted n slots whole size each = record {
  each = each_of bytes wanted n size each;
  rest = λ maps are clear. record { slots = slots; clear = λ p start. (let inside = start.0 in clear p (omega (arith, inside, whole, size)) start) };
}

no_slot : (bytes : List ℕ) (fault : LoadFault) → ((maps : List MapShape) → IsRefused bytes maps fault) → (fault ≡ Memory → ⊥) → AreDemands bytes [] (Some fault)
no_slot bytes fault refused known = record { each = λ p d below. absurd (omega (arith, below)); rest = λ maps are clear. (refused maps, known) }

pub moved : (bytes : List ℕ) (a b : List Lengths) (f g : Option LoadFault) → a ≡ b → f ≡ g → AreDemands bytes b g → AreDemands bytes a f
moved bytes a b f g e h is = subst (λ xs. AreDemands bytes xs f) (sym e) (subst (λ o. AreDemands bytes b o) (sym h) is)

pub of_length : (bytes : List ℕ) (wanted : List Lengths) (found : Option LoadFault) (fault : LoadFault) → wanted ≡ [] → found ≡ Some fault
    → ((maps : List MapShape) → IsRefused bytes maps fault) → (fault ≡ Memory → ⊥) → AreDemands bytes wanted found
of_length bytes wanted found fault e h refused known = moved bytes wanted [] found (Some fault) e h (no_slot bytes fault refused known)

-- the parts of what is said
pub said_none : (bytes : List ℕ) (maps : List MapShape) (found : Option LoadFault) → Says bytes maps found → IfNone found (IsAccepted bytes maps)
said_none bytes maps None said = said
said_none bytes maps (Some fault) said = tt

pub said_fault : (bytes : List ℕ) (maps : List MapShape) (found : Option LoadFault) → Says bytes maps found → IfSome found (IsRefused bytes maps)
said_fault bytes maps None said = tt
said_fault bytes maps (Some fault) said = said.0

pub said_known : (bytes : List ℕ) (maps : List MapShape) (found : Option LoadFault) → Says bytes maps found → IfSome found (λ fault. fault ≡ Memory → ⊥)
said_known bytes maps None said = tt
said_known bytes maps (Some fault) said = said.1
