-- Each mnemonic is found by its name.
use Rattle.std.proofs.Common.{ℕ, ◌≡◌, ◌<◌, [], ◌∷◌, ◌++◌, Bool, true, false, take, drop, length, length-append, codes, arith, List, Some, None, refl, ap, sym, ◌∙◌, option_map, is_some, if◌then◌else◌}
use Rattle.std.specs.Prelude.{find}
use Rattle.std.specs.Str.{bytes_eq}
use Rattle.std.proofs.lemmas.Slice.Eq.{bytes_eq-Decides}
use Rattle.std.proofs.lemmas.List.{append-nil, take-append-drop}
use Rattle.bpf_text.proofs.OperandGrammar.{map-some}
use Rattle.bpf_text.proofs.OperandLists.{and-some}
use Rattle.bpf_text.proofs.PlainTexts.{is_plain, are_plain, list_all-append}
use Rattle.bpf_isa.specs.declared.instruction.Width.{Width}
use Rattle.bpf_isa.specs.declared.instruction.Width.TheVariants.{Bits32, Bits64}
use Rattle.bpf_isa.specs.declared.instruction.Size.{Size}
use Rattle.bpf_isa.specs.declared.instruction.Size.TheVariants.{Word, Half, Byte, Double}
use Rattle.bpf_isa.specs.declared.instruction.LoadSize.{LoadSize}
use Rattle.bpf_isa.specs.declared.instruction.LoadSize.TheVariants.{Plain, Signed}
use Rattle.bpf_isa.specs.declared.instruction.SourceKind.{SourceKind}
use Rattle.bpf_isa.specs.declared.instruction.SourceKind.TheVariants.{Immediate, Register}
use Rattle.bpf_isa.specs.declared.mnemonic.WideKind.{WideKind}
use Rattle.bpf_isa.specs.declared.mnemonic.WideKind.TheVariants.{Number, Map, MapValue}
use Rattle.bpf_isa.specs.declared.instruction.SignedSize.TheVariants as signed
use Rattle.bpf_isa.specs.declared.instruction.BinaryOp.{BinaryOp}
use Rattle.bpf_isa.specs.declared.instruction.BinaryOp.TheVariants as binary
use Rattle.bpf_isa.specs.declared.instruction.Extension.{Extension}
use Rattle.bpf_isa.specs.declared.instruction.Extension.TheVariants.{Byte64, Half64, Word64, Byte32, Half32}
use Rattle.bpf_isa.specs.declared.instruction.ByteOrder.{ByteOrder}
use Rattle.bpf_isa.specs.declared.instruction.ByteOrder.TheVariants.{Little, Big, Swap}
use Rattle.bpf_isa.specs.declared.instruction.SwapWidth.{SwapWidth}
use Rattle.bpf_isa.specs.declared.instruction.SwapWidth.TheVariants as swap
use Rattle.bpf_isa.specs.declared.instruction.Condition.{Condition}
use Rattle.bpf_isa.specs.declared.instruction.Condition.TheVariants as condition
use Rattle.bpf_isa.specs.declared.instruction.AtomicOp.{AtomicOp}
use Rattle.bpf_isa.specs.declared.instruction.AtomicOp.TheVariants as atomic
use Rattle.bpf_isa.specs.declared.mnemonic.Mnemonic.{Mnemonic}
use Rattle.bpf_isa.specs.declared.mnemonic.Mnemonic.TheVariants.{Binary, Negate, SignExtend, SwapBytes, JumpIf, Jump, JumpLong, CallHelper, CallLocal, Exit, Load, Store, Atomic, LoadWide}
use Rattle.bpf_text.specs.declared.names.TheConstants.{STEMS, WIDTHS, EXTENSIONS, SWAP_WIDTHS, SIZES, LOAD_SIZES}
use Rattle.bpf_text.specs.Mnemonics.{name_of, binary_name, width_suffix, extension_suffix, order_name, swap_suffix, condition_name, size_suffix, load_suffix, store_name, atomic_name, atomic_suffix, wide_name}
use Rattle.bpf_text.specs.Scaffolding.Named.{stem_of, suffix_of, whole, with_suffix, behind, mnemonic_with, stem_named, named}

-- arithmetic
named-binary : (width : Width) (op : BinaryOp) → named (name_of (Binary op width)) ≡ Some (Binary op width)
unfolding named stem_named
named-binary Bits32 binary.Add = refl
named-binary Bits64 binary.Add = refl
named-binary width op = refl

-- conditional jumps
named-jump : (width : Width) (c : Condition) → named (name_of (JumpIf c width)) ≡ Some (JumpIf c width)
unfolding named stem_named
named-jump Bits32 condition.Equal = refl
named-jump Bits64 condition.Equal = refl
named-jump width c = refl

-- atomic operations
named-atomic : (width : Width) (op : AtomicOp) → named (name_of (Atomic op width)) ≡ Some (Atomic op width)
unfolding named stem_named
named-atomic Bits32 atomic.Add = refl
named-atomic Bits64 atomic.Add = refl
named-atomic width op = refl

-- byte swaps
named-swap : (order : ByteOrder) (width : SwapWidth) → named (name_of (SwapBytes order width)) ≡ Some (SwapBytes order width)
unfolding named stem_named
named-swap Little swap.Bits16 = refl
named-swap Big swap.Bits16 = refl
named-swap Swap swap.Bits16 = refl
named-swap order width = refl

-- the mnemonics of one part
named-negate : (width : Width) → named (name_of (Negate width)) ≡ Some (Negate width)
unfolding named stem_named
named-negate Bits32 = refl
named-negate width = refl

named-extend : (e : Extension) → named (name_of (SignExtend e)) ≡ Some (SignExtend e)
unfolding named stem_named
named-extend Byte64 = refl
named-extend e = refl

named-load : (size : LoadSize) → named (name_of (Load size)) ≡ Some (Load size)
unfolding named stem_named
named-load (Plain Word) = refl
named-load (Plain Half) = refl
named-load (Plain Byte) = refl
named-load (Plain Double) = refl
named-load (Signed signed.Word) = refl
named-load (Signed signed.Half) = refl
named-load (Signed signed.Byte) = refl

named-store : (size : Size) (kind : SourceKind) → named (name_of (Store size kind)) ≡ Some (Store size kind)
unfolding named stem_named
named-store Word Immediate = refl
named-store Word Register = refl
named-store Half Immediate = refl
named-store Half Register = refl
named-store Byte Immediate = refl
named-store Byte Register = refl
named-store Double Immediate = refl
named-store Double Register = refl

named-wide : (kind : WideKind) → named (name_of (LoadWide kind)) ≡ Some (LoadWide kind)
unfolding named stem_named
named-wide Number = refl
named-wide Map = refl
named-wide MapValue = refl

-- every mnemonic
pub named-name_of : (m : Mnemonic) → named (name_of m) ≡ Some m
unfolding named stem_named
named-name_of (Binary op width) = named-binary width op
named-name_of (Negate width) = named-negate width
named-name_of (SignExtend e) = named-extend e
named-name_of (SwapBytes order width) = named-swap order width
named-name_of (JumpIf c width) = named-jump width c
named-name_of (Load size) = named-load size
named-name_of (Store size kind) = named-store size kind
named-name_of (LoadWide kind) = named-wide kind
named-name_of (Atomic op width) = named-atomic width op
named-name_of Jump = refl
named-name_of m = refl

-- the stem and the suffix are the name
pub name-pieces : (m : Mnemonic) → stem_of m ++ suffix_of m ≡ name_of m
name-pieces (Binary op width) = refl
name-pieces (LoadWide Number) = refl
name-pieces (LoadWide Map) = refl
name-pieces (LoadWide MapValue) = refl
name-pieces m = refl

-- a mnemonic that is found has the name
find-passes : {A : Type 0} (p : A → Bool) (xs : List A) (y : A) → find p xs ≡ Some y → p y ≡ true
find-passes p [] y e = cc
find-passes p (x ∷ xs) y e = go (p x) refl e (λ f. find-passes p xs y f) where
  go : (t : Bool) → p x ≡ t → find p (x ∷ xs) ≡ Some y → (find p xs ≡ Some y → p y ≡ true) → p y ≡ true
  go true h e more = let same : x ≡ y = (let f = rw h at e in cc) in ap p (sym same) ∙ h
  go false h e more = let f = rw h at e in more f

suffixed : {A : Type 0} (make : A → Mnemonic) (stem : List ℕ) (text : A → List ℕ) (all : List A) (s : List ℕ) (m : Mnemonic)
    → ((a : A) → name_of (make a) ≡ stem ++ text a) → option_map make (find (λ a. bytes_eq (text a) s) all) ≡ Some m → name_of m ≡ stem ++ s
suffixed make stem text all s m named e =
    let k = map-some make (find (λ a. bytes_eq (text a) s) all) m e in
    let same = (bytes_eq-Decides (text k.0) s).0 (find-passes (λ a. bytes_eq (text a) s) all k.0 k.1) in
    ap name_of (sym k.2) ∙ named k.0 ∙ ap (λ t. stem ++ t) same

whole-says : (x : Mnemonic) (s : List ℕ) (m : Mnemonic) → name_of x ≡ stem_of x → whole x s ≡ Some m → name_of m ≡ stem_of x ++ s
whole-says x [] m named e = let same : x ≡ m = cc in ap name_of (sym same) ∙ named ∙ sym (append-nil (stem_of x))
whole-says x (b ∷ s) m named e = cc

with_suffix-says : (x : Mnemonic) (s : List ℕ) (m : Mnemonic) → with_suffix x s ≡ Some m → name_of m ≡ stem_of x ++ s
with_suffix-says (Binary op width) s m e = suffixed (Binary op) (binary_name op) width_suffix WIDTHS s m (λ w. refl) e
with_suffix-says (Negate width) s m e = suffixed Negate (codes "neg") width_suffix WIDTHS s m (λ w. refl) e
with_suffix-says (SignExtend extension) s m e = suffixed SignExtend (codes "movsx") extension_suffix EXTENSIONS s m (λ w. refl) e
with_suffix-says (SwapBytes order width) s m e = suffixed (SwapBytes order) (order_name order) swap_suffix SWAP_WIDTHS s m (λ w. refl) e
with_suffix-says (JumpIf c width) s m e = suffixed (JumpIf c) (condition_name c) width_suffix WIDTHS s m (λ w. refl) e
with_suffix-says (Load size) s m e = suffixed Load (codes "ldx") load_suffix LOAD_SIZES s m (λ z. refl) e
with_suffix-says (Store size kind) s m e = suffixed (λ z. Store z kind) (store_name kind) size_suffix SIZES s m (λ z. refl) e
with_suffix-says (Atomic op width) s m e = suffixed (Atomic op) (atomic_name op) atomic_suffix WIDTHS s m (λ w. refl) e
with_suffix-says Jump s m e = whole-says Jump s m refl e
with_suffix-says JumpLong s m e = whole-says JumpLong s m refl e
with_suffix-says CallHelper s m e = whole-says CallHelper s m refl e
with_suffix-says CallLocal s m e = whole-says CallLocal s m refl e
with_suffix-says Exit s m e = whole-says Exit s m refl e
with_suffix-says (LoadWide kind) s m e = whole-says (LoadWide kind) s m refl e

behind-says : (stem name s : List ℕ) → behind stem name ≡ Some s → name ≡ stem ++ s
behind-says stem name s e = go (bytes_eq (take (length stem) name) stem) refl e where
  go : (t : Bool) → bytes_eq (take (length stem) name) stem ≡ t → (if t then Some (drop (length stem) name) else None) ≡ Some s → name ≡ stem ++ s
  go true h e =
      let same : drop (length stem) name ≡ s = cc in
      let begins = (bytes_eq-Decides (take (length stem) name) stem).0 h in
      sym (take-append-drop (length stem) name) ∙ ap (λ x. x ++ drop (length stem) name) begins ∙ ap (λ x. stem ++ x) same
  go false h e = cc

pub named-sound : (name : List ℕ) (m : Mnemonic) → named name ≡ Some m → name_of m ≡ name
unfolding named stem_named
named-sound name m e =
    let found = and-some (λ x. mnemonic_with x name) (find (λ x. is_some (mnemonic_with x name)) STEMS) m e in
    let rest = and-some (with_suffix found.0) (behind (stem_of found.0) name) m found.2 in
    with_suffix-says found.0 rest.0 m rest.2 ∙ sym (behind-says (stem_of found.0) name rest.0 rest.1)

-- names are plain, and not empty
plain-binary : (op : BinaryOp) → (are_plain (binary_name op) ≡ true) × (0 < length (binary_name op))
plain-binary binary.Add = (refl, omega arith)
plain-binary op = (refl, omega arith)

plain-width : (width : Width) → are_plain (width_suffix width) ≡ true
plain-width Bits32 = refl
plain-width Bits64 = refl

plain-condition : (c : Condition) → (are_plain (condition_name c) ≡ true) × (0 < length (condition_name c))
plain-condition condition.Equal = (refl, omega arith)
plain-condition c = (refl, omega arith)

plain-atomic : (op : AtomicOp) → (are_plain (atomic_name op) ≡ true) × (0 < length (atomic_name op))
plain-atomic atomic.Add = (refl, omega arith)
plain-atomic op = (refl, omega arith)

plain-join : (s t : List ℕ) → (are_plain s ≡ true) × (0 < length s) → are_plain t ≡ true
    → (are_plain (s ++ t) ≡ true) × (0 < length (s ++ t))
plain-join s t p q = (list_all-append is_plain s t p.0 q, omega (arith, p.1, length-append s t))

plain-size : (size : Size) → are_plain (size_suffix size) ≡ true
plain-size Word = refl
plain-size size = refl

plain-load : (size : LoadSize) → are_plain (load_suffix size) ≡ true
plain-load (Plain size) = plain-size size
plain-load (Signed signed.Word) = refl
plain-load (Signed signed.Half) = refl
plain-load (Signed signed.Byte) = refl

plain-store : (kind : SourceKind) → (are_plain (store_name kind) ≡ true) × (0 < length (store_name kind))
plain-store Immediate = (refl, omega arith)
plain-store Register = (refl, omega arith)

plain-wide : (kind : WideKind) → (are_plain (wide_name kind) ≡ true) × (0 < length (wide_name kind))
plain-wide Number = (refl, omega arith)
plain-wide kind = (refl, omega arith)

pub plain-name_of : (m : Mnemonic) → (are_plain (name_of m) ≡ true) × (0 < length (name_of m))
plain-name_of (Binary op width) = plain-join (binary_name op) (width_suffix width) (plain-binary op) (plain-width width)
plain-name_of (Negate Bits32) = (refl, omega arith)
plain-name_of (Negate Bits64) = (refl, omega arith)
plain-name_of (SignExtend Byte64) = (refl, omega arith)
plain-name_of (SignExtend Half64) = (refl, omega arith)
plain-name_of (SignExtend Word64) = (refl, omega arith)
plain-name_of (SignExtend Byte32) = (refl, omega arith)
plain-name_of (SignExtend Half32) = (refl, omega arith)
plain-name_of (SwapBytes Little swap.Bits16) = (refl, omega arith)
plain-name_of (SwapBytes Big swap.Bits16) = (refl, omega arith)
plain-name_of (SwapBytes Swap swap.Bits16) = (refl, omega arith)
plain-name_of (JumpIf c width) = plain-join (condition_name c) (width_suffix width) (plain-condition c) (plain-width width)
plain-name_of (Load size) = plain-join (codes "ldx") (load_suffix size) (refl, omega arith) (plain-load size)
plain-name_of (Store size kind) = plain-join (store_name kind) (size_suffix size) (plain-store kind) (plain-size size)
plain-name_of (LoadWide kind) = plain-wide kind
plain-name_of (Atomic op Bits32) = plain-join (atomic_name op) (codes "32") (plain-atomic op) refl
plain-name_of (Atomic op Bits64) = plain-join (atomic_name op) (codes "64") (plain-atomic op) refl
plain-name_of m = (refl, omega arith)
