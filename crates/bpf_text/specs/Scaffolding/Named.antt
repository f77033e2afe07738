-- Scaffolding: mnemonics by their names, a stem and a suffix.
use Rattle.std.specs.Prelude.{ℕ, if◌then◌else◌, List, [], ◌∷◌, codes, take, drop, length, Option, Some, None, option_map, option_and_then, is_some, find}
use Rattle.std.specs.Str.{bytes_eq}
use Rattle.bpf_isa.specs.declared.instruction.Width.{Width}
use Rattle.bpf_isa.specs.declared.instruction.Size.{Size}
use Rattle.bpf_isa.specs.declared.instruction.LoadSize.{LoadSize}
use Rattle.bpf_isa.specs.declared.instruction.Extension.{Extension}
use Rattle.bpf_isa.specs.declared.instruction.SwapWidth.{SwapWidth}
use Rattle.bpf_isa.specs.declared.mnemonic.Mnemonic.{Mnemonic}
use Rattle.bpf_isa.specs.declared.mnemonic.Mnemonic.TheVariants.{Binary, Negate, SignExtend, SwapBytes, JumpIf, Jump, JumpLong, CallHelper, CallLocal, Exit, Load, Store, Atomic, LoadWide}
use Rattle.bpf_text.specs.declared.names.TheConstants.{STEMS, WIDTHS, EXTENSIONS, SWAP_WIDTHS, SIZES, LOAD_SIZES}
use Rattle.bpf_text.specs.Mnemonics.{binary_name, width_suffix, extension_suffix, order_name, swap_suffix, condition_name, size_suffix, load_suffix, store_name, atomic_name, atomic_suffix, wide_name}

-- What the name of a mnemonic begins with.
abbrev pub stem_of : Mnemonic → List ℕ
stem_of (Binary op width) = binary_name op
stem_of (Negate width) = codes "neg"
stem_of (SignExtend extension) = codes "movsx"
stem_of (SwapBytes order width) = order_name order
stem_of (JumpIf condition width) = condition_name condition
stem_of Jump = codes "ja"
stem_of JumpLong = codes "ja32"
stem_of CallHelper = codes "call"
stem_of CallLocal = codes "callf"
stem_of Exit = codes "exit"
stem_of (Load size) = codes "ldx"
stem_of (Store size kind) = store_name kind
stem_of (Atomic op width) = atomic_name op
stem_of (LoadWide kind) = wide_name kind

-- What it ends with.
abbrev pub suffix_of : Mnemonic → List ℕ
suffix_of (Binary op width) = width_suffix width
suffix_of (Negate width) = width_suffix width
suffix_of (SignExtend extension) = extension_suffix extension
suffix_of (SwapBytes order width) = swap_suffix width
suffix_of (JumpIf condition width) = width_suffix width
suffix_of (Load size) = load_suffix size
suffix_of (Store size kind) = size_suffix size
suffix_of (Atomic op width) = atomic_suffix width
suffix_of _ = []

-- What a suffix says.
abbrev pub width_named : List ℕ → Option Width
width_named s = find (λ w. bytes_eq (width_suffix w) s) WIDTHS

abbrev pub extension_named : List ℕ → Option Extension
extension_named s = find (λ e. bytes_eq (extension_suffix e) s) EXTENSIONS

abbrev pub swap_width_named : List ℕ → Option SwapWidth
swap_width_named s = find (λ w. bytes_eq (swap_suffix w) s) SWAP_WIDTHS

abbrev pub size_named : List ℕ → Option Size
size_named s = find (λ z. bytes_eq (size_suffix z) s) SIZES

abbrev pub load_size_named : List ℕ → Option LoadSize
load_size_named s = find (λ z. bytes_eq (load_suffix z) s) LOAD_SIZES

abbrev pub atomic_width_named : List ℕ → Option Width
atomic_width_named s = find (λ w. bytes_eq (atomic_suffix w) s) WIDTHS

-- A mnemonic without a suffix.
abbrev pub whole : Mnemonic → List ℕ → Option Mnemonic
whole m [] = Some m
whole m (b ∷ s) = None

-- The mnemonic that has this one's stem and this suffix, if there is one.
abbrev pub with_suffix : Mnemonic → List ℕ → Option Mnemonic
with_suffix (Binary op width) s = option_map (Binary op) (width_named s)
with_suffix (Negate width) s = option_map Negate (width_named s)
with_suffix (SignExtend extension) s = option_map SignExtend (extension_named s)
with_suffix (SwapBytes order width) s = option_map (SwapBytes order) (swap_width_named s)
with_suffix (JumpIf condition width) s = option_map (JumpIf condition) (width_named s)
with_suffix (Load size) s = option_map Load (load_size_named s)
with_suffix (Store size kind) s = option_map (λ z. Store z kind) (size_named s)
with_suffix (Atomic op width) s = option_map (Atomic op) (atomic_width_named s)
with_suffix m s = whole m s

-- What stands behind a stem, if a name begins with it.
abbrev pub behind : List ℕ → List ℕ → Option (List ℕ)
behind stem name = if bytes_eq (take (length stem) name) stem then Some (drop (length stem) name) else None

-- The mnemonic that has this one's stem and this name, if there is one.
abbrev pub mnemonic_with : Mnemonic → List ℕ → Option Mnemonic
mnemonic_with m name = option_and_then (with_suffix m) (behind (stem_of m) name)

-- A mnemonic with the stem of a name, if there is one. `STEMS` has each stem once.
unfoldable pub stem_named : List ℕ → Option Mnemonic
stem_named name = find (λ m. is_some (mnemonic_with m name)) STEMS

-- The mnemonic of a name, if there is one.
unfoldable pub named : List ℕ → Option Mnemonic
named name = option_and_then (λ m. mnemonic_with m name) (stem_named name)
