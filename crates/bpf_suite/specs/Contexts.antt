-- What is said of a context that isn't left as a test wants it.
use Rattle.std.specs.Prelude.{ℕ, suc, ◌+◌, ◌*◌, ◌/◌, ◌==◌, if◌then◌else◌, List, [], ◌∷◌, ◌++◌, codes, decimal, drop, length, take, Ok, Err}
use Rattle.std.specs.Option.{option_map_or}
use Rattle.hex.specs.Hex.{encode_lower}
use Rattle.bpf_steps.specs.Platform.{context_base}
use Rattle.counted_io.specs.Writing.{hexadecimal}
use Rattle.bpf_suite.specs.Bodies.{fits, fits_byte, solid}
use Rattle.bpf_suite.specs.Outcomes.{Outcome}
use Rattle.bpf_suite.specs.Tests.{context, section_for}
use Rattle.bpf_suite.specs.Verdicts.{context_after}
use Rattle.bpf_suite.specs.declared.kind.Part.TheVariants as part
use Rattle.bpf_suite.specs.declared.section.Section.{Section}

-- How many bytes fit a pattern in front of the first that doesn't.
abbrev pub fitting : List ℕ → List ℕ → ℕ
fitting digits [] = 0
fitting digits (b ∷ bytes) = if fits_byte digits b then suc (fitting (drop 2 digits) bytes) else 0

-- A byte and its address, as `x` of the debugger shows them; and the first of the bytes from a place of the context on.
abbrev pub byte_line : ℕ → ℕ → List ℕ
byte_line address b = hexadecimal address ++ codes ": " ++ encode_lower (b ∷ []) ++ codes "\n"

abbrev pub byte_came : ℕ → List ℕ → List ℕ
byte_came k [] = codes "none\n"
byte_came k (b ∷ bytes) = byte_line (context_base + k) b

-- The first byte of a pattern.
abbrev pub byte_wanted : List ℕ → List ℕ
byte_wanted [] = codes "none"
byte_wanted (d ∷ digits) = take 2 (d ∷ digits)

-- What is said of the byte at a place.
abbrev pub byte_name : ℕ → List ℕ
byte_name k = codes "# byte " ++ decimal k

unfoldable pub byte_text : List ℕ → List ℕ → ℕ → List ℕ
byte_text digits bytes k =
    byte_name k ++ codes " came: " ++ byte_came k (drop k bytes) ++ byte_name k ++ codes " wanted: " ++ byte_wanted (drop (2 * k) digits)
    ++ codes "\n"

-- How many bytes there are, and how many are wanted, unless they are as many.
abbrev pub length_text : ℕ → ℕ → List ℕ
length_text came wanted =
    if came == wanted then [] else codes "# bytes of the context: " ++ decimal came ++ codes ", of mem-after: " ++ decimal wanted ++ codes "\n"

-- Both, of bytes that don't fit a pattern: of the first byte that doesn't.
abbrev pub unfit_text : List ℕ → List ℕ → List ℕ
unfit_text digits bytes =
    if fits digits bytes then [] else byte_text digits bytes (fitting digits bytes) ++ length_text (length bytes) (length digits / 2)

-- The same of the context where a test's program has ended.
abbrev pub context_text : List Section → Outcome → List ℕ
context_text test (Ok x) =
    option_map_or (λ section. unfit_text (solid section.body) (context_after (length (context test)) x)) (section_for part.After test) []
context_text test (Err refusal) = []
