-- What stands in a line of a listing. bpfdb's own choice.
use Rattle.std.specs.Prelude.{ℕ, ◌≡◌, ◌<◌, ◌==◌, not, true, false, List, [], ◌∷◌, ◌++◌, length, Option, Some, None, Result}
use Rattle.std.specs.List.{list_all}
use Rattle.bpf_text.specs.declared.fault.LineFault.{LineFault}
use Rattle.counted_io.specs.Lines.{is_blank}
use Rattle.bpf_text.specs.Characters.{is_name, is_text}

-- What reading a line, or a part of it, gives.
abbrev pub LineReading : Type 0 → Type 0
LineReading A = Result A LineFault

-- A comment: nothing, or a semicolon (59) and whatever follows.
abbrev pub IsComment : List ℕ → Type 0
IsComment [] = Unit {0}
IsComment (b ∷ s) = b ≡ 59

-- A label: a name behind blanks, and a colon (58).
pub record IsLabelled (s name rest : List ℕ) : Type 0 where
  pub front : List ℕ
  pub written : s ≡ front ++ (name ++ 58 ∷ rest)
  pub blank : list_all is_blank front ≡ true
  pub named : is_name name ≡ true

-- The label of a line, if it has one, and what stands behind it.
abbrev pub IsLabel : Option (List ℕ) → List ℕ → List ℕ → Type 0
IsLabel (Some name) s rest = IsLabelled s name rest
IsLabel None s rest = (s ≡ rest) × ((name more : List ℕ) → IsLabelled s name more → ⊥)

-- A line: text without a semicolon, in which a label may stand, and a comment.
pub record IsLine (line : List ℕ) (label : Option (List ℕ)) (rest : List ℕ) : Type 0 where
  pub code : List ℕ
  pub comment : List ℕ
  pub written : line ≡ code ++ comment
  pub text : list_all is_text code ≡ true
  pub plain : list_all (λ b. not (b == 59)) code ≡ true
  pub comments : IsComment comment
  pub labels : IsLabel label code rest

-- A byte outside text, before which no semicolon stands.
pub record HasStranger (line : List ℕ) : Type 0 where
  pub front : List ℕ
  pub byte : ℕ
  pub rest : List ℕ
  pub written : line ≡ front ++ byte ∷ rest
  pub plain : list_all (λ b. not (b == 59)) front ≡ true
  pub strange : is_text byte ≡ false

-- Nothing, or a blank and whatever follows.
abbrev pub IsApart : List ℕ → Type 0
IsApart [] = Unit {0}
IsApart (b ∷ s) = is_blank b ≡ true

-- An instruction: a word behind blanks, and its operands, parted from it by a blank where there are any.
pub record IsInstruction (s word operands : List ℕ) : Type 0 where
  pub front : List ℕ
  pub written : s ≡ front ++ (word ++ operands)
  pub blank : list_all is_blank front ≡ true
  pub some : 0 < length word
  pub solid : list_all (λ b. not (is_blank b)) word ≡ true
  pub apart : IsApart operands
