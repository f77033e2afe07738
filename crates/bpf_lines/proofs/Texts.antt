-- The texts of rows, put together.
use Rattle.std.proofs.Common.{◌≡◌, ◌≢◌, ◌<◌, ℕ, suc, ◌+◌, ◌*◌, ◌/◌, ◌==◌, false, List, [], ◌++◌, append_assoc, refl, sym, ap, ◌∙◌, arith, codes, decimal, length}
use Rattle.std.proofs.lemmas.List.{get_or_past}
use Rattle.std.specs.Prelude.{Option, Some, slice_index, if◌then◌else◌}
use Rattle.bpf_link.specs.Names.{built, short_at}
use Rattle.bpf_link.specs.declared.parts.Part.{Part}
use Rattle.bpf_link.specs.declared.plan.Plan.{Plan}
use Rattle.bpf_lines.specs.Functions.{function_at}
use Rattle.bpf_lines.specs.LineInfo.{line_at, line_entry, record_place}
use Rattle.bpf_lines.specs.Passed.{said_by}
use Rattle.bpf_lines.specs.Rows.{entry_word, line_word, row_by, row_text, with_row, word_of}
use Rattle.bpf_lines.specs.Slots.{last_said, line_since, said_of}
use Rattle.bpf_lines.specs.declared.line_info.LineEntry.{LineEntry}
use Rattle.bpf_lines.specs.declared.part_lines.PartLines.{PartLines}
use Rattle.bpf_lines.specs.declared.rows.Said.{Said}

pub not_zero : (n : ℕ) → n ≢ 0 → (n == 0) ≡ false
not_zero n h = grind arith

-- a slot behind the words
pub behind_words : (words : List ℕ) (number : ℕ) → length words / 8 < number → 0 ≡ slice_index words (8 * number)
behind_words words number behind = sym (get_or_past words (8 * number) 0 (omega (arith, behind)))

pub entry_text : (strings front : List ℕ) (entry : LineEntry) → (entry.line == 0) ≡ false
    → ((front ++ word_of (short_at strings entry.file)) ++ codes ":") ++ decimal entry.line ≡ front ++ entry_word strings entry
entry_text strings front entry e =
    in_line front (word_of (short_at strings entry.file)) (codes ":") (decimal entry.line)
    ∙ ap (λ text. front ++ text)
    (sym (ap (λ b. if b then codes "-" else word_of (short_at strings entry.file) ++ codes ":" ++ decimal entry.line) e))
  where
    in_line : (front name by number : List ℕ) → ((front ++ name) ++ by) ++ number ≡ front ++ (name ++ by ++ number)
    in_line front name by number = simp append_assoc refl

pub line_is : (strings listed : List ℕ) (block line : Option ℕ) (b i : ℕ) (entry : LineEntry) → block ≡ Some b → line ≡ Some i
    → entry ≡ line_entry listed (record_place listed b i) → entry_word strings entry ≡ line_word strings listed block line
line_is strings listed block line b i entry e f g =
    ap (entry_word strings) g ∙ sym (ap (λ x. line_word strings listed x line) e ∙ ap (λ x. line_word strings listed (Some b) x) f)

pub row_parts : (front a b c d e f : List ℕ) → (((((front ++ a) ++ b) ++ c) ++ d) ++ e) ++ f ≡ front ++ (a ++ b ++ c ++ d ++ e ++ f)
row_parts front a b c d e f = simp append_assoc refl

-- the row of an instruction
pub row_is : (plan : Plan) (told : PartLines) (words : List ℕ) (number : ℕ) (said : Said) → (slice_index words (8 * number) == 0) ≡ false
    → row_text plan told number said ≡ row_by plan told words number said
row_is plan told words number said e = sym (ap (λ b. if b then [] else row_text plan told number said) e)

-- the row of what is said
pub row_said : (plan : Plan) (part : Part) (told : PartLines) (words : List ℕ) (number : ℕ) (said last : Said)
    → said.function ≡ said_of (function_at plan part.section) last.function → said.line ≡ line_since (line_at told.listed told.block) last.line last.function
    → row_by plan told words number said ≡ row_by plan told words number (said_by plan part told last)
row_said plan part told words number said last f l =
    ap (λ x. row_by plan told words number (record { function = x; line = said.line })) f
    ∙ ap (λ x. row_by plan told words number (record { function = said_of (function_at plan part.section) last.function; line = x })) l

-- one more row
pub row_more : (plan : Plan) (part : Part) (told : PartLines) (words : List ℕ) (first slot n : ℕ) (function line : Option ℕ) → n ≡ suc slot
    → function ≡ last_said (function_at plan part.section) n → line ≡ last_said (line_at told.listed told.block) n
    → built (with_row plan part told words first) slot
    ++ row_by plan told words (first + slot) (said_by plan part told (record { function = function; line = line }))
    ≡ built (with_row plan part told words first) n
row_more plan part told words first slot n function line at f l =
    ap (λ x. built (with_row plan part told words first) slot ++ row_by plan told words (first + slot) (said_by plan part told (record { function = x; line = line })))
    (f ∙ ap (last_said (function_at plan part.section)) at)
    ∙ ap (λ x. built (with_row plan part told words first) slot
    ++ row_by plan told words (first + slot) (said_by plan part told (record { function = last_said (function_at plan part.section) (suc slot); line = x })))
    (l ∙ ap (last_said (line_at told.listed told.block)) at)
    ∙ ap (built (with_row plan part told words first)) (sym at)
