-- What the head of a section says: a word, and what stands behind it. bpfdb's own choice.
use Rattle.std.specs.Prelude.{ℕ, Bool, ◌==◌, List, codes, drop, take}
use Rattle.std.specs.List.{position_or_len, starts_with}
use Rattle.counted_io.specs.Cuts.{before, trim}
use Rattle.counted_io.specs.Lines.{is_blank, trim_start}
use Rattle.input_texts.specs.Words.{word_named}
use Rattle.input_texts.specs.declared.head.Head.{Head}

-- A line that begins with two minus signs is the head of a section.
abbrev pub is_head : List ℕ → Bool
is_head s = starts_with (λ a b. a == b) s (codes "--")

-- Its first word stands before the first blank.
abbrev pub head_said : List ℕ → Head
head_said said = record {
  word = word_named (take (position_or_len is_blank said) said);
  value = trim_start (drop (position_or_len is_blank said) said);
}

abbrev pub head_of : List ℕ → Head
head_of text = head_said (trim (drop 2 (before 10 text)))
