-- The words with which heads of sections begin that name files, or say how an object is linked. bpfdb's own choice.
use Rattle.std.specs.Prelude.{ℕ, Bool, true, false, ◌==◌, if◌then◌else◌, List, codes}
use Rattle.std.specs.Str.{bytes_eq}
use Rattle.input_texts.specs.declared.word.Word.{Word}
use Rattle.input_texts.specs.declared.word.Word.TheVariants as word

abbrev pub word_named : List ℕ → Word
word_named name =
    if bytes_eq name (codes "object") then word.Object
    else if bytes_eq name (codes "mem-file") then word.MemFile
    else if bytes_eq name (codes "packet") then word.Packet
    else if bytes_eq name (codes "section") then word.Section
    else if bytes_eq name (codes "entry") then word.Entry
    else if bytes_eq name (codes "with") then word.With
    else if bytes_eq name (codes "stub") then word.Stub
    else if bytes_eq name (codes "struct") then word.Struct
    else if bytes_eq name (codes "as-compiled") then word.AsCompiled
    else word.Other

-- The words, numbered.
abbrev pub word_number : Word → ℕ
word_number word.Object = 0
word_number word.MemFile = 1
word_number word.Packet = 2
word_number word.Section = 3
word_number word.Entry = 4
word_number word.With = 5
word_number word.Stub = 6
word_number word.Struct = 7
word_number word.AsCompiled = 8
word_number word.Other = 9

abbrev pub is_word : Word → Word → Bool
is_word other w = word_number w == word_number other

-- Words that say how the object is linked that the head before them names.
abbrev pub is_option : Word → Bool
is_option word.Section = true
is_option word.Entry = true
is_option word.With = true
is_option word.Stub = true
is_option word.Struct = true
is_option word.AsCompiled = true
is_option _ = false
