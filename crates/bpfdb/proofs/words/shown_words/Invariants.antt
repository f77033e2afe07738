use Rattle.std.proofs.Common.{◌≡◌, map, string_bytes, take}
use Rattle.bpfdb_script.specs.Shown.{shown}
use Rattle.bpfdb.proofs.words.shown_words.Given as goal

abbrev pub invariant-loop-word : goal.invariant-loop-word
invariant-loop-word l = map string_bytes l.texts.items ≡ map (λ word. shown (string_bytes word)) (take l.word-index l.words)
