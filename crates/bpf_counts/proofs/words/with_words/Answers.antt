use native.Mathlib.Numerals.{unary_clauses}
use Rattle.std.proofs.Common.{◌≡◌, ◌+◌, ℕ, List, ◌++◌, ap, ◌∙◌, get_or}
use Rattle.std.proofs.lemmas.List.{append_assoc}
use Rattle.byteorder.specs.Endian.{little_bytes}
use Rattle.bpf_counts.specs.Btf.{first_bytes}
use Rattle.bpf_counts.proofs.words.with_words.Goals as goal

-- one more number
more : (words : List ℕ) (i : ℕ) (start old piece new : List ℕ) → new ≡ old ++ piece → piece ≡ little_bytes 4 (get_or words i 0)
    → old ≡ start ++ first_bytes words i → new ≡ start ++ first_bytes words (i + 1)
more words i start old piece new told same before =
    simp unary_clauses (told ∙ (ap (λ p. old ++ p) same ∙ (ap (λ o. o ++ little_bytes 4 (get_or words i 0)) before
    ∙ append_assoc start (first_bytes words i) (little_bytes 4 (get_or words i 0)))))

pub loop-i-preserved : goal.loop-i-preserved
loop-i-preserved c =
    more c.args.words.now c.loop-i.i c.args.bytes.items c.loop-i.all.items _ c.in-Ok.new.items c.in-Ok.ensures.ok c.word_bytes.ensures c.loop-i.invariant
