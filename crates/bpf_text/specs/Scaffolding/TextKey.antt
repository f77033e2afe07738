-- Scaffolding: the key that a listing makes for the hashes of its labels.
use Rattle.std.specs.Prelude.{ℕ, List}
use Rattle.std.specs.List.{fold}
use Rattle.std.specs.Hash as fed
use Rattle.std.specs.Hash.DefaultHasher.{initial, write, finish}
use Rattle.bpf_text.specs.declared.read.text_key.TextKey.{TextKey}

-- A hasher that took in the hash of the whole text.
abbrev pub key_of : List ℕ → TextKey
key_of text = record { start = fold write initial (fed.u64 (finish (write initial text))) }
