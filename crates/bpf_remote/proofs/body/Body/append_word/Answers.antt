use Rattle.std.proofs.Common.{subst, ap, List, ℕ, ◌++◌}
use Rattle.bpf_remote.specs.Numbers.{hex_text, word_text}
use Rattle.bpf_remote.specs.Packets.{Holds}
use Rattle.bpf_remote.proofs.body.Body.append_word.Goals as goal

pub returns : goal.returns
unfolding word_text
returns c = λ body held.
    subst (λ (v : List ℕ). Holds c.append_hex.new.self v) (ap (λ (v : List ℕ). body ++ hex_text v) c.word_bytes.ensures) (c.append_hex.ensures body held)
