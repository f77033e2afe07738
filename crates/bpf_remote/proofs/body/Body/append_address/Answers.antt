use Rattle.std.proofs.Common.{subst, ap, List, ℕ, ◌++◌}
use Rattle.bpf_remote.specs.Numbers.{address_text, hex_text}
use Rattle.bpf_remote.specs.Packets.{Holds}
use Rattle.bpf_remote.proofs.body.Body.append_address.Goals as goal

pub returns : goal.returns
unfolding address_text
returns c = λ body held.
    subst (λ (v : List ℕ). Holds c.append_hex.new.self v) (ap (λ (v : List ℕ). body ++ hex_text v) c.address_bytes.ensures) (c.append_hex.ensures body held)
