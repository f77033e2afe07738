use Rattle.std.proofs.Common.{◌≡◌, ◌++◌, drop, map}
use Rattle.bpf_trace.specs.Objects.{place_members}
use Rattle.bpf_trace.proofs.words.members_in.Given as goal

abbrev pub invariant-loop-k : goal.invariant-loop-k
invariant-loop-k l =
    map (λ text. text.items) l.members.items ++ map (λ text. place_members text.items) (drop l.k l.texts) ≡ map (λ text. place_members text.items) l.texts
