-- What holds at least as much, but for where in the frame addresses lie.
use Rattle.std.proofs.Common.{◌≡◌, true, arith}
use Rattle.std.proofs.lemmas.Bool.Decides.{nat_tests}
use Rattle.bpf_packet.specs.Holding.{covers, is_something}
use Rattle.bpf_packet.specs.Least.{reaches}
use Rattle.bpf_packet.specs.declared.held.Held.{Held}
use Rattle.bpf_packet.specs.declared.held.Held.TheVariants.{Nothing}

pub reached_by_cover : (a b : Held) → covers a b ≡ true → reaches a b ≡ true
unfolding reaches
reached_by_cover a b c = grind (arith, nat_tests)

pub reaches_by : (a b c : Held) → reaches a b ≡ true → reaches b c ≡ true → reaches a c ≡ true
unfolding reaches
reaches_by a b c one two = grind (arith, nat_tests)

pub reaches_nothing : (a : Held) → reaches a Nothing ≡ true
unfolding reaches
reaches_nothing a = grind arith

pub is_something_by : (a b : Held) → reaches a b ≡ true → is_something b ≡ true → is_something a ≡ true
unfolding reaches
is_something_by a b r some = grind arith

pub reaches_same : (a : Held) → reaches a a ≡ true
unfolding reaches
reaches_same a = grind (arith, nat_tests)
