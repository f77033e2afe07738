-- Where commands stop: breakpoints, and watched bytes that a step changed.
use Rattle.std.specs.Prelude.{ℕ, Bool, not, ◌==◌, List}
use Rattle.std.specs.List.{list_any}
use Rattle.bpf_steps.specs.ByAddress.{byte}
use Rattle.bpf_steps.specs.State.{State}
use Rattle.bpf_session.specs.Points.{Point}

-- Whether a number is in a list.
abbrev pub has : List ℕ → ℕ → Bool
has ns n = list_any (λ m. m == n) ns

-- Whether a breakpoint is at the state's pc.
abbrev pub breaks_at : Point → State → Bool
breaks_at p x = has p.breaks x.pc

-- Whether the value of a byte at some of these addresses differs between two states; of some watched byte.
abbrev pub some_differs : List ℕ → State → State → Bool
some_differs addresses x y = list_any (λ a. not (byte x a == byte y a)) addresses

abbrev pub watch_differs : Point → State → State → Bool
watch_differs p x y = some_differs p.watches x y
