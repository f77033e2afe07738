-- How many arguments the kernel's helpers take (Linux, include/uapi/linux/bpf.h).
use Rattle.std.specs.Prelude.{ℕ, ◌==◌, Bool, if◌then◌else◌, List}
use Rattle.std.specs.List.{list_any, slice_split}
use Rattle.std.specs.Str.{bytes_eq}
use Rattle.bpf_trace.specs.declared.prototypes.TheConstants.{NONE, ONE, TWO, THREE, FOUR}

-- The lists of those with none to four, which are the ones in the code: a name a line.
unfoldable pub none_names : List ℕ
none_names = NONE.now

unfoldable pub one_names : List ℕ
one_names = ONE.now

unfoldable pub two_names : List ℕ
two_names = TWO.now

unfoldable pub three_names : List ℕ
three_names = THREE.now

unfoldable pub four_names : List ℕ
four_names = FOUR.now

abbrev pub is_in : List ℕ → List ℕ → Bool
is_in names name = list_any (λ line. bytes_eq line name) (slice_split (λ b. b == 10) names)

-- Of another function it isn't known: then it is five.
abbrev pub count_of : List ℕ → ℕ
count_of name =
    if is_in two_names name then 2
    else if is_in three_names name then 3
    else if is_in four_names name then 4
    else if is_in one_names name then 1
    else if is_in none_names name then 0
    else 5
