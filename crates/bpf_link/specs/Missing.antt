-- The helpers of the kernel that words call and that there aren't: all of them are told where the first one is refused.
use Rattle.std.specs.Prelude.{ℕ, zero, suc, ◌+◌, ◌*◌, ◌/◌, ◌==◌, Bool, false, not, ◌&&◌, ◌||◌, List, is_some, length}
use Rattle.bpf_isa.specs.Helpers.{helper_of}
use Rattle.bpf_isa.specs.Words.{u32_at}
use Rattle.bpf_link.specs.Objects.{below}
use Rattle.bpf_link.specs.Stubs.{calls_helper}

-- A slot calls the helper of a number.
abbrev pub calls : List ℕ → ℕ → ℕ → Bool
calls words helper slot = calls_helper words slot && (u32_at words (8 * slot + 4) == helper)

-- One of the first n slots does, and one of all.
abbrev pub called_below : List ℕ → ℕ → ℕ → Bool
called_below words helper zero = false
called_below words helper (suc n) = calls words helper n || called_below words helper n

abbrev pub is_called : List ℕ → ℕ → Bool
is_called words helper = called_below words helper (length words / 8)

-- Words call a helper that there isn't, and it isn't the first one.
abbrev pub is_missing : List ℕ → ℕ → ℕ → Bool
is_missing words first helper = not ((helper == first) || is_some (helper_of helper)) && is_called words helper

-- Whether they do, of each number of the kernel's list.
abbrev pub others_in : List ℕ → ℕ → List Bool
others_in words first = below (is_missing words first) 212
