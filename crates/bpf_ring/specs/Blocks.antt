-- A ring of bytes: a block of a fixed size, and the bytes from a place on, around its end.
use Rattle.std.specs.Prelude.{ℕ, ◌+◌, ◌-◌, nat_lt, if◌then◌else◌, List, ◌++◌, length, take, drop}

-- What a ring has: how many bytes it may have, and those that it has, the oldest first.
pub record Content : Type 0 where
  pub size : ℕ
  pub bytes : List ℕ

-- The n items of a block from a place on, around the end.
abbrev pub around : List ℕ → ℕ → ℕ → List ℕ
around xs first n = take n (drop first xs ++ take first xs)

-- The place n behind another.
abbrev pub behind : ℕ → ℕ → ℕ → ℕ
behind size first n = if nat_lt (first + n) size then first + n else first + n - size

-- A list with other items from a place on.
abbrev pub pasted : List ℕ → ℕ → List ℕ → List ℕ
pasted old at new = take at old ++ (new ++ drop (at + length new) old)
