-- What a file looks like that isn't the words of a program, by how it begins. bpfdb's own choice.
use Rattle.std.specs.Prelude.{ℕ, ◌==◌, ◌&&◌, ◌||◌, nat_le, nat_lt, Bool, if◌then◌else◌, List, take}
use Rattle.std.specs.List.{list_all, list_any}

-- A text begins with printing ASCII, tabs and what ends lines; a line feed (10) is among that.
abbrev pub is_plain : ℕ → Bool
is_plain b = if nat_le 32 b then nat_lt b 127 else b == 9 || b == 10 || b == 13

abbrev pub beginning : List ℕ → List ℕ
beginning file = take 4096 file

abbrev pub is_text : List ℕ → Bool
is_text file = list_all is_plain (beginning file) && list_any (λ b. b == 10) (beginning file)
