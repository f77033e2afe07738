-- Orders of numbers.
use Rattle.std.proofs.Common.{◌≡◌, ◌<◌, ◌≤◌, ◌⊎◌, ℕ, ◌+◌, ◌-◌, ◌*◌, arith}

pub most_most : (a b c : ℕ) → a ≤ b → b ≤ c → a ≤ c
most_most a b c p q = omega arith

pub less_most : (a b c : ℕ) → a < b → b ≤ c → a < c
less_most a b c p q = omega arith

pub most_less : (a b c : ℕ) → a ≤ b → b < c → a < c
most_less a b c p q = omega arith

pub less_less : (a b c : ℕ) → a < b → b < c → a < c
less_less a b c p q = omega arith

pub minus_less : (a b c : ℕ) → a < c → a - b < c
minus_less a b c p = omega arith

pub minus_more : (a b : ℕ) → a < b → 0 < b - a
minus_more a b p = omega arith

pub sum_less : (a b c : ℕ) → a + b < c → a < c
sum_less a b c p = omega arith

pub in_both : (i n m : ℕ) → i < n → i < n + m + 1 + 1
in_both i n m p = omega arith

pub from_64 : (n j : ℕ) → 64 ≤ n → 62 ≤ n + j
from_64 n j p = omega arith

pub past_64 : (n j : ℕ) → 64 ≤ n → n ≤ j → 62 ≤ j
past_64 n j p q = omega arith

pub cut_less : (n from size k : ℕ) → n ≡ from + size - from → k < size → k < n
cut_less n from size k e p = omega arith

pub cut_most : (n from size m : ℕ) → n ≡ from + size - from → n ≤ m → size ≤ m
cut_most n from size m e p = omega arith

pub within : (from size k : ℕ) → k < size → from + k < from + size
within from size k p = omega arith

pub later_most : (from size : ℕ) → from ≤ from + size
later_most from size = omega arith

pub moved_in : (a b c k : ℕ) → 64 * (a + b) + k ≡ 64 * a + (64 * b + k)
moved_in a b c k = omega arith

pub place_in : (n i k : ℕ) → n + 64 * i + k ≡ n + (64 * i + k)
place_in n i k = omega arith

pub from_zero : (k : ℕ) → k ≡ 0 + k
from_zero k = omega arith

pub inside_64 : (i n k : ℕ) → i < n → k < 64 → 64 * i + k < 64 * n
inside_64 i n k p q = omega arith

pub last_two : (i n : ℕ) → n ≤ i → i < n + 1 + 1 → (i ≡ n) ⊎ (i ≡ n + 1)
last_two i n low high = grind arith

pub which : (a b : ℕ) → (a < b) ⊎ (b ≤ a)
which a b = grind arith

pub rest_is : (i n : ℕ) → n ≤ i → i ≡ n + (i - n)
rest_is i n p = omega arith

pub rest_less : (i n m : ℕ) → n ≤ i → i < n + m → i - n < m
rest_less i n m p q = omega arith

pub one_more : (n j : ℕ) → 64 * (n + 1) + j ≡ 64 * n + (64 + j)
one_more n j = omega arith

pub below_16 : (n m : ℕ) → n + m + 1 + 1 < 0xff00 → n + m + 1 + 1 < 65536
below_16 n m p = omega arith

pub index_less : (i n m : ℕ) → i < n → n + m + 1 + 1 < 0xff00 → i < 4294967296
index_less i n m p q = omega arith
