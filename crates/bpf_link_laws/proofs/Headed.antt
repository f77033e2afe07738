-- A body with a table behind it, whose place and length stand in the header.
use Rattle.std.proofs.Common.{◌≡◌, ◌<◌, ◌≤◌, ℕ, ◌+◌, List, [], ◌++◌, length, get_or, refl, ◌∙◌, arith, length-append}
use Rattle.std.proofs.lemmas.List.{get_or_append_left, get_or-append-add}
use Rattle.byteorder.specs.Endian.{little_bytes}
use Rattle.bpf_isa.specs.Words.{u16_at}
use Rattle.bpf_link.specs.Layout.{u64_at}
use Rattle.bpf_link_laws.proofs.Headers.{u64_same}
use Rattle.bpf_link_laws.proofs.JoinNumbers.{AreSame, plain, put, put_length, put_low, put_high, put_in, u16_back, u16_same, u64_back}
use Rattle.bpf_link_laws.proofs.Pieces.{Keeps}

abbrev pub headed : List ℕ → List ℕ → ℕ → List ℕ
headed body table count = put 2 (put 8 (body ++ table) 40 (length body)) 60 count

long_enough : (body table : List ℕ) → 64 ≤ length body → 64 ≤ length (body ++ table)
long_enough body table long = let size = length-append body table in omega (arith, size)

length_of : (xs : List ℕ) (at count : ℕ) → 64 ≤ length xs → length (put 2 (put 8 xs 40 at) 60 count) ≡ length xs
length_of xs at count long =
    let eight = put_length 8 xs 40 at (omega arith) in
    put_length 2 (put 8 xs 40 at) 60 count (omega (arith, eight)) ∙ eight

on : (xs : List ℕ) (at count j : ℕ) → 64 ≤ length xs → 62 ≤ j → get_or (put 2 (put 8 xs 40 at) 60 count) j 0 ≡ get_or xs j 0
on xs at count j long high =
    let eight = put_length 8 xs 40 at (omega arith) in
    put_high 2 (put 8 xs 40 at) 60 count j (omega (arith, eight)) (omega arith) ∙ put_high 8 xs 40 at j (omega arith) (omega arith)

place_of : (xs : List ℕ) (at count : ℕ) → 64 ≤ length xs → at < 18446744073709551616 → u64_at (put 2 (put 8 xs 40 at) 60 count) 40 ≡ at
place_of xs at count long small =
    let eight = put_length 8 xs 40 at (omega arith) in
    let same : AreSame 8 (put 2 (put 8 xs 40 at) 60 count) 40 (little_bytes 8 at ++ []) 0 =
    plain 8 (put 2 (put 8 xs 40 at) 60 count) 40 (little_bytes 8 at) [] refl
    (λ k inside. put_low 2 (put 8 xs 40 at) 60 count (40 + k) (omega (arith, eight)) (omega arith) ∙ put_in 8 xs 40 at k (omega arith) inside) in
    u64_same (put 2 (put 8 xs 40 at) 60 count) 40 (little_bytes 8 at ++ []) 0 same ∙ u64_back at [] small

count_of : (xs : List ℕ) (at count : ℕ) → 64 ≤ length xs → count < 65536 → u16_at (put 2 (put 8 xs 40 at) 60 count) 60 ≡ count
count_of xs at count long small =
    let eight = put_length 8 xs 40 at (omega arith) in
    let same : AreSame 2 (put 2 (put 8 xs 40 at) 60 count) 60 (little_bytes 2 count ++ []) 0 =
    plain 2 (put 2 (put 8 xs 40 at) 60 count) 60 (little_bytes 2 count) [] refl
    (λ k inside. put_in 2 (put 8 xs 40 at) 60 count k (omega (arith, eight)) inside) in
    u16_same (put 2 (put 8 xs 40 at) 60 count) 60 (little_bytes 2 count ++ []) 0 same ∙ u16_back count [] small

pub keeps : (body table : List ℕ) (count : ℕ) → 64 ≤ length body → Keeps (headed body table count) body
keeps body table count long =
    let more = long_enough body table long in
    let size = length_of (body ++ table) (length body) count more in
    let all = length-append body table in
    record {
      same = λ j high inside. on (body ++ table) (length body) count j more high ∙ get_or_append_left body table 0 j inside;
      longer = omega (arith, size, all);
    }

pub in_table : (body table : List ℕ) (count : ℕ) → 64 ≤ length body → (j : ℕ) → get_or (headed body table count) (length body + j) 0 ≡ get_or table j 0
in_table body table count long j =
    let more = long_enough body table long in
    on (body ++ table) (length body) count (length body + j) more (omega arith) ∙ get_or-append-add body table j 0

pub end_small : (body table : List ℕ) (count : ℕ) → 64 ≤ length body → length (headed body table count) < 18446744073709551616 → length body < 18446744073709551616
end_small body table count long short =
    let more = long_enough body table long in
    let size = length_of (body ++ table) (length body) count more in
    let all = length-append body table in
    omega (arith, size, all, short)

pub table_place : (body table : List ℕ) (count : ℕ) → 64 ≤ length body → length (headed body table count) < 18446744073709551616 → u64_at (headed body table count) 40 ≡ length body
table_place body table count long short =
    place_of (body ++ table) (length body) count (long_enough body table long) (end_small body table count long short)

pub table_count : (body table : List ℕ) (count : ℕ) → 64 ≤ length body → count < 65536 → u16_at (headed body table count) 60 ≡ count
table_count body table count long small = count_of (body ++ table) (length body) count (long_enough body table long) small

-- a number of the header that stays
pub stays_62 : (body table first : List ℕ) (count : ℕ) → 64 ≤ length body → 64 ≤ length first → ((j : ℕ) → j < length first → get_or body j 0 ≡ get_or first j 0)
    → u16_at (headed body table count) 62 ≡ u16_at first 62
stays_62 body table first count long more begins =
    let it = keeps body table count long in
    u16_same (headed body table count) 62 first 62 (λ k inside. it.same (62 + k) (omega arith) (omega arith) ∙ begins (62 + k) (omega arith))

pub headed_length : (body table : List ℕ) (count : ℕ) → 64 ≤ length body → length (headed body table count) ≡ length body + length table
headed_length body table count long = length_of (body ++ table) (length body) count (long_enough body table long) ∙ length-append body table

-- bytes of the header before the table's place, and between this and its number of sections
pub low_same : (body table first : List ℕ) (count j : ℕ) → 64 ≤ length body → 64 ≤ length first → ((j : ℕ) → j < length first → get_or body j 0 ≡ get_or first j 0) → j < 40
    → get_or (headed body table count) j 0 ≡ get_or first j 0
low_same body table first count j long more begins low =
    let all = long_enough body table long in
    let eight = put_length 8 (body ++ table) 40 (length body) (omega (arith, all)) in
    put_low 2 (put 8 (body ++ table) 40 (length body)) 60 count j (omega (arith, eight, all)) (omega arith)
    ∙ put_low 8 (body ++ table) 40 (length body) j (omega (arith, all)) low
    ∙ get_or_append_left body table 0 j (omega arith)
    ∙ begins j (omega arith)

pub middle_same : (body table first : List ℕ) (count j : ℕ) → 64 ≤ length body → 64 ≤ length first → ((j : ℕ) → j < length first → get_or body j 0 ≡ get_or first j 0) → 48 ≤ j → j < 60
    → get_or (headed body table count) j 0 ≡ get_or first j 0
middle_same body table first count j long more begins high low =
    let all = long_enough body table long in
    let eight = put_length 8 (body ++ table) 40 (length body) (omega (arith, all)) in
    put_low 2 (put 8 (body ++ table) 40 (length body)) 60 count j (omega (arith, eight, all)) low
    ∙ put_high 8 (body ++ table) 40 (length body) j (omega (arith, all)) high
    ∙ get_or_append_left body table 0 j (omega arith)
    ∙ begins j (omega arith)
