-- Headers of sections as they are written and read.
use Rattle.std.proofs.Common.{◌≡◌, ◌<◌, ℕ, ◌+◌, ◌*◌, List, [], length, refl, ap, ◌∙◌, arith}
use Rattle.bpf_isa.specs.Words.{u16_at, u32_at}
use Rattle.bpf_link.specs.declared.layout.SectionHeader.{SectionHeader}
use Rattle.bpf_link.specs.Layout.{section_header, u64_at}
use Rattle.bpf_join.specs.Tables.{header_bytes}
use Rattle.bpf_link_laws.specs.Files.{IsFile}
use Rattle.bpf_link_laws.proofs.JoinNumbers.{AreSame, part_of, u32_back, u32_same, u64_back}

-- the fields of a header fit their bytes
pub record Fits (it : SectionHeader) : Type 0 where
  pub name : it.name < 4294967296
  pub kind : it.kind < 4294967296
  pub flags : it.flags < 18446744073709551616
  pub offset : it.offset < 18446744073709551616
  pub size : it.size < 18446744073709551616
  pub link : it.link < 4294967296
  pub info : it.info < 4294967296

pub header_length : (it : SectionHeader) → length (header_bytes it) ≡ 64
header_length it = refl

pub same_header : (a b : SectionHeader) → a.name ≡ b.name → a.kind ≡ b.kind → a.flags ≡ b.flags → a.offset ≡ b.offset → a.size ≡ b.size → a.link ≡ b.link → a.info ≡ b.info → a ≡ b
same_header a b name kind flags offset size link info =
    λ i. record { name = name i; kind = kind i; flags = flags i; offset = offset i; size = size i; link = link i; info = info i }

pub header_back : (it : SectionHeader) → Fits it → section_header (header_bytes it) 0 ≡ it
header_back it fits = same_header (section_header (header_bytes it) 0) it
    (u32_back it.name [] fits.name) (u32_back it.kind [] fits.kind) (u64_back it.flags [] fits.flags) (u64_back it.offset [] fits.offset)
    (u64_back it.size [] fits.size) (u32_back it.link [] fits.link) (u32_back it.info [] fits.info)

pub u64_same : (xs : List ℕ) (i : ℕ) (ys : List ℕ) (j : ℕ) → AreSame 8 xs i ys j → u64_at xs i ≡ u64_at ys j
u64_same xs i ys j same =
    ap (λ n. n + 4294967296 * u32_at xs (i + 4)) (u32_same xs i ys j (λ k inside. same k (omega arith)))
    ∙ ap (λ n. u32_at ys j + 4294967296 * n) (u32_same xs (i + 4) ys (j + 4) (part_of 8 xs i ys j 4 4 same (omega arith)))

pub read_same : (xs : List ℕ) (i : ℕ) (ys : List ℕ) (j : ℕ) → AreSame 64 xs i ys j → section_header xs i ≡ section_header ys j
read_same xs i ys j same = same_header (section_header xs i) (section_header ys j)
    (u32_same xs i ys j (λ k inside. same k (omega arith)))
    (u32_same xs (i + 4) ys (j + 4) (part_of 64 xs i ys j 4 4 same (omega arith)))
    (u64_same xs (i + 8) ys (j + 8) (part_of 64 xs i ys j 8 8 same (omega arith)))
    (u64_same xs (i + 24) ys (j + 24) (part_of 64 xs i ys j 24 8 same (omega arith)))
    (u64_same xs (i + 32) ys (j + 32) (part_of 64 xs i ys j 32 8 same (omega arith)))
    (u32_same xs (i + 40) ys (j + 40) (part_of 64 xs i ys j 40 4 same (omega arith)))
    (u32_same xs (i + 44) ys (j + 44) (part_of 64 xs i ys j 44 4 same (omega arith)))

-- what is read of a file fits
u16_fits : (bytes : List ℕ) (i : ℕ) → IsFile bytes → u16_at bytes i < 65536
u16_fits bytes i file =
    let a = file.each i in
    let b = file.each (i + 1) in
    omega (arith, a, b)

pub u32_fits : (bytes : List ℕ) (i : ℕ) → IsFile bytes → u32_at bytes i < 4294967296
u32_fits bytes i file =
    let a = u16_fits bytes i file in
    let b = u16_fits bytes (i + 2) file in
    low (u16_at bytes i) (u16_at bytes (i + 2)) a b
  where
    low : (a b : ℕ) → a < 65536 → b < 65536 → a + 65536 * b < 4294967296
    low a b p q = omega arith

u64_fits : (bytes : List ℕ) (i : ℕ) → IsFile bytes → u64_at bytes i < 18446744073709551616
u64_fits bytes i file = low (u32_at bytes i) (u32_at bytes (i + 4)) (u32_fits bytes i file) (u32_fits bytes (i + 4) file)
  where
    low : (a b : ℕ) → a < 4294967296 → b < 4294967296 → a + 4294967296 * b < 18446744073709551616
    low a b p q = omega arith

pub read_fits : (bytes : List ℕ) (at : ℕ) → IsFile bytes → Fits (section_header bytes at)
read_fits bytes at file = record {
  name = u32_fits bytes at file;
  kind = u32_fits bytes (at + 4) file;
  flags = u64_fits bytes (at + 8) file;
  offset = u64_fits bytes (at + 24) file;
  size = u64_fits bytes (at + 32) file;
  link = u32_fits bytes (at + 40) file;
  info = u32_fits bytes (at + 44) file;
}
