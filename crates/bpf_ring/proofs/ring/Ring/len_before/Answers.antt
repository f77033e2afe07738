use Rattle.std.proofs.Common.{◌≡◌, ◌+◌, ◌-◌, ◌∙◌, ◌++◌, ℕ, List, length, take, drop, refl, ap, arith}
use Rattle.std.proofs.lemmas.List.{drop_at, take_at, length-drop, length-take}
use Rattle.byteorder.specs.Endian.{little_bytes}
use Rattle.bpf_ring.proofs.ring.Ring.len_before.Goals as goal

two_at : (bytes before rest : List ℕ) (n place : ℕ) → bytes ≡ before ++ (little_bytes 2 n ++ rest) → place ≡ length before + 2 → take 2 (drop (place - 2) bytes) ≡ little_bytes 2 n
two_at bytes before rest n place is at =
    ap (λ l. take 2 (drop (place - 2) l)) is
    ∙ ap (take 2) (drop_at before (little_bytes 2 n ++ rest) (place - 2) (omega (arith, at)))
    ∙ take_at (little_bytes 2 n) rest 2 refl

pub number-requires : goal.number-requires
number-requires c =
    let bytes = c.args.self.now.bytes in
    let from = c.args.place - 2 in
    omega (arith, ap length c.in-Some.ensures, length-take 2 (drop from bytes), length-drop from bytes, c.requires.0, c.requires.1)

pub returns-in-Some : goal.returns-in-Some
returns-in-Some c = λ n before rest small is at. c.number.ensures n small (c.in-Some.ensures ∙ two_at c.args.self.now.bytes before rest n c.args.place is at)
