-- Bytes of an object are put together piece by piece.
use native.Mathlib.Numerals.{unary_clauses}
use Rattle.std.proofs.Common.{◌≡◌, ◌≤◌, ◌<◌, ◌+◌, ◌*◌, ◌/◌, ℕ, suc, List, ◌++◌, ap, ◌∙◌, arith}
use Rattle.std.proofs.Math.Nat.{mul-div-le, mul-le-mul_left}
use Rattle.std.proofs.lemmas.List.{append_assoc}
use Rattle.bpf_join.specs.Gathered.{gathered}
use Rattle.bpf_turns.specs.Calls.{calls_of}
use Rattle.bpf_turns.specs.Objects.{lies, tabled, turned_body, turned_bytes}
use Rattle.bpf_turns.specs.declared.calls.Call.{Call}
use Rattle.bpf_turns.specs.declared.seats.Seat.{Seat}
use Rattle.bpf_turns.specs.declared.headers.Lies.{Lies}
use Rattle.bpf_turns.specs.declared.source.Source.{Source}

-- One more piece.
pub gathered_more : (f : ℕ → List ℕ) (i : ℕ) (start old piece new : List ℕ) → new ≡ old ++ piece → piece ≡ f i → old ≡ start ++ gathered f i → new ≡ start ++ gathered f (i + 1)
gathered_more f i start old piece new told same before =
    simp unary_clauses (told ∙ (ap (λ p. old ++ p) same ∙ (ap (λ o. o ++ f i) before ∙ append_assoc start (gathered f i) (f i))))

-- Three pieces.
pub three_pieces : (start a b c one two three : List ℕ) → one ≡ start ++ a → two ≡ one ++ b → three ≡ two ++ c → three ≡ start ++ (a ++ (b ++ c))
three_pieces start a b c one two three first second third =
    third ∙ (ap (λ t. t ++ c) second ∙ (ap (λ o. (o ++ b) ++ c) first ∙ (append_assoc (start ++ a) b c ∙ append_assoc start a (b ++ c))))

-- Two pieces, one behind another.
pub two_pieces : (start a b one all : List ℕ) → one ≡ start ++ a → all ≡ one ++ b → all ≡ start ++ (a ++ b)
two_pieces start a b one all first last = last ∙ (ap (λ o. o ++ b) first ∙ append_assoc start a b)

-- One more piece of all.
pub gathered_suc : (f : ℕ → List ℕ) (i : ℕ) (old piece new : List ℕ) → new ≡ old ++ piece → piece ≡ f i → old ≡ gathered f i → new ≡ gathered f (suc i)
gathered_suc f i old piece new told same before = told ∙ (ap (λ p. old ++ p) same ∙ ap (λ o. o ++ f i) before)

-- Of pieces of a size one behind another, each lies within all.
pub piece_inside : (size j len : ℕ) → j < len / size → size * j + size ≤ len
piece_inside size j len h =
    let whole : size * (j + 1) ≤ size * (len / size) = mul-le-mul_left size (omega (arith, h)) in
    omega (arith, whole, mul-div-le len size)

-- A file whose parts and table are put together.
pub tabled_is : (source : Source) (seats : List Seat) (ext : List ℕ) (calls : List Call) (body : List ℕ) (at : Lies) (all : List ℕ) → all ≡ tabled source calls body at
    → calls ≡ calls_of source.plan.object seats → body ≡ turned_body source seats ext → at ≡ lies source seats ext → all ≡ turned_bytes source seats ext
tabled_is source seats ext calls body at all told called made laid =
    told ∙ (ap (λ c. tabled source c body at) called ∙ (ap (λ b. tabled source (calls_of source.plan.object seats) b at) made
    ∙ ap (tabled source (calls_of source.plan.object seats) (turned_body source seats ext)) laid))
