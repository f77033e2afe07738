use Rattle.std.proofs.Common.{◌≡◌, ◌∙◌, ◌+◌, ℕ, suc, true, List, Option, Some, inl, inr, sym, ap, arith}
use Rattle.std.proofs.lemmas.Bool.{cases_lt}
use Rattle.std.specs.Borrow.{Bor}
use Rattle.std.specs.Prelude.{is_some, option_map}
use Rattle.input_texts.specs.Captures.{packet_in}
use Rattle.capture_packets.proofs.Behind.{none-behind}
use Rattle.capture_packets.proofs.packet.whole_packets.Goals as goal

-- a packet that is found is there
there : (file : List ℕ) (n m : ℕ) → suc n ≡ m → (found : Option (Bor (List ℕ))) (x : Bor (List ℕ)) → option_map (λ bytes. bytes.now) found ≡ packet_in file m
    → found ≡ Some x → is_some (packet_in file (suc n)) ≡ true
there file n m is found x ensures some =
    ap (λ (k : ℕ). is_some (packet_in file k)) is ∙ sym (ap is_some ensures) ∙ ap (λ (o : Option (Bor (List ℕ))). is_some (option_map (λ bytes. bytes.now) o)) some

pub loop-k-preserved : goal.loop-k-preserved
loop-k-preserved c = λ n low. elim (cases_lt n c.loop-k.k) [
  | inl before ↦ c.loop-k.invariant n before
  | inr behind ↦
      let is : suc n ≡ c.loop-k.k + 1 = omega (arith, behind, low) in
      there c.args.file.now n (c.loop-k.k + 1) is c.packet_at.result c.in-Some.field-0 c.packet_at.ensures c.in-Some.is
]

pub returns : goal.returns
returns c = record {
  each = λ k low. c.loop-k.invariant k (omega (arith, low, c.loop-k-test.false));
  next = none-behind c.args.file.now c.args.starts.now c.requires.starts;
}
