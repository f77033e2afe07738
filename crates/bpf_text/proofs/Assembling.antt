-- What the rounds over what is read of a listing's lines tell of the listing.
use Rattle.std.proofs.Common.{ℕ, ◌≡◌, List, [], ◌∷◌, ◌++◌, Ok, Err, Result, map, refl, ap, sym, ◌∙◌, subst}
use Rattle.bpf_isa.specs.declared.instruction.Insn.{Insn}
use Rattle.bpf_isa.proofs.Spelling.{one_word}
use Rattle.bpf_text.specs.declared.fault.AsmFault.{AsmFault}
use Rattle.bpf_text.specs.declared.fault.AsmFault.TheVariants.{Line, Memory}
use Rattle.counted_io.specs.Lines.{lines}
use Rattle.bpf_text.specs.Laws.{HasOneSize, HaveOneInsn, HaveOneAssembly}
use Rattle.bpf_text.specs.Listing.{AreWords, IsAssembled, IsListing, IsFaultOf}
use Rattle.counted_io.specs.Cuts.{trim}
use Rattle.bpf_text.specs.Scaffolding.Lines.{read_line, read_statement, MemoryOr}
use Rattle.bpf_text.specs.Scaffolding.Rounds.{Collected, after_first_round, second_round, rounds}
use Rattle.bpf_text.proofs.ListingGrammar.{assembled-read, read-assembled}
use Rattle.bpf_text.proofs.StatementGrammar.{slots_in, takes-read, read-takes, insn-said, resolved-once}

-- a listing without a fault
pub is-listing : (text bytes : List ℕ) (insns : List Insn) → rounds (map read_line (lines text)) ≡ Ok insns → AreWords insns bytes
    → IsListing text bytes
is-listing text bytes insns clear spelled = record {
  insns = insns;
  clear = subst (IsAssembled text) clear (read-assembled text);
  spelled = spelled;
}

-- a listing with one
pub is-fault : (text : List ℕ) (fault : AsmFault) → MemoryOr (rounds (map read_line (lines text))) fault → IsFaultOf text fault
is-fault text Memory known = tt
is-fault text (Line fault line_number) known = subst (IsAssembled text) known (read-assembled text)

-- a fault of the first round, and one of the second
pub fault-before : (first : Result Collected AsmFault) (fault : AsmFault) → MemoryOr first fault → MemoryOr (after_first_round first) fault
fault-before first Memory known = tt
fault-before first (Line fault line_number) known = rw known refl

pub fault-after : (first : Result Collected AsmFault) (outline : Collected) (fault : AsmFault) → first ≡ Ok outline
    → MemoryOr (second_round outline.0 outline.1) fault → MemoryOr (after_first_round first) fault
fault-after first outline Memory e known = tt
fault-after first outline (Line fault line_number) e known = rw e known

-- a text takes so many slots or has one fault, and says one instruction at most
pub one-size : (p : ℕ) (s : List ℕ) → HasOneSize p s
one-size p s = record {
  size = slots_in (read_statement (trim s));
  takes = takes-read p s;
  only = λ other known. sym (read-takes p s other known);
}

pub one-insn : HaveOneInsn
one-insn labels p s a b k l = resolved-once labels p s a b (insn-said labels p s a k) (insn-said labels p s b l)

-- a listing has the bytes of one program, or one fault
words-only : (insns : List Insn) (a b : List ℕ) → AreWords insns a → AreWords insns b → a ≡ b
words-only [] a b p q = p ∙ sym q
words-only (insn ∷ rest) a b p q =
    let word = one_word insn p.0 q.0 p.3 q.3 in
    let more = words-only rest p.1 q.1 p.4 q.4 in
    p.2 ∙ ap (λ w. w ++ p.1) word ∙ ap (λ r. q.0 ++ r) more ∙ sym q.2

pub one-assembly : HaveOneAssembly
one-assembly = record {
  bytes = λ text a b p q.
      let same : p.insns ≡ q.insns = (let e = sym (assembled-read text (Ok p.insns) p.clear) ∙ assembled-read text (Ok q.insns) q.clear in cc) in
      let P : List Insn → Type 0 = λ insns. AreWords insns a in
      words-only q.insns a b (subst P same p.spelled) q.spelled;
  fault = λ text a b m n p q. let e = sym (assembled-read text (Err (Line a m)) p) ∙ assembled-read text (Err (Line b n)) q in cc;
  either = λ text bytes fault n p q. let e = sym (assembled-read text (Ok p.insns) p.clear) ∙ assembled-read text (Err (Line fault n)) q in cc;
}
