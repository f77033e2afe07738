-- Rows that are put together behind their heads.
use Rattle.std.proofs.Common.{◌≡◌, ◌+◌, ◌≤◌, ℕ, Bool, true, false, if◌then◌else◌, ◌==◌, List, [], ◌++◌, Option, Some, Result, codes, decimal, drop, length, refl, sym, ap, ◌∙◌, append_assoc, arith}
use lib.Seq.{drop-append-add}
use Rattle.std.proofs.lemmas.Grind.{common_steps}
use Rattle.std.specs.Option.{option_map_or}
use Rattle.counted_io.specs.Counted.{Tally}
use Rattle.counted_io.proofs.Appending.{WritesAfter-WritesAfter}
use Rattle.bpf_isa.specs.Programs.{Checked, insn_at}
use Rattle.bpf_isa.specs.declared.instruction.Insn.{Insn}
use Rattle.bpf_steps.specs.Next.{change, next}
use Rattle.bpf_steps.specs.State.{IsState, State}
use Rattle.bpf_steps.specs.Entries.{step_entry}
use Rattle.bpf_origin.specs.Writes.{written}
use Rattle.bpfdb_script.specs.Texts.{text_at}
use Rattle.bpf_trace.specs.Branches.{is_branch}
use Rattle.bpf_trace.specs.Forms.{operands_in, parts_in}
use Rattle.bpf_trace.specs.Lines.{Held}
use Rattle.bpf_trace.specs.Objects.{branch_object, branch_object_by, insn_text, step_lead, step_object, step_tail, way_member}
use Rattle.bpf_trace.specs.Taken.{parts_by}
use Rattle.bpf_trace.specs.Traces.{step_line}
use Rattle.bpf_trace.specs.declared.form.Form.TheVariants.{Text, Json}
use Rattle.bpf_trace.proofs.Steps.{step_wrote, whole_line}

-- a text of any length behind what is held
pub Held-more : {T A E : Type 0} (contents : T → Option (List ℕ)) (a b c : Tally T) (p q r : Result A E) (line after whole more : List ℕ)
    → Held contents a p b q line whole → Held contents b q c r after (line ++ more) → Held contents a p c r after (whole ++ more)
Held-more contents a b c p q r line after whole more h k = record {
  told = h.told ++ k.told;
  written = WritesAfter-WritesAfter contents a b c p q r h.told k.told _ h.written k.written refl;
  parts =
      append_assoc h.told k.told after ∙ ap (λ (t : List ℕ). h.told ++ t) k.parts ∙ sym (append_assoc h.told line more)
      ∙ ap (λ (t : List ℕ). t ++ more) h.parts;
}

-- a few bytes behind it
pub Held-add : {T A E : Type 0} (contents : T → Option (List ℕ)) (a b : Tally T) (p q : Result A E) (line after more head whole : List ℕ)
    → Held contents a p b q line head → after ≡ line ++ more → head ++ more ≡ whole → Held contents a p b q after whole
Held-add contents a b p q line after more head whole h is e = record {
  told = h.told;
  written = h.written;
  parts =
      ap (λ (t : List ℕ). h.told ++ t) is ∙ sym (append_assoc h.told line more) ∙ ap (λ (t : List ℕ). t ++ more) h.parts ∙ e;
}

-- the rest of a row behind what is held: of a line, and of an object
pub line-end : (told line head parts place more : List ℕ) → told ++ line ≡ head → more ≡ line ++ parts
    → told ++ (more ++ place ++ codes "\n") ≡ head ++ parts ++ place ++ codes "\n"
line-end told line head parts place more e wrote =
    let flat : told ++ ((line ++ parts) ++ place ++ codes "\n") ≡ (told ++ line) ++ parts ++ place ++ codes "\n" = simp append_assoc refl in
    ap (λ (t : List ℕ). told ++ (t ++ place ++ codes "\n")) wrote ∙ flat ∙ ap (λ (t : List ℕ). t ++ parts ++ place ++ codes "\n") e

pub object-end : (told line head a parts b all : List ℕ) → told ++ line ≡ head → all ≡ line ++ a ++ parts ++ b → told ++ all ≡ head ++ (a ++ parts ++ b)
object-end told line head a parts b all e ends =
    let flat : told ++ (line ++ a ++ parts ++ b) ≡ (told ++ line) ++ (a ++ parts ++ b) = simp append_assoc refl in
    ap (λ (t : List ℕ). told ++ t) ends ∙ flat ∙ ap (λ (t : List ℕ). t ++ (a ++ parts ++ b)) e

-- the instruction behind its slot
pub insn_behind : (p : Checked) (slot : ℕ) (text : List ℕ) → text ≡ text_at p slot → drop (length (decimal slot) + 2) text ≡ insn_text p slot
insn_behind p slot text e = ap (drop (length (decimal slot) + 2)) (e ∙ append_assoc (decimal slot) (codes ": ") (insn_text p slot))
    ∙ drop-append-add (decimal slot) (codes ": " ++ insn_text p slot) 2

longer : (a b : List ℕ) → length a + 2 ≤ length (a ++ codes ": " ++ b)
longer a b = grind (arith, common_steps)

pub slot_before : (p : Checked) (slot : ℕ) (text : List ℕ) → text ≡ text_at p slot → length (decimal slot) + 2 ≤ length text
slot_before p slot text e =
    let all = longer (decimal slot) (insn_text p slot) in
    let same : length text ≡ length (decimal slot ++ codes ": " ++ insn_text p slot) = ap length e in
    omega (arith, all, same)

-- the row of a step
pub step_line_is : (k : ℕ) (x y : State) (text place : List ℕ) → IsState x → y ≡ next x → text ≡ text_at x.program x.pc
    → (decimal k ++ codes " " ++ text) ++ parts_in Text y (parts_by y (change x)) ++ place ++ codes "\n" ≡ step_line place k x
step_line_is k x y text place is e named =
    let line = decimal k ++ codes " " ++ text in
    let parts = parts_in Text y (parts_by y (change x)) in
    whole_line k x y [] line text (line ++ parts) place (line ++ parts ++ place ++ codes "\n") is e named refl refl refl

pub step_object_is : (k slot : ℕ) (x y : State) (text members : List ℕ) → IsState x → y ≡ next x → slot ≡ x.pc → text ≡ text_at x.program x.pc
    → step_lead k slot (drop (length (decimal slot) + 2) text) ++ members ++ step_tail (parts_in Json y (parts_by y (change x))) ≡ step_object members k x
unfolding step_object
step_object_is k slot x y text members is e at named =
    let wrote : parts_in Json y (parts_by y (change x)) ≡ parts_in Json (next x) (written (next x) (step_entry x)) =
    ap (parts_in Json y) (sym (step_wrote x y is)) ∙ ap (λ (z : State). parts_in Json z (written z (step_entry x))) e in
    ap (λ (s : ℕ). step_lead k s (drop (length (decimal s) + 2) text) ++ members ++ step_tail (parts_in Json y (parts_by y (change x)))) at
    ∙ ap (λ (t : List ℕ). step_lead k x.pc t ++ members ++ step_tail (parts_in Json y (parts_by y (change x)))) (insn_behind x.program x.pc text named)
    ∙ ap (λ (t : List ℕ). step_lead k x.pc (insn_text x.program x.pc) ++ members ++ step_tail t) wrote

-- the row of a conditional jump
pub branch_object_is : (k slot : ℕ) (x : State) (i : Insn) (text members : List ℕ) → insn_at x.program x.pc ≡ Some i → is_branch i ≡ true
    → slot ≡ x.pc → text ≡ text_at x.program x.pc
    → step_lead k slot (drop (length (decimal slot) + 2) text) ++ way_member x ++ members ++ step_tail (operands_in Json x i) ≡ branch_object members k x
unfolding branch_object
branch_object_is k slot x i text members here is at named =
    ap (λ (s : ℕ). step_lead k s (drop (length (decimal s) + 2) text) ++ way_member x ++ members ++ step_tail (operands_in Json x i)) at
    ∙ ap (λ (t : List ℕ). step_lead k x.pc t ++ way_member x ++ members ++ step_tail (operands_in Json x i)) (insn_behind x.program x.pc text named)
    ∙ ap (λ (b : Bool). if b then step_lead k x.pc (insn_text x.program x.pc) ++ way_member x ++ members ++ step_tail (operands_in Json x i) else []) (sym is)
    ∙ ap (λ (o : Option Insn). option_map_or (branch_object_by members k x) o []) (sym here)

pub no_object : (members : List ℕ) (k : ℕ) (x : State) (i : Insn) → insn_at x.program x.pc ≡ Some i → is_branch i ≡ false → [] ≡ branch_object members k x
unfolding branch_object
no_object members k x i here isnt =
    ap (λ (b : Bool). if b then step_lead k x.pc (insn_text x.program x.pc) ++ way_member x ++ members ++ step_tail (operands_in Json x i) else []) (sym isnt)
    ∙ ap (λ (o : Option Insn). option_map_or (branch_object_by members k x) o []) (sym here)

pub member_is : (x y : State) → y ≡ next x → (if y.pc == x.pc + 1 then codes ",\"way\":\"went on\"" else codes ",\"way\":\"jumped\"") ≡ way_member x
unfolding way_member
member_is x y e = ap (λ (p : ℕ). if p == x.pc + 1 then codes ",\"way\":\"went on\"" else codes ",\"way\":\"jumped\"") (ap (λ (z : State). z.pc) e)
