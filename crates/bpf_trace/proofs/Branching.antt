-- The line of a conditional jump, as it is put together.
use Rattle.std.proofs.Common.{◌≡◌, ◌+◌, ℕ, Bool, true, false, List, [], ◌++◌, Option, Some, codes, decimal, if◌then◌else◌, refl, sym, ap, ◌∙◌, append_assoc}
use Rattle.std.specs.Prelude.{◌==◌}
use Rattle.std.specs.Option.{option_map_or}
use Rattle.bpf_isa.specs.Programs.{insn_at}
use Rattle.bpf_isa.specs.declared.instruction.Insn.{Insn}
use Rattle.bpf_steps.specs.Next.{next}
use Rattle.bpf_steps.specs.State.{State}
use Rattle.bpfdb_script.specs.Texts.{text_at}
use Rattle.bpf_trace.specs.Branches.{branch_by, branch_line, is_branch, way_text}
use Rattle.bpf_trace.specs.Forms.{operands_in}
use Rattle.bpf_trace.specs.Rows.{branch_text}
use Rattle.bpf_trace.specs.declared.form.Form.{Form}
use Rattle.bpf_trace.specs.declared.form.Form.TheVariants.{Text, Json}
use Rattle.bpf_trace.proofs.Heads.{no_object}

-- as it is where the instruction is a conditional jump, and where it is another one
by_kind : (told : List ℕ) (k : ℕ) (x : State) (i : Insn) (branches : Bool) → insn_at x.program x.pc ≡ Some i → is_branch i ≡ branches
    → branch_line told k x ≡ (if branches then decimal k ++ codes " " ++ text_at x.program x.pc ++ operands_in Text x i ++ way_text x ++ told ++ codes "\n" else [])
unfolding branch_line
by_kind told k x i branches here is =
    ap (λ (o : Option Insn). option_map_or (branch_by told k x) o []) here
    ∙ ap (λ (b : Bool). if b then decimal k ++ codes " " ++ text_at x.program x.pc ++ operands_in Text x i ++ way_text x ++ told ++ codes "\n" else []) is

-- another instruction has no row
pub no_row : (form : Form) (told : List ℕ) (k : ℕ) (x : State) (i : Insn) → insn_at x.program x.pc ≡ Some i → is_branch i ≡ false → [] ≡ branch_text form told k x
no_row Text told k x i here other = sym (by_kind told k x i false here other)
no_row Json told k x i here other = no_object told k x i here other

pub way_is : (x y : State) → y ≡ next x → (if y.pc == x.pc + 1 then codes "; went on" else codes "; jumped") ≡ way_text x
unfolding way_text
way_is x y e = ap (λ (p : ℕ). if p == x.pc + 1 then codes "; went on" else codes "; jumped") (ap (λ (z : State). z.pc) e)

pub joined : (told line head compared way place : List ℕ) → told ++ line ≡ head
    → told ++ (((line ++ compared) ++ way) ++ place ++ codes "\n") ≡ head ++ compared ++ way ++ place ++ codes "\n"
joined told line head compared way place e =
    let flat : told ++ (((line ++ compared) ++ way) ++ place ++ codes "\n") ≡ (told ++ line) ++ compared ++ way ++ place ++ codes "\n" = simp append_assoc refl in
    flat ∙ ap (λ (t : List ℕ). t ++ compared ++ way ++ place ++ codes "\n") e

-- the line of one
pub branch_line_is : (told : List ℕ) (k : ℕ) (x : State) (i : Insn) (text : List ℕ) → insn_at x.program x.pc ≡ Some i → is_branch i ≡ true
    → text ≡ text_at x.program x.pc
    → (decimal k ++ codes " " ++ text) ++ operands_in Text x i ++ way_text x ++ told ++ codes "\n" ≡ branch_line told k x
branch_line_is told k x i text here is named =
    ap (λ (t : List ℕ). decimal k ++ codes " " ++ t ++ operands_in Text x i ++ way_text x ++ told ++ codes "\n") named
    ∙ sym (by_kind told k x i true here is)
