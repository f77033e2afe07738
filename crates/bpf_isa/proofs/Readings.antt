-- What fields read as: a row whose codes stand in them gives an instruction, and one alone.
use Rattle.std.proofs.Common.{◌≡◌, ◌≤◌, ◌<◌, ◌+◌, ◌*◌, ℕ, List, None, Some, Result, Ok, arith, sym, ◌∙◌, subst, ap}
use Rattle.std.specs.Prelude.{All}
use Rattle.std.specs.Int.{w16, w32, cast_signed}
use Rattle.bpf_isa.specs.declared.instruction.Insn.{Insn}
use Rattle.bpf_isa.specs.declared.instruction.Insn.TheVariants as insn
use Rattle.bpf_isa.specs.declared.instruction.Source.{Source}
use Rattle.bpf_isa.specs.declared.instruction.Source.TheVariants as source
use Rattle.bpf_isa.specs.declared.instruction.WideValue.TheVariants as value
use Rattle.bpf_isa.specs.declared.instruction.SourceKind.{SourceKind}
use Rattle.bpf_isa.specs.declared.instruction.SourceKind.TheVariants.{Immediate, Register}
use Rattle.bpf_isa.specs.declared.mnemonic.Mnemonic.{Mnemonic}
use Rattle.bpf_isa.specs.declared.mnemonic.Mnemonic.TheVariants.{Binary, Negate, SignExtend, SwapBytes, JumpIf, Jump, JumpLong, CallHelper, CallLocal, Exit, Load, Store, Atomic, LoadWide}
use Rattle.bpf_isa.specs.declared.mnemonic.WideKind.TheVariants.{Number, Map, MapValue}
use Rattle.bpf_isa.specs.declared.fields.Fields.{Fields}
use Rattle.bpf_isa.specs.declared.row.Row.{Row}
use Rattle.bpf_isa.specs.declared.fault.WordFault.{WordFault}
use Rattle.bpf_isa.specs.declared.fault.WordFault.TheVariants.{UnknownInstruction, RegisterAboveTen, UnusedField, CutOff}
use Rattle.bpf_isa.specs.Faults.{word_fault}
use Rattle.bpf_isa.specs.Mnemonics.{mnemonic_of}
use Rattle.bpf_isa.specs.WordFaults.{HasWordFault, IsLeastWordFault}
use Rattle.bpf_isa.specs.Words.{row_of, fields_of, HasCodes, HasRegisters, HasParts, IsClean, ReadsAs, IsWord}
use Rattle.bpf_isa.specs.Scaffolding.Codec.{row, insn_kind, IsOnly, IsLaid, IsRead}

abbrev operand : SourceKind → Fields → Source
operand Immediate f = source.Immediate (cast_signed w32 f.imm)
operand Register f = source.Register f.src

abbrev reading : Mnemonic → SourceKind → Fields → Insn
reading (Binary op width) kind f = insn.Binary op width f.dst (operand kind f)
reading (Negate width) kind f = insn.Negate width f.dst
reading (SignExtend extension) kind f = insn.SignExtend extension f.dst f.src
reading (SwapBytes order width) kind f = insn.SwapBytes order width f.dst
reading (JumpIf condition width) kind f = insn.JumpIf condition width f.dst (operand kind f) (cast_signed w16 f.offset)
reading Jump kind f = insn.Jump (cast_signed w16 f.offset)
reading JumpLong kind f = insn.JumpLong (cast_signed w32 f.imm)
reading CallHelper kind f = insn.CallHelper f.imm
reading CallLocal kind f = insn.CallLocal (cast_signed w32 f.imm)
reading Exit kind f = insn.Exit
reading (Load size) kind f = insn.Load size f.dst (record { base = f.src; offset = cast_signed w16 f.offset })
reading (Store size form) kind f = insn.Store size (record { base = f.dst; offset = cast_signed w16 f.offset }) (operand form f)
reading (Atomic op width) kind f = insn.Atomic op width (record { base = f.dst; offset = cast_signed w16 f.offset }) f.src
reading (LoadWide Number) kind f = insn.LoadWide f.dst (value.Number (f.imm + 4294967296 * f.next))
reading (LoadWide Map) kind f = insn.LoadWide f.dst (value.Map f.imm)
reading (LoadWide MapValue) kind f = insn.LoadWide f.dst (value.MapValue f.imm f.next)

reads_as : (mnemonic : Mnemonic) (kind : SourceKind) (f : Fields) → HasCodes (row mnemonic kind) f → ReadsAs f (reading mnemonic kind f)
reads_as mnemonic kind f codes = grind arith

-- an instruction's row is that of its mnemonic in its form
row_is : (i : Insn) → row (mnemonic_of i) (insn_kind i) ≡ row_of i
row_is i = grind arith

-- two instructions of one mnemonic that the fields read as are one
pub one_reading : (i j : Insn) (f : Fields) → ReadsAs f i → ReadsAs f j → mnemonic_of i ≡ mnemonic_of j → i ≡ j
one_reading i j f read_i read_j same = grind arith

-- what bytes read as has its mnemonic's codes in their fields
codes_of : (bytes : List ℕ) (f : Fields) → f ≡ fields_of bytes → (insn : Insn) → ReadsAs (fields_of bytes) insn → HasCodes (row (mnemonic_of insn) (insn_kind insn)) f
codes_of bytes f e insn read = subst (λ r. HasCodes r f) (sym (row_is insn)) (subst (HasCodes (row_of insn)) (sym e) read.codes)

-- no mnemonic has its codes in the fields
not_some : {A : Type 0} {x : A} → None ≡ Some x → ⊥
not_some e = cc

pub reads_none : (bytes : List ℕ) (f : Fields) → f ≡ fields_of bytes → IsOnly f None → (insn : Insn) → ReadsAs (fields_of bytes) insn → ⊥
reads_none bytes f e only insn read = not_some (only (mnemonic_of insn) (insn_kind insn) (codes_of bytes f e insn read))

least_four : (bytes : List ℕ) (other : WordFault) → HasWordFault bytes other → 4 ≤ (word_fault other).0
least_four bytes UnknownInstruction has = omega arith
least_four bytes RegisterAboveTen has = omega arith
least_four bytes UnusedField has = omega arith
least_four bytes CutOff has = omega arith

pub unknown_fault : (bytes : List ℕ) (f : Fields) → f ≡ fields_of bytes → IsOnly f None → IsLeastWordFault bytes UnknownInstruction
unfolding IsLeastWordFault
unknown_fault bytes f e only = record { applies = reads_none bytes f e only; least = least_four bytes }

-- a register field is above 10
least_five : (bytes : List ℕ) (insn : Insn) → ReadsAs (fields_of bytes) insn → (other : WordFault) → HasWordFault bytes other → 5 ≤ (word_fault other).0
least_five bytes insn reads UnknownInstruction has = absurd (has insn reads)
least_five bytes insn reads RegisterAboveTen has = omega arith
least_five bytes insn reads UnusedField has = omega arith
least_five bytes insn reads CutOff has = omega arith

pub register_fault : (bytes : List ℕ) (f : Fields) (mnemonic : Mnemonic) (kind : SourceKind) → f ≡ fields_of bytes → HasCodes (row mnemonic kind) f → (HasRegisters f → ⊥) → IsLeastWordFault bytes RegisterAboveTen
unfolding IsLeastWordFault
register_fault bytes f mnemonic kind e codes above =
    let reads : ReadsAs (fields_of bytes) (reading mnemonic kind f) = subst (λ (g : Fields). ReadsAs g (reading mnemonic kind f)) e (reads_as mnemonic kind f codes) in
    record { applies = subst (λ (g : Fields). HasRegisters g → ⊥) e above; least = least_five bytes (reading mnemonic kind f) reads }

-- the instruction of the one mnemonic whose codes stand in the fields was read
same_of : (i j : Mnemonic) → Some i ≡ Some j → j ≡ i
same_of i j e = cc

same_reading : (bytes : List ℕ) (f : Fields) (mnemonic : Mnemonic) (i : Insn) → f ≡ fields_of bytes → IsOnly f (Some mnemonic) → mnemonic_of i ≡ mnemonic → ReadsAs (fields_of bytes) i → (other : Insn) → ReadsAs (fields_of bytes) other → other ≡ i
same_reading bytes f mnemonic i e only named reads other read =
    one_reading other i (fields_of bytes) read reads (same_of _ _ (only (mnemonic_of other) (insn_kind other) (codes_of bytes f e other read)) ∙ sym named)

reads_here : (bytes : List ℕ) (f : Fields) (mnemonic : Mnemonic) (kind : SourceKind) (i : Insn) → f ≡ fields_of bytes → HasCodes (row mnemonic kind) f → row_of i ≡ row mnemonic kind → HasParts i f → ReadsAs (fields_of bytes) i
reads_here bytes f mnemonic kind i e codes at parts =
    subst (λ (g : Fields). ReadsAs g i) e (record { codes = subst (λ r. HasCodes r f) (sym at) codes; parts = parts })

pub is_read : (bytes : List ℕ) (f : Fields) (mnemonic : Mnemonic) (kind : SourceKind) (i : Insn) → f ≡ fields_of bytes → All (λ byte. byte < 256) bytes → HasCodes (row mnemonic kind) f → IsOnly f (Some mnemonic) → mnemonic_of i ≡ mnemonic → row_of i ≡ row mnemonic kind → HasParts i f → HasRegisters f → IsClean (row mnemonic kind) f → IsRead bytes i
is_read bytes f mnemonic kind i e small codes only named at parts registers clean =
    let reads = reads_here bytes f mnemonic kind i e codes at parts in
    record {
      small = small;
      reads = reads;
      clean = subst (IsClean (row_of i)) e (subst (λ r. IsClean r f) (sym at) clean);
      registers = subst HasRegisters e registers;
      only = same_reading bytes f mnemonic i e only named reads;
    }

-- where it leaves something over, no word is read
pub no_word : (bytes : List ℕ) (f : Fields) (mnemonic : Mnemonic) (kind : SourceKind) (i : Insn) → f ≡ fields_of bytes → HasCodes (row mnemonic kind) f → IsOnly f (Some mnemonic) → mnemonic_of i ≡ mnemonic → row_of i ≡ row mnemonic kind → HasParts i f → (IsClean (row mnemonic kind) f → ⊥) → (other : Insn) → IsWord other bytes → ⊥
no_word bytes f mnemonic kind i e codes only named at parts dirty other whole =
    let same = same_reading bytes f mnemonic i e only named (reads_here bytes f mnemonic kind i e codes at parts) other whole.reads in
    dirty (subst (λ r. IsClean r f) at (subst (λ (j : Insn). IsClean (row_of j) f) same (subst (IsClean (row_of other)) (sym e) whole.clean)))

-- it is the only one
pub ok_reading : (bytes : List ℕ) (i other : Insn) → IsRead bytes i → IsWord other bytes → ◌≡◌ {A = Result Insn WordFault} (Ok i) (Ok other)
ok_reading bytes i other read whole = ap Ok (sym (read.only other whole.reads))

-- parts stay where the codes of a row are laid over them
laid_parts : (i : Insn) (parts f : Fields) → IsLaid (row_of i) parts f → HasParts i parts → HasParts i f
laid_parts i parts f laid has = grind arith

laid_registers : (i : Insn) (parts f : Fields) → IsLaid (row_of i) parts f → HasCodes (row_of i) f → IsClean (row_of i) f → HasRegisters parts → HasRegisters f
laid_registers i parts f laid codes clean registers = grind arith

module _ (i : Insn) (mnemonic : Mnemonic) (kind : SourceKind) (r : Row) (named : mnemonic ≡ mnemonic_of i) (form : kind ≡ insn_kind i) (is_row : r ≡ row mnemonic kind) (parts f : Fields) (codes : HasCodes r f) (laid : IsLaid r parts f) where
  at : r ≡ row_of i
  at = is_row ∙ ap (λ m. row m kind) named ∙ ap (row _) form ∙ row_is i

  pub laid_reads : HasParts i parts → ReadsAs f i
  laid_reads has = record { codes = subst (λ (q : Row). HasCodes q f) at codes; parts = laid_parts i parts f (subst (λ (q : Row). IsLaid q parts f) at laid) has }

  pub laid_clean : IsClean r f → IsClean (row_of i) f
  laid_clean clean = subst (λ (q : Row). IsClean q f) at clean

  pub laid_in_range : IsClean r f → HasRegisters parts → HasRegisters f
  laid_in_range clean = laid_registers i parts f (subst (λ (q : Row). IsLaid q parts f) at laid) (subst (λ (q : Row). HasCodes q f) at codes) (subst (λ (q : Row). IsClean q f) at clean)
