-- The law that each read matters.
use Rattle.std.proofs.Common.{◌≡◌, ◌≢◌, ◌<◌, ◌⊎◌, ℕ, ◌%◌, ◌^◌, List, [], ◌∷◌, ◌++◌, length, length-append, flat_map, Bool, true, false, Option, Some, None, refl, sym, ap, subst, ◌∙◌, inl, inr, arith}
use Rattle.std.specs.Prelude.{IsSome, nat_lt, slice_get, if◌then◌else◌}
use Rattle.std.proofs.lemmas.Bool.Decides.{nat_tests}
use Rattle.bpf_isa.specs.Helpers.{helper_of}
use Rattle.bpf_isa.specs.declared.helpers.Helper.{Helper}
use Rattle.bpf_isa.specs.Programs.{insn_at}
use Rattle.bpf_isa.specs.declared.instruction.BinaryOp.{BinaryOp}
use Rattle.bpf_isa.specs.declared.instruction.BinaryOp.TheVariants as binaries
use Rattle.bpf_isa.specs.declared.instruction.Address.{Address}
use Rattle.bpf_isa.specs.declared.instruction.Insn.{Insn}
use Rattle.bpf_isa.specs.declared.instruction.Insn.TheVariants as insn
use Rattle.bpf_isa.specs.declared.instruction.Size.{Size}
use Rattle.bpf_isa.specs.declared.instruction.Source.{Source}
use Rattle.bpf_isa.specs.declared.instruction.Source.TheVariants as source
use Rattle.bpf_isa.specs.declared.instruction.Width.{Width}
use Rattle.bpf_entries.specs.Status.{has_ended}
use Rattle.bpf_steps.specs.Access.{address}
use Rattle.bpf_steps.specs.Arithmetic.{negated, sign_extended}
use Rattle.bpf_steps.specs.Next.{change_by}
use Rattle.bpf_steps.specs.Numbers.{bits_of}
use Rattle.bpf_steps.specs.State.{State, IsState, depth}
use Rattle.bpf_steps.specs.Swaps.{swapped}
use Rattle.bpf_origin.specs.declared.place.Part.{Part}
use Rattle.bpf_origin.specs.declared.place.Part.TheVariants as part
use Rattle.bpf_origin.specs.Matters.{places, IsPlain, IsBeside, Matters, Decides, EachReadMatters}
use Rattle.bpf_origin.specs.Places.{depth_for, bytes_from, places_of}
use Rattle.bpf_origin.specs.Reads.{of_register, of_source, of_first, load_len, reads_by, bases_by, conditions_by}
use Rattle.bpf_origin.proofs.EachAtomic.{atomic_reads, atomic_base}
use Rattle.bpf_origin.proofs.EachHelper.{call_reads, call_bases}
use Rattle.bpf_origin.proofs.EachRead.{pick_one, pick_two, count_bytes, of_low, negation_tells, extension_tells, swap_tells, unary_row, binary_first, binary_second, jump_first, jump_second, load_row, load_base, store_row, store_base}

-- Each operation but a move reads its first operand.
abbrev ReadsFirst : BinaryOp → Type 0
ReadsFirst op = (op ≢ binaries.Mov) × ((s : State) (dst : ℕ) → of_first s op dst ≡ of_register s dst)

first_read : (op : BinaryOp) → (op ≡ binaries.Mov) ⊎ ReadsFirst op
first_read binaries.Mov = inl refl
first_read binaries.Add = inr ((λ e. cc), (λ s dst. refl))
first_read binaries.Sub = inr ((λ e. cc), (λ s dst. refl))
first_read binaries.Mul = inr ((λ e. cc), (λ s dst. refl))
first_read binaries.Div = inr ((λ e. cc), (λ s dst. refl))
first_read binaries.SignedDiv = inr ((λ e. cc), (λ s dst. refl))
first_read binaries.Or = inr ((λ e. cc), (λ s dst. refl))
first_read binaries.And = inr ((λ e. cc), (λ s dst. refl))
first_read binaries.LeftShift = inr ((λ e. cc), (λ s dst. refl))
first_read binaries.RightShift = inr ((λ e. cc), (λ s dst. refl))
first_read binaries.Mod = inr ((λ e. cc), (λ s dst. refl))
first_read binaries.SignedMod = inr ((λ e. cc), (λ s dst. refl))
first_read binaries.Xor = inr ((λ e. cc), (λ s dst. refl))
first_read binaries.SignedRightShift = inr ((λ e. cc), (λ s dst. refl))

-- A register that is a part is below 10.
low_of : (s : State) (r n : ℕ) → n < length (flat_map places_of (of_register s r)) → r < 10
low_of s r n less = by_test (nat_lt r 10) refl less
  where
    by_test : (b : Bool) → nat_lt r 10 ≡ b → n < length (flat_map places_of (if b then part.Register (depth_for (depth s) r) r ∷ [] else [])) → r < 10
    by_test true e less = grind (arith, nat_tests)
    by_test false e less = absurd (omega (arith, less))

none_below : (n : ℕ) → n < 0 → ⊥
none_below n less = absurd (omega (arith, less))

some_helper : (o : Option Helper) → IsSome o → (h : Helper) × (o ≡ Some h)
some_helper None exists = cc
some_helper (Some h) exists = (h, refl)

module _ (x : State) (hx : IsState x) (on : has_ended x.status ≡ false) where
  binary_reads : (op : BinaryOp) (width : Width) (dst : ℕ) (src : Source) → insn_at x.program x.pc ≡ Some (insn.Binary op width dst src) → dst < 10 → IsBeside dst src → (op ≡ binaries.Mov) ⊎ ReadsFirst op → (n : ℕ) → n < length (places reads_by x (insn.Binary op width dst src)) → Matters reads_by bases_by (insn.Binary op width dst src) n x
  binary_reads op width dst src here low is (inr first) n less = by_source src here is less
    where
      by_source : (src : Source) → insn_at x.program x.pc ≡ Some (insn.Binary op width dst src) → IsBeside dst src → n < length (flat_map places_of (of_first x op dst ++ of_source x src)) → Matters reads_by bases_by (insn.Binary op width dst src) n x
      by_source (source.Immediate imm) here is less =
          pick_one (λ k. Matters reads_by bases_by (insn.Binary op width dst (source.Immediate imm)) k x)
          (binary_first x hx on op width dst (source.Immediate imm) here low is first.0 (λ s. first.1 s dst))
          n (subst (λ k. n < k) (ap (λ ps. length (flat_map places_of (ps ++ []))) (first.1 x dst ∙ of_low x dst low)) less)
      by_source (source.Register r) here is less =
          pick_two (λ k. Matters reads_by bases_by (insn.Binary op width dst (source.Register r)) k x)
          (binary_first x hx on op width dst (source.Register r) here low is first.0 (λ s. first.1 s dst))
          (binary_second x hx on op width dst r 1 here low is.0 is.1 (λ s. ap (λ ps. slice_get (flat_map places_of (ps ++ (part.Register (depth_for (depth s) r) r ∷ []))) 1) (first.1 s dst ∙ of_low s dst low)))
          n (subst (λ k. n < k) (ap (λ ps. length (flat_map places_of (ps ++ of_register x r))) (first.1 x dst ∙ of_low x dst low) ∙ ap (λ ps. length (flat_map places_of (part.Register (depth_for (depth x) dst) dst ∷ ps))) (of_low x r is.0)) less)
  binary_reads op width dst src here low is (inl e) n less =
      subst (λ (o : BinaryOp). insn_at x.program x.pc ≡ Some (insn.Binary o width dst src) → n < length (places reads_by x (insn.Binary o width dst src)) → Matters reads_by bases_by (insn.Binary o width dst src) n x) (sym e)
      (λ now few. moved src now is few) here less
    where
      moved : (src : Source) → insn_at x.program x.pc ≡ Some (insn.Binary binaries.Mov width dst src) → IsBeside dst src → n < length (flat_map places_of (of_source x src)) → Matters reads_by bases_by (insn.Binary binaries.Mov width dst src) n x
      moved (source.Immediate imm) here is less = absurd (none_below n less)
      moved (source.Register r) here is less =
          pick_one (λ k. Matters reads_by bases_by (insn.Binary binaries.Mov width dst (source.Register r)) k x)
          (binary_second x hx on binaries.Mov width dst r 0 here low is.0 is.1 (λ s. refl))
          n (subst (λ k. n < k) (ap (λ ps. length (flat_map places_of ps)) (of_low x r is.0)) less)

  store_reads : (size : Size) (to : Address) (src : Source) → insn_at x.program x.pc ≡ Some (insn.Store size to src) → to.base < 10 → IsBeside to.base src → (n : ℕ) → n < length (flat_map places_of (of_source x src)) → Matters reads_by bases_by (insn.Store size to src) n x
  store_reads size to (source.Immediate imm) here low is n less = absurd (none_below n less)
  store_reads size to (source.Register r) here low is n less =
      pick_one (λ k. Matters reads_by bases_by (insn.Store size to (source.Register r)) k x)
      (store_row x hx on size to r here low is.0 is.1) n (subst (λ k. n < k) (ap (λ ps. length (flat_map places_of ps)) (of_low x r is.0)) less)

  one_register : (table other : State → Insn → List Part) (i : Insn) (r n : ℕ) → n < length (flat_map places_of (of_register x r)) → (r < 10 → Matters table other i 0 x) → Matters table other i n x
  one_register table other i r n less row =
      let low = low_of x r n less in
      pick_one (λ k. Matters table other i k x) (row low) n (subst (λ k. n < k) (ap (λ ps. length (flat_map places_of ps)) (of_low x r low)) less)

  reads_matter : (i : Insn) → insn_at x.program x.pc ≡ Some i → IsPlain x i → (n : ℕ) → n < length (places reads_by x i) → Matters reads_by bases_by i n x
  unfolding change_by
  reads_matter (insn.Binary op width dst src) here is n less =
      binary_reads op width dst src here (hx.checked.spares x.pc dst (insn.Binary op width dst src) here refl) is (first_read op) n less
  reads_matter (insn.Negate width dst) here is n less =
      let low = hx.checked.spares x.pc dst (insn.Negate width dst) here refl in
      one_register reads_by bases_by (insn.Negate width dst) dst n less
      (λ within. unary_row x hx on (insn.Negate width dst) dst dst (λ v. negated (bits_of width) (v % 2 ^ bits_of width)) here low within (λ s. refl) (negation_tells width) (λ s. refl) (λ s. refl))
  reads_matter (insn.SignExtend extension dst src) here is n less =
      let low = hx.checked.spares x.pc dst (insn.SignExtend extension dst src) here refl in
      one_register reads_by bases_by (insn.SignExtend extension dst src) src n less
      (λ within. unary_row x hx on (insn.SignExtend extension dst src) dst src (sign_extended extension) here low within (λ s. refl) (extension_tells extension) (λ s. refl) (λ s. refl))
  reads_matter (insn.SwapBytes order width dst) here is n less =
      let low = hx.checked.spares x.pc dst (insn.SwapBytes order width dst) here refl in
      one_register reads_by bases_by (insn.SwapBytes order width dst) dst n less
      (λ within. unary_row x hx on (insn.SwapBytes order width dst) dst dst (swapped order width) here low within (λ s. refl) (swap_tells order width) (λ s. refl) (λ s. refl))
  reads_matter (insn.JumpIf c width dst src offset) here is n less = absurd (none_below n less)
  reads_matter (insn.Jump offset) here is n less = absurd (none_below n less)
  reads_matter (insn.JumpLong distance) here is n less = absurd (none_below n less)
  reads_matter (insn.CallHelper number) here is n less =
      let h = some_helper (helper_of number) (hx.checked.helpers x.pc (insn.CallHelper number) here) in
      call_reads x hx on number here h.0 h.1 is.0 is.1 n less
  reads_matter (insn.CallLocal distance) here is n less = absurd (none_below n less)
  reads_matter insn.Exit here is n less = absurd (none_below n less)
  reads_matter (insn.Load size dst from) here is n less =
      load_row x hx on size dst from n here (hx.checked.spares x.pc dst (insn.Load size dst from) here refl) is
      (subst (λ k. n < k) (length-append (bytes_from (address x from) (load_len size)) [] ∙ omega (arith, count_bytes (address x from) (load_len size))) less)
  reads_matter (insn.Store size to src) here is n less = store_reads size to src here is.0 is.1 n less
  reads_matter (insn.Atomic op width to src) here is n less =
      atomic_reads x hx on op width to src here is.0 is.1 is.2 is.3.0 is.3.1 n less
  reads_matter (insn.LoadWide dst value) here is n less = absurd (none_below n less)

  bases_matter : (i : Insn) → insn_at x.program x.pc ≡ Some i → IsPlain x i → (n : ℕ) → n < length (places bases_by x i) → Matters bases_by reads_by i n x
  bases_matter (insn.CallHelper number) here is n less =
      let h = some_helper (helper_of number) (hx.checked.helpers x.pc (insn.CallHelper number) here) in
      call_bases x hx on number here h.0 h.1 is.0 n less
  bases_matter (insn.Load size dst from) here is n less =
      one_register bases_by reads_by (insn.Load size dst from) from.base n less
      (λ within. load_base x hx on size dst from here (hx.checked.spares x.pc dst (insn.Load size dst from) here refl) within)
  bases_matter (insn.Store size to src) here is n less =
      one_register bases_by reads_by (insn.Store size to src) to.base n less (λ within. store_base x hx on size to src here within is.1)
  bases_matter (insn.Atomic op width to src) here is n less =
      one_register bases_by reads_by (insn.Atomic op width to src) to.base n less
      (λ within. atomic_base x hx on op width to src here is.0 within is.2 is.3.0 is.3.1)
  bases_matter i here is n less = absurd (none_below n less)

  conditions_decide : (i : Insn) → insn_at x.program x.pc ≡ Some i → IsPlain x i → (n : ℕ) → n < length (places conditions_by x i) → Decides i n x
  conditions_decide (insn.JumpIf c width dst (source.Immediate imm) offset) here is n less =
      pick_one (λ k. Decides (insn.JumpIf c width dst (source.Immediate imm) offset) k x)
      (jump_first x hx on c width dst (source.Immediate imm) offset here is.0 is.1 is.2)
      n (subst (λ k. n < k) (ap (λ ps. length (flat_map places_of (ps ++ []))) (of_low x dst is.0)) less)
  conditions_decide (insn.JumpIf c width dst (source.Register r) offset) here is n less =
      pick_two (λ k. Decides (insn.JumpIf c width dst (source.Register r) offset) k x)
      (jump_first x hx on c width dst (source.Register r) offset here is.0 is.1 is.2)
      (jump_second x hx on c width dst r offset here is.0 is.1.0 is.1.1 is.2)
      n (subst (λ k. n < k) (ap (λ ps. length (flat_map places_of (ps ++ of_register x r))) (of_low x dst is.0) ∙ ap (λ ps. length (flat_map places_of (part.Register (depth_for (depth x) dst) dst ∷ ps))) (of_low x r is.1.0)) less)
  conditions_decide i here is n less = absurd (none_below n less)

pub law_matters : EachReadMatters
law_matters x y i leads here is = record {
  reads = reads_matter x leads.before leads.movable i here is;
  bases = bases_matter x leads.before leads.movable i here is;
  conditions = conditions_decide x leads.before leads.movable i here is;
}
