-- What a step reads of the stack, instruction by instruction.
use Rattle.std.proofs.Common.{◌≡◌, ℕ, Bool, true, false, List, [], ◌∷◌, ◌++◌, Option, Some, None, refl, sym, ap, ◌∙◌}
use Rattle.std.specs.Prelude.{if◌then◌else◌, nat_lt}
use Rattle.std.specs.Option.{option_map_or, option_or}
use Rattle.bpf_isa.specs.Helpers.{helper_of}
use Rattle.bpf_isa.specs.Programs.{insn_at}
use Rattle.bpf_isa.specs.Sizes.{size_len}
use Rattle.bpf_isa.specs.declared.helpers.Helper.{Helper}
use Rattle.bpf_isa.specs.declared.helpers.Helper.TheVariants as named
use Rattle.bpf_isa.specs.declared.instruction.AtomicOp.{AtomicOp}
use Rattle.bpf_isa.specs.declared.instruction.AtomicOp.TheVariants.{CompareExchange}
use Rattle.bpf_isa.specs.declared.instruction.BinaryOp.{BinaryOp}
use Rattle.bpf_isa.specs.declared.instruction.BinaryOp.TheVariants.{Mov}
use Rattle.bpf_isa.specs.declared.instruction.Insn.{Insn}
use Rattle.bpf_isa.specs.declared.instruction.Insn.TheVariants as insn
use Rattle.bpf_isa.specs.declared.instruction.Source.{Source}
use Rattle.bpf_isa.specs.declared.instruction.Source.TheVariants.{Immediate, Register}
use Rattle.bpf_machine.specs.declared.moves.Move.TheVariants as move
use Rattle.bpf_steps.specs.Access.{address}
use Rattle.bpf_steps.specs.Atomics.{size_of}
use Rattle.bpf_steps.specs.Next.{change, change_by}
use Rattle.bpf_steps.specs.State.{State, depth, register}
use Rattle.bpf_steps.specs.declared.change.Change.{Change}
use Rattle.bpf_steps.specs.declared.change.Change.TheVariants.{Cell}
use Rattle.bpf_origin.specs.Places.{depth_for}
use Rattle.bpf_origin.specs.Reads.{load_len, of_compared, of_first, of_helper, of_key, of_register, of_source, of_value, reads, reads_by}
use Rattle.bpf_origin.specs.declared.place.Part.{Part}
use Rattle.bpf_origin.specs.declared.place.Part.TheVariants as part
use Rattle.bpf_trace.specs.Marks.{first_by, first_of_helper, first_of_value, first_with, is_quiet, next_touches, touches}
use Rattle.bpf_trace.specs.Written.{first_among, first_in, first_of, is_stop, read_unwritten}

-- the first of several
or-none : (o : Option ℕ) → option_or o None ≡ o
or-none None = refl
or-none (Some a) = refl

or-assoc : (o p q : Option ℕ) → option_or o (option_or p q) ≡ option_or (option_or o p) q
or-assoc None p q = refl
or-assoc (Some a) p q = refl

module _ (before : List State) where
  first-append : (ps qs : List Part) → first_among before (ps ++ qs) ≡ option_or (first_among before ps) (first_among before qs)
  first-append [] qs = refl
  first-append (p ∷ ps) qs =
      ap (option_or (first_of before p)) (first-append ps qs) ∙ or-assoc (first_of before p) (first_among before ps) (first_among before qs)

  first-skip : (ps qs : List Part) → first_among before ps ≡ None → first_among before (ps ++ qs) ≡ first_among before qs
  first-skip ps qs none = first-append ps qs ∙ ap (λ (o : Option ℕ). option_or o (first_among before qs)) none

  -- registers are no bytes
  no-register-if : (b : Bool) (d r : ℕ) → first_among before (if b then part.Register d r ∷ [] else []) ≡ None
  no-register-if true d r = refl
  no-register-if false d r = refl

  no-register : (x : State) (r : ℕ) → first_among before (of_register x r) ≡ None
  no-register x r = no-register-if (nat_lt r 10) (depth_for (depth x) r) r

  no-compared : (x : State) (op : AtomicOp) → first_among before (of_compared x op) ≡ None
  no-compared x CompareExchange = no-register x 0
  no-compared x op = refl

  -- what a helper reads
  value-is : (x : State) (c : Change) → first_of_value before x c ≡ first_among before (of_value x c)
  value-is x (Cell a from n after) = sym (or-none (first_in before (register x 3) n))
  value-is x _ = refl

  key-is : (x : State) → first_in before (register x 2) 4 ≡ first_among before (of_key x)
  key-is x = sym (first-skip (of_register x 1) (part.Bytes (register x 2) 4 ∷ []) (no-register x 1) ∙ or-none (first_in before (register x 2) 4))

  helper-is : (x : State) (c : Change) (helper : Helper) → first_of_helper before x c helper ≡ first_among before (of_helper x c helper)
  helper-is x c named.Lookup = key-is x
  helper-is x c named.Update =
      ap (λ (o : Option ℕ). option_or o (first_of_value before x c)) (key-is x)
      ∙ ap (option_or (first_among before (of_key x))) (value-is x c ∙ sym (first-skip (of_register x 4) (of_value x c) (no-register x 4)))
      ∙ sym (first-append (of_key x) (of_register x 4 ++ of_value x c))
  helper-is x c named.Trace = sym (no-register x 1)

  call-is : (x : State) (c : Change) (found : Option Helper)
      → option_map_or (first_of_helper before x c) found None ≡ first_among before (option_map_or (of_helper x c) found [])
  call-is x c None = refl
  call-is x c (Some helper) = helper-is x c helper

  -- what an instruction reads
  no-source : (x : State) (source : Source) → first_among before (of_source x source) ≡ None
  no-source x (Immediate imm) = refl
  no-source x (Register r) = no-register x r

  no-first : (x : State) (op : BinaryOp) (dst : ℕ) → first_among before (of_first x op dst) ≡ None
  no-first x Mov dst = refl
  no-first x op dst = no-register x dst

  insn-is : (x : State) (i : Insn) → first_by before x (change x) i ≡ first_among before (reads_by x i)
  insn-is x (insn.Binary op width dst source) = sym (first-skip (of_first x op dst) (of_source x source) (no-first x op dst) ∙ no-source x source)
  insn-is x (insn.Negate width dst) = sym (no-register x dst)
  insn-is x (insn.SignExtend extension dst src) = sym (no-register x src)
  insn-is x (insn.SwapBytes order width dst) = sym (no-register x dst)
  insn-is x (insn.CallHelper number) = call-is x (change x) (helper_of number)
  insn-is x (insn.Load size dst from) = sym (or-none (first_in before (address x from) (load_len size)))
  insn-is x (insn.Store size to source) = sym (no-source x source)
  insn-is x (insn.Atomic op width to src) =
      let bytes = part.Bytes (address x to) (size_len (size_of width)) ∷ [] in
      sym (first-skip (of_compared x op) (of_register x src ++ bytes) (no-compared x op) ∙ first-skip (of_register x src) bytes (no-register x src)
      ∙ or-none (first_in before (address x to) (size_len (size_of width))))
  insn-is x _ = refl

  found-is : (x : State) (found : Option Insn)
      → option_map_or (first_by before x (change x)) found None ≡ first_among before (option_map_or (reads_by x) found [])
  found-is x None = refl
  found-is x (Some i) = insn-is x i

  with-is : (x : State) → first_with before x (change x) ≡ first_among before (reads x move.Step)
  with-is x = found-is x (insn_at x.program x.pc)

  -- what a step reads, whether it ends the run or not
  stopped-or : (b : Bool) (x : State) (o : Option ℕ) → is_stop (change x) ≡ b → o ≡ (if b then None else first_with before x (change x)) → o ≡ read_unwritten before x
  unfolding read_unwritten
  stopped-or b x o e is =
      is ∙ ap (λ (s : Bool). if s then None else first_with before x (change x)) (sym e)
      ∙ ap (λ (p : Option ℕ). if is_stop (change x) then None else p) (with-is x)

  pub read-stopped : (x : State) (c : Change) → c ≡ change x → true ≡ is_stop c → None ≡ read_unwritten before x
  read-stopped x c e is = stopped-or true x None (ap is_stop (sym e) ∙ sym is) refl

  pub read-here : (x : State) (c : Change) (o : Option ℕ) → c ≡ change x → false ≡ is_stop c → o ≡ first_with before x c → o ≡ read_unwritten before x
  read-here x c o e is found = stopped-or false x o (ap is_stop (sym e) ∙ sym is) (found ∙ ap (first_with before x) e)

  -- arithmetic and jumps read no memory
  quiet-insn : (x : State) (i : Insn) → touches i ≡ false → first_by before x (change x) i ≡ None
  quiet-insn x (insn.Load size dst from) is = absurd cc
  quiet-insn x (insn.Atomic op width to src) is = absurd cc
  quiet-insn x (insn.CallHelper number) is = absurd cc
  quiet-insn x _ is = refl

  quiet-found : (x : State) (found : Option Insn) → option_map_or touches found true ≡ false
      → option_map_or (first_by before x (change x)) found None ≡ None
  quiet-found x None is = refl
  quiet-found x (Some i) is = quiet-insn x i is

  none-anyway : (b : Bool) (o : Option ℕ) → o ≡ None → None ≡ (if b then None else o)
  none-anyway true o none = refl
  none-anyway false o none = sym none

  pub read-quiet : (x : State) → next_touches x ≡ false → None ≡ read_unwritten before x
  unfolding read_unwritten
  read-quiet x is =
      none-anyway (is_stop (change x)) (first_among before (reads x move.Step)) (sym (with-is x) ∙ quiet-found x (insn_at x.program x.pc) is)

-- Neither do they change what is no register.
quiet-by : (x : State) (i : Insn) → touches i ≡ false → is_quiet (change_by x i) ≡ true
unfolding change_by
quiet-by x (insn.Binary op width dst source) is = refl
quiet-by x (insn.Negate width dst) is = refl
quiet-by x (insn.SignExtend extension dst src) is = refl
quiet-by x (insn.SwapBytes order width dst) is = refl
quiet-by x (insn.JumpIf condition width dst source offset) is = refl
quiet-by x (insn.Jump offset) is = refl
quiet-by x (insn.JumpLong distance) is = refl
quiet-by x (insn.LoadWide dst value) is = refl
quiet-by x _ is = absurd cc

quiet-at : (x : State) (found : Option Insn) (rest : Change) → option_map_or touches found true ≡ false → is_quiet (option_map_or (change_by x) found rest) ≡ true
quiet-at x None rest is = absurd cc
quiet-at x (Some i) rest is = quiet-by x i is

pub change-quiet : (x : State) → next_touches x ≡ false → is_quiet (change x) ≡ true
unfolding change
change-quiet x is = quiet-at x (insn_at x.program x.pc) _ is
