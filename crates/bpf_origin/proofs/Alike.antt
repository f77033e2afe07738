-- The laws of what a move's values depend on.
use Rattle.std.proofs.Common.{◌≡◌, ◌<◌, ℕ, ◌+◌, ◌-◌, List, [], ◌∷◌, ◌++◌, length, length-append, take, true, false, Option, Some, None, refl, sym, ap, subst, ◌∙◌}
use Rattle.std.specs.Prelude.{IsSome, map, option_map, unwrap_or, slice_get}
use Rattle.std.specs.Option.{option_map_or}
use Rattle.std.proofs.lemmas.List.{map-append, take-map}
use Rattle.std.proofs.lemmas.Option.{slice_get-map}
use Rattle.bpf_isa.specs.Checker.{HelperExists}
use Rattle.bpf_isa.specs.Programs.{insn_at}
use Rattle.bpf_isa.specs.declared.instruction.Insn.{Insn}
use Rattle.bpf_isa.specs.declared.instruction.Insn.TheVariants as insn
use Rattle.bpf_entries.specs.Past.{stood}
use Rattle.bpf_steps.specs.declared.change.Change.{Change}
use Rattle.bpf_steps.specs.declared.change.Change.TheVariants.{Set, Go, Store, Fetch, Call, Return, Cell, Trace, Stop}
use Rattle.bpf_machine.specs.declared.edit.Edit.{Edit}
use Rattle.bpf_machine.specs.declared.edit.Edit.TheVariants as edit
use Rattle.bpf_steps.specs.declared.frame.Frame.{Frame}
use Rattle.bpf_machine.specs.declared.moves.Move.{Move}
use Rattle.bpf_machine.specs.declared.moves.Move.TheVariants as move
use Rattle.bpf_steps.specs.Calls.{innermost, popped, frame_of}
use Rattle.bpf_machine.specs.Edits.{IsEditable, edited, edit_entry, replaced_run}
use Rattle.bpf_steps.specs.Entries.{entry_of, step_entry}
use Rattle.bpf_steps.specs.Fetched.{Fits}
use Rattle.bpf_machine.specs.Moves.{Leads, moved, overwritten}
use Rattle.bpf_steps.specs.Next.{change_by, change, changed, returned, next}
use Rattle.bpf_steps.specs.Platform.{cell_address}
use Rattle.bpf_steps.specs.Regions.{Image, index_of, with_bytes, put}
use Rattle.bpf_steps.specs.State.{State, IsState, register, depth}
use Rattle.bpf_machine.proofs.Cells.{cell_present}
use Rattle.bpf_machine.proofs.Editable.{able_register, able_bytes, able_cell}
use Rattle.bpf_machine.proofs.Fitting.{change_fits}
use Rattle.bpf_machine.proofs.StepLaws.{change_at}
use Rattle.bpf_machine.proofs.Undoing.{runs, innermost_there}
use Rattle.bpf_origin.specs.declared.place.Place.{Place}
use Rattle.bpf_origin.specs.declared.place.Place.TheVariants.{Register, Word, Byte}
use Rattle.bpf_origin.specs.declared.place.Part.{Part}
use Rattle.bpf_origin.specs.declared.place.Part.TheVariants as part
use Rattle.bpf_origin.specs.Laws.{StandAlike, AgreeOn, WroteAlike, MovesWriteWhatTheyRead, StepsGoByConditions}
use Rattle.bpf_origin.specs.Places.{depth_for, value}
use Rattle.bpf_origin.specs.Reads.{reads_by, bases_by, conditions_by, reads, bases, conditions}
use Rattle.bpf_origin.specs.Writes.{writes}
use Rattle.bpf_origin.proofs.Agreeing.{AgreeEach, agree_each, split_each, deep, change_same}
use Rattle.bpf_origin.proofs.Writing.{ReadAlike, register_there, bytes_there, set_both, put_alike, run_count, wrote_alike, change_read}

some_insn : (found : Option Insn) → IsSome found → (i : Insn) × (found ≡ Some i)
some_insn None some = cc
some_insn (Some i) some = (i, refl)

-- Two steps of the same change, or that go somewhere and write nothing.
module _ (x z : State) (hx : IsState x) (hz : IsState z) (al : StandAlike x z) where
  acted_alike : change z ≡ change x → ReadAlike x z (change x) → WroteAlike (next x) (step_entry x) (next z) (step_entry z)
  acted_alike e read =
      subst (λ (c : Change). WroteAlike (next x) (step_entry x) (changed z c) (entry_of z c)) (sym e)
      (wrote_alike x z hx hz al (change x) (change_fits x hx) (subst (Fits z) e (change_fits z hz)) read)

  go_alike : (a b : ℕ) → WroteAlike (changed x (Go a)) (entry_of x (Go a)) (changed z (Go b)) (entry_of z (Go b))
  unfolding changed entry_of
  go_alike a b = record { places = refl; values = λ p there. cc }

  went_alike : (a b : ℕ) → change x ≡ Go a → change z ≡ Go b → WroteAlike (next x) (step_entry x) (next z) (step_entry z)
  went_alike a b e f =
      subst (λ (c : Change). WroteAlike (changed x c) (entry_of x c) (next z) (step_entry z)) (sym e)
      (subst (λ (c : Change). WroteAlike (changed x (Go a)) (entry_of x (Go a)) (changed z c) (entry_of z c)) (sym f) (go_alike a b))

  step_alike : (i : Insn) → HelperExists i → change x ≡ change_by x i → change z ≡ change_by z i → AgreeEach (reads_by x i) x z → AgreeEach (bases_by x i) x z → WroteAlike (next x) (step_entry x) (next z) (step_entry z)
  unfolding change_by
  step_alike (insn.JumpIf condition width dst s offset) exists e f each base = went_alike _ _ e f
  step_alike i exists e f each base =
      acted_alike (f ∙ sym (change_same x z hx hz al i exists each base tt) ∙ sym e) (subst (ReadAlike x z) (sym e) (change_read x z hx hz al i e each))

-- Memory with other bytes has as long a context.
put_context : (m : Image) (a n : ℕ) (new : List ℕ) → (put m a n new).context_len ≡ m.context_len
put_context m a n new = by_index (index_of m a n)
  where
    by_index : (found : Option ℕ) → (option_map_or (λ at. with_bytes m at new) found m).context_len ≡ m.context_len
    by_index None = refl
    by_index (Some at) = refl

module _ (x z : State) (hx : IsState x) (hz : IsState z) (al : StandAlike x z) where
  innermost_alike : option_map (λ (f : Frame). f.return_pc) (innermost x) ≡ option_map (λ (f : Frame). f.return_pc) (innermost z)
  innermost_alike =
      sym (slice_get-map (λ (f : Frame). f.return_pc) x.frames (depth x - 1))
      ∙ ap (λ rs. slice_get rs (depth x - 1)) al.returns
      ∙ ap (λ d. slice_get (map (λ (f : Frame). f.return_pc) z.frames) (d - 1)) (deep x z hx hz al)
      ∙ slice_get-map (λ (f : Frame). f.return_pc) z.frames (depth z - 1)

  popped_alike : map (λ (f : Frame). f.return_pc) (popped x) ≡ map (λ (f : Frame). f.return_pc) (popped z)
  popped_alike =
      sym (take-map (λ (f : Frame). f.return_pc) (depth x - 1) x.frames)
      ∙ ap (take (depth x - 1)) al.returns
      ∙ ap (λ d. take (d - 1) (map (λ (f : Frame). f.return_pc) z.frames)) (deep x z hx hz al)
      ∙ take-map (λ (f : Frame). f.return_pc) (depth z - 1) z.frames

  return_alike : (f g : Option Frame) → option_map (λ (f : Frame). f.return_pc) f ≡ option_map (λ (f : Frame). f.return_pc) g → (f ≡ None → ⊥) → (g ≡ None → ⊥) → StandAlike (option_map_or (returned x) f x) (option_map_or (returned z) g z)
  return_alike None g e some also = absurd (some refl)
  return_alike (Some f) None e some also = absurd (also refl)
  return_alike (Some f) (Some g) e some also = record {
    program = al.program;
    pc = ap (λ o. unwrap_or o 0) e;
    returns = popped_alike;
    context = al.context;
    words = al.words;
  }

  after_alike : (c : Change) → Fits x c → Fits z c → StandAlike (changed x c) (changed z c)
  unfolding changed
  after_alike (Set s v after) fits also = record { program = al.program; pc = refl; returns = al.returns; context = al.context; words = al.words }
  after_alike (Go after) fits also = record { program = al.program; pc = refl; returns = al.returns; context = al.context; words = al.words }
  after_alike (Store a at size v after) fits also = record { program = al.program; pc = refl; returns = al.returns; context = al.context; words = al.words }
  after_alike (Fetch a at size v s after) fits also = record { program = al.program; pc = refl; returns = al.returns; context = al.context; words = al.words }
  after_alike (Call to) fits also = record {
    program = al.program;
    pc = refl;
    returns =
        map-append (λ (f : Frame). f.return_pc) x.frames (frame_of x (x.pc + 1) ∷ [])
        ∙ ap (λ rs. rs ++ (x.pc + 1) ∷ []) al.returns
        ∙ ap (λ p. map (λ (f : Frame). f.return_pc) z.frames ++ (p + 1) ∷ []) al.pc
        ∙ sym (map-append (λ (f : Frame). f.return_pc) z.frames (frame_of z (z.pc + 1) ∷ []));
    context = put_context x.memory _ _ _ ∙ al.context ∙ sym (put_context z.memory _ _ _);
    words = al.words;
  }
  after_alike Return fits also = return_alike (innermost x) (innermost z) innermost_alike (innermost_there x.frames fits) (innermost_there z.frames also)
  after_alike (Cell a from n after) fits also = record {
    program = al.program;
    pc = refl;
    returns = al.returns;
    context = put_context x.memory _ _ _ ∙ al.context ∙ sym (put_context z.memory _ _ _);
    words = al.words;
  }
  after_alike (Trace word after) fits also = record {
    program = al.program;
    pc = refl;
    returns = al.returns;
    context = al.context;
    words = length-append x.trace (word ∷ []) ∙ ap (λ n. n + 1) al.words ∙ sym (length-append z.trace (word ∷ []));
  }
  after_alike (Stop status) fits also = record { program = al.program; pc = al.pc; returns = al.returns; context = al.context; words = al.words }

  returned_status : (y : State) (found : Option Frame) → (option_map_or (returned y) found y).status ≡ y.status
  returned_status y None = refl
  returned_status y (Some f) = refl

  status_alike : (c : Change) → x.status ≡ z.status → (changed x c).status ≡ (changed z c).status
  unfolding changed
  status_alike (Set s v after) e = e
  status_alike (Go after) e = e
  status_alike (Store a at size v after) e = e
  status_alike (Fetch a at size v s after) e = e
  status_alike (Call to) e = e
  status_alike Return e = returned_status x (innermost x) ∙ e ∙ sym (returned_status z (innermost z))
  status_alike (Cell a from n after) e = e
  status_alike (Trace word after) e = e
  status_alike (Stop status) e = refl

  next_alike : x.status ≡ z.status → change z ≡ change x → StandAlike (next x) (next z) × ((next x).status ≡ (next z).status)
  next_alike status e = (
    subst (λ (c : Change). StandAlike (next x) (changed z c)) (sym e) (after_alike (change x) (change_fits x hx) (subst (Fits z) e (change_fits z hz))),
    status_alike (change x) status ∙ ap (λ (c : Change). (changed z c).status) (sym e),
  )

-- Edits.
module _ (x z : State) (hx : IsState x) (hz : IsState z) (al : StandAlike x z) where
  run_put_alike : (a : ℕ) (bytes : List ℕ) → IsSome (index_of x.memory a (length bytes)) → IsSome (index_of z.memory a (length bytes)) → (part.Bytes a (length (replaced_run x a bytes)) ∷ [] ≡ part.Bytes a (length (replaced_run z a bytes)) ∷ [])
  run_put_alike a bytes some also =
      ap (λ n. part.Bytes a n ∷ []) (run_count x.memory a (length bytes) bytes hx.image some ∙ sym (run_count z.memory a (length bytes) bytes hz.image also))

  register_values : (s v : ℕ) → s < 10 → (p : Place) → writes (edited x (edit.Register s v)) (edit_entry x (edit.Register s v)) p ≡ true → value (edited x (edit.Register s v)) p ≡ value (edited z (edit.Register s v)) p
  unfolding edited edit_entry
  register_values s v low (Register e r) there = set_both x z hx hz al s v v e r low refl (register_there (depth x) (length x.trace) (Some (s, register x s)) None false e r there)
  register_values s v low (Byte a) there = cc
  register_values s v low (Word i) there = cc

  bytes_values : (a : ℕ) (bytes : List ℕ) → IsSome (index_of x.memory a (length bytes)) → (p : Place) → writes (edited x (edit.Bytes a bytes)) (edit_entry x (edit.Bytes a bytes)) p ≡ true → value (edited x (edit.Bytes a bytes)) p ≡ value (edited z (edit.Bytes a bytes)) p
  unfolding edited edit_entry
  bytes_values a bytes some (Register e r) there = cc
  bytes_values a bytes some (Byte b) there =
      ap (λ o. unwrap_or o 0) (put_alike x z hx hz al a (length bytes) bytes bytes (replaced_run x a bytes) b refl refl (run_count x.memory a (length bytes) bytes hx.image some) some (bytes_there (depth x) (length x.trace) None (stood a (replaced_run x a bytes)) false b there))
  bytes_values a bytes some (Word i) there = cc

  edit_alike : (e : Edit) → IsEditable x e → IsEditable z e → WroteAlike (edited x e) (edit_entry x e) (edited z e) (edit_entry z e)
  unfolding edited edit_entry
  edit_alike (edit.Register s v) able also = record {
    places = ap (λ d. part.Register (depth_for d s) s ∷ []) (deep x z hx hz al);
    values = register_values s v (able_register x s v able);
  }
  edit_alike (edit.Bytes a bytes) able also = record {
    places = run_put_alike a bytes (able_bytes x a bytes able) (able_bytes z a bytes also);
    values = bytes_values a bytes (able_bytes x a bytes able);
  }
  edit_alike (edit.Cell table index bytes) able also =
      let here : IsSome (index_of x.memory (cell_address table index (length bytes)) (length bytes)) = cell_present x table index (length bytes) hx (able_cell x table index bytes able) in
      record {
        places = run_put_alike (cell_address table index (length bytes)) bytes here (cell_present z table index (length bytes) hz (able_cell z table index bytes also));
        values = bytes_values (cell_address table index (length bytes)) bytes here;
      }
  edit_alike (edit.Pc slot) able also = record { places = refl; values = λ p there. cc }

-- The laws.
module _ (x z : State) (hx : IsState x) (hz : IsState z) (al : StandAlike x z) (i : Insn) (here : insn_at x.program x.pc ≡ Some i) where
  there : insn_at z.program z.pc ≡ Some i
  there = sym (ap (λ p. insn_at p x.pc) al.program ∙ ap (insn_at z.program) al.pc) ∙ here

  table_here : (table : State → Insn → List Part) → option_map_or (table x) (insn_at x.program x.pc) [] ≡ table x i
  table_here table = ap (λ o. option_map_or (table x) o []) here

  step_writes : AgreeEach (reads x move.Step ++ bases x move.Step) x z → WroteAlike (next x) (step_entry x) (next z) (step_entry z)
  step_writes each =
      let two = split_each (reads x move.Step) (bases x move.Step) x z each in
      step_alike x z hx hz al i (hx.checked.helpers x.pc i here) (change_at x i here) (change_at z i there)
      (subst (λ (ps : List Part). AgreeEach ps x z) (table_here reads_by) two.0)
      (subst (λ (ps : List Part). AgreeEach ps x z) (table_here bases_by) two.1)

  step_goes : AgreeEach (reads x move.Step ++ (bases x move.Step ++ conditions x move.Step)) x z → change z ≡ change x
  step_goes each =
      let two = split_each (reads x move.Step) (bases x move.Step ++ conditions x move.Step) x z each in
      let more = split_each (bases x move.Step) (conditions x move.Step) x z two.1 in
      change_at z i there
      ∙ sym (change_same x z hx hz al i (hx.checked.helpers x.pc i here)
      (subst (λ (ps : List Part). AgreeEach ps x z) (table_here reads_by) two.0)
      (subst (λ (ps : List Part). AgreeEach ps x z) (table_here bases_by) more.0)
      (subst (λ (ps : List Part). AgreeEach ps x z) (table_here conditions_by) more.1))
      ∙ sym (change_at x i here)

pub law_writes : MovesWriteWhatTheyRead
law_writes x z m y w left right al agree =
    subst (λ (t : State). WroteAlike t (overwritten x m) w (overwritten z m)) (sym left.after)
    (subst (λ (t : State). WroteAlike (moved x m) (overwritten x m) t (overwritten z m)) (sym right.after) (by_move m left right agree))
  where
    by_move : (m : Move) → Leads x m y → Leads z m w → AgreeOn (reads x m ++ bases x m) x z → WroteAlike (moved x m) (overwritten x m) (moved z m) (overwritten z m)
    by_move move.Step left right agree =
        let found = some_insn (insn_at x.program x.pc) left.before.start in
        step_writes x z left.before right.before al found.0 found.1 (agree_each _ x z agree)
    by_move (move.Edit e) left right agree = edit_alike x z left.before right.before al e left.movable right.movable

pub law_goes : StepsGoByConditions
law_goes x z y w left right al agree =
    let found = some_insn (insn_at x.program x.pc) left.before.start in
    let same = step_goes x z left.before right.before al found.0 found.1 (agree_each _ x z agree) in
    let status : x.status ≡ z.status = runs x.status left.movable ∙ sym (runs z.status right.movable) in
    let both = next_alike x z left.before right.before al status same in (
      subst (λ (t : State). StandAlike t w) (sym left.after) (subst (λ (t : State). StandAlike (next x) t) (sym right.after) both.0),
      ap (λ (t : State). t.status) left.after ∙ both.1 ∙ sym (ap (λ (t : State). t.status) right.after),
    )
