-- The laws of how large the parts of entries are.
use Rattle.std.proofs.Common.{◌≡◌, ◌≤◌, ◌<◌, ◌+◌, ◌-◌, ℕ, List, [], length, drop, Option, Some, None, refl, sym, ap, subst, inl, inr, arith}
use Rattle.std.specs.Prelude.{All, IsSome, slice_get, option_map, unwrap_or}
use Rattle.std.proofs.lemmas.Bool.{cases_lt}
use Rattle.std.proofs.lemmas.Option.{slice_get_past}
use Rattle.std.proofs.lemmas.List.Elements.{All-take, All-drop}
use Rattle.bpf_isa.specs.Sizes.{size_len}
use Rattle.bpf_isa.specs.declared.instruction.Insn.{Insn}
use Rattle.bpf_isa.specs.declared.instruction.Size.{Size}
use Rattle.bpf_isa.specs.declared.instruction.Size.TheVariants.{Word, Half, Byte, Double}
use Rattle.bpf_steps.specs.declared.change.Change.{Change}
use Rattle.bpf_steps.specs.declared.change.Change.TheVariants.{Set, Go, Store, Fetch, Call, Return, Cell, Trace, Stop}
use Rattle.bpf_machine.specs.declared.edit.Edit.{Edit}
use Rattle.bpf_machine.specs.declared.edit.Edit.TheVariants as edit
use Rattle.bpf_machine.specs.declared.moves.Move.{Move}
use Rattle.bpf_machine.specs.declared.moves.Move.TheVariants as move
use Rattle.bpf_entries.specs.declared.entry.Entry.{Entry}
use Rattle.bpf_steps.specs.Calls.{entered}
use Rattle.bpf_steps.specs.Platform.{cell_address, frame_base, frame_len}
use Rattle.bpf_steps.specs.Regions.{index_of, run, run_at}
use Rattle.bpf_steps.specs.State.{State, IsState, depth}
use Rattle.bpf_steps.specs.Fetched.{Fits}
use Rattle.bpf_steps.specs.Next.{change}
use Rattle.bpf_steps.specs.Entries.{entry_of}
use Rattle.bpf_machine.specs.Edits.{IsEditable, edit_entry}
use Rattle.bpf_machine.specs.Moves.{HasCome, IsMovable, overwritten}
use Rattle.bpf_machine.specs.Undoing.{IsTyped}
use Rattle.bpf_entries.specs.Fields.{FitsSlot, FitsBytes, FitsFrame, FitsFields}
use Rattle.bpf_machine.specs.Fields.{FitsEdit, FitsMove, EntriesFit}
use Rattle.bpf_entries.specs.Status.{FitsNumber, FitsStatus}
use Rattle.bpf_machine.proofs.Editable.{able_bytes, able_cell, able_register}
use Rattle.bpf_steps.proofs.ByAddress.{fits_within, length-run}
use Rattle.bpf_machine.proofs.Cells.{cell_present, cell_address_fits}
use Rattle.bpf_machine.proofs.Fitting.{number_fits, four_fit, change_fits}

-- A slot at which an instruction starts.
start_low : (insns : List (Option Insn)) (p : ℕ) → IsSome (unwrap_or (slice_get insns p) None) → p < length insns
start_low insns p some = elim (cases_lt p (length insns)) [
  | inl low ↦ low
  | inr past ↦
      let none : unwrap_or (slice_get insns p) None ≡ None = ap (λ o. unwrap_or o None) (slice_get_past insns p past) in
      cc
]

pub slot_fits : (x : State) → IsState x → FitsSlot x.pc
slot_fits x is =
    let short = is.checked.short in
    omega (arith, start_low x.program.insns x.pc is.start, short)

-- The bytes of a run.
run_fits : (x : State) (most a n at : ℕ) → IsState x → index_of x.memory a n ≡ Some at → 1 ≤ n → n ≤ most → FitsBytes most (run x.memory at n)
run_fits x most a n at is found some few =
    let count : length (run x.memory at n) ≡ n = length-run x.memory.bytes at n (fits_within x.memory is.image a n at found) in (
      omega (arith, count),
      omega (arith, count),
      All-take (λ byte. byte < 256) (at + n - at) (drop at x.memory.bytes) (All-drop (λ byte. byte < 256) at x.memory.bytes is.bytes),
    )

size_fits : (size : Size) → (1 ≤ size_len size) × (size_len size ≤ 255)
size_fits Word = (omega arith, omega arith)
size_fits Half = (omega arith, omega arith)
size_fits Byte = (omega arith, omega arith)
size_fits Double = (omega arith, omega arith)

bytes_fit : (x : State) (a n : ℕ) (other : List ℕ) (found : Option ℕ) → IsState x → index_of x.memory a n ≡ found → IsSome found → 1 ≤ n → n ≤ 256 → FitsBytes 256 (unwrap_or (run_at x.memory a n) other)
bytes_fit x a n other None is e some low high = cc
bytes_fit x a n other (Some at) is e some low high =
    let was : unwrap_or (run_at x.memory a n) other ≡ run x.memory at n = ap (λ o. unwrap_or (option_map (λ at. run x.memory at n) o) other) e in
    subst (FitsBytes 256) (sym was) (run_fits x 256 a n at is e low high)

-- The bytes of the frame that a call enters.
frame_fits : (x : State) (found : Option ℕ) → IsState x → index_of x.memory (frame_base (depth x + 1)) frame_len ≡ found → IsSome found → FitsFrame (entered x)
frame_fits x None is e some = cc
frame_fits x (Some at) is e some =
    let was : entered x ≡ run x.memory at frame_len = ap (λ o. unwrap_or (option_map (λ at. run x.memory at frame_len) o) []) e in
    let fits = run_fits x frame_len (frame_base (depth x + 1)) frame_len at is e (omega arith) (omega arith) in
    subst FitsFrame (sym was) (omega (arith, length-run x.memory.bytes at frame_len (fits_within x.memory is.image (frame_base (depth x + 1)) frame_len at e)), fits.2)

-- The entry of a step.
step_fits : (x : State) (c : Change) → IsState x → Fits x c → FitsFields (entry_of x c)
unfolding entry_of
step_fits x (Set r value after) is fits = (slot_fits x is, omega (arith, fits.0), number_fits x r is)
step_fits x (Go after) is fits = slot_fits x is
step_fits x (Store a at size value after) is fits =
    let few = size_fits size in
    (slot_fits x is, fits.0.number, run_fits x 255 a (size_len size) at is fits.0.found few.0 few.1)
step_fits x (Fetch a at size value r after) is fits =
    let few = size_fits size in
    (slot_fits x is, omega (arith, fits.0), number_fits x r is, fits.1.number, run_fits x 255 a (size_len size) at is fits.1.found few.0 few.1)
step_fits x (Call to) is fits = (slot_fits x is, frame_fits x (index_of x.memory (frame_base (depth x + 1)) frame_len) is refl fits.3)
step_fits x Return is fits =
    (slot_fits x is, refl, four_fit FitsNumber _ _ _ _ (number_fits x 6 is) (number_fits x 7 is) (number_fits x 8 is) (number_fits x 9 is))
step_fits x (Cell a from n after) is fits =
    (slot_fits x is, number_fits x 0 is, fits.3.number, bytes_fit x a n [] (index_of x.memory a n) is refl fits.3.found fits.0 fits.1)
step_fits x (Trace word after) is fits = (slot_fits x is, number_fits x 0 is)
step_fits x (Stop status) is fits = tt

-- The entry of an edit.
edit_fits : (x : State) (e : Edit) → IsState x → IsEditable x e → FitsStatus x.status → FitsEdit e → FitsFields (edit_entry x e)
unfolding edit_entry
edit_fits x (edit.Register r value) is able status fits = (fits.0, number_fits x r is)
edit_fits x (edit.Bytes a bytes) is able status fits =
    (fits.0, bytes_fit x a (length bytes) bytes (index_of x.memory a (length bytes)) is refl (able_bytes x a bytes able) (fits.1.0) (fits.1.1))
edit_fits x (edit.Cell map index bytes) is able status fits =
    let n = length bytes in
    let cell = able_cell x map index bytes able in
    let a = cell_address map index n in (
      cell_address_fits x map index n is cell,
      bytes_fit x a n bytes (index_of x.memory a n) is refl (cell_present x map index n is cell) (fits.2.0) (fits.2.1),
    )
edit_fits x (edit.Pc slot) is able status fits = (slot_fits x is, status)

move_fits : (x : State) (m : Move) → IsState x → IsMovable x m → FitsStatus x.status → FitsMove m → FitsFields (overwritten x m)
move_fits x move.Step is able status fits =
    step_fits x (change x) is (change_fits x is)
move_fits x (move.Edit e) is able status fits = edit_fits x e is able status fits

pub law_entries : EntriesFit
law_entries x y m leads fits = move_fits x m leads.before leads.movable leads.before.ends fits

-- The entry of an edit that was made, whose old bytes are as many as their type says.
are_bytes : (x : State) (a n : ℕ) (other : List ℕ) (found : Option ℕ) → IsState x → index_of x.memory a n ≡ found → IsSome found → All (λ byte. byte < 256) (unwrap_or (run_at x.memory a n) other)
are_bytes x a n other None is e some = cc
are_bytes x a n other (Some at) is e some =
    let was : unwrap_or (run_at x.memory a n) other ≡ run x.memory at n = ap (λ o. unwrap_or (option_map (λ at. run x.memory at n) o) other) e in
    subst (All (λ byte. byte < 256)) (sym was) (All-take (λ byte. byte < 256) (at + n - at) (drop at x.memory.bytes) (All-drop (λ byte. byte < 256) at x.memory.bytes is.bytes))

made_fits : (x : State) (e : Edit) → IsState x → IsEditable x e → IsTyped (edit_entry x e) → FitsFields (edit_entry x e)
unfolding edit_entry
made_fits x (edit.Register r value) is able typed = (omega (arith, able_register x r value able), number_fits x r is)
made_fits x (edit.Bytes a bytes) is able typed =
    (typed.0, (typed.1, typed.2, are_bytes x a (length bytes) bytes (index_of x.memory a (length bytes)) is refl (able_bytes x a bytes able)))
made_fits x (edit.Cell map index bytes) is able typed =
    let n = length bytes in
    let a = cell_address map index n in
    (typed.0, (typed.1, typed.2, are_bytes x a n bytes (index_of x.memory a n) is refl (cell_present x map index n is (able_cell x map index bytes able))))
made_fits x (edit.Pc slot) is able typed = (slot_fits x is, is.ends)

come_by : (x : State) (m : Move) → IsState x → IsMovable x m → IsTyped (overwritten x m) → FitsFields (overwritten x m)
come_by x move.Step is able typed = step_fits x (change x) is (change_fits x is)
come_by x (move.Edit e) is able typed = made_fits x e is able typed

pub come_fits : (y : State) (e : Entry) → HasCome y e → IsTyped e → FitsFields e
come_fits y e h typed = subst FitsFields h.held (come_by h.x h.m h.leads.before h.leads.movable (subst IsTyped (sym h.held) typed))
