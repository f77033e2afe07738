-- The line of a step, as it is put together.
use Rattle.std.proofs.Common.{◌≡◌, ◌+◌, ◌<◌, ℕ, List, [], ◌∷◌, ◌++◌, Option, Some, None, codes, decimal, length, refl, sym, ap, ◌∙◌, append_assoc, arith}
use Rattle.std.specs.Prelude.{IsSome, option_map, slice_index_or, unwrap_or}
use Rattle.std.proofs.lemmas.List.FromFn.{get_or-map-range_with_len, length-map-range_with_len}
use Rattle.bpf_entries.specs.Frames.{frame_base, frame_len}
use Rattle.bpf_isa.specs.Programs.{Checked, IsStart, insn_at}
use Rattle.bpf_isa.specs.declared.instruction.Insn.{Insn}
use Rattle.bpf_isa.specs.Sizes.{size_len}
use Rattle.bpf_steps.specs.Entries.{entry_of, step_entry}
use Rattle.bpf_steps.specs.Fetched.{Fits}
use Rattle.bpf_steps.specs.Next.{change, next}
use Rattle.bpf_steps.specs.Regions.{Image, IsImage, index_of, run, run_at}
use Rattle.bpf_steps.specs.State.{IsState, State, depth}
use Rattle.bpf_steps.specs.declared.change.Change.{Change}
use Rattle.bpf_steps.specs.declared.change.Change.TheVariants.{Set, Go, Store, Fetch, Call, Return, Cell, Trace, Stop}
use Rattle.bpf_steps.proofs.ByAddress.{fits_within, length-run}
use Rattle.bpf_steps.proofs.Resolved.{start-within}
use Rattle.bpf_machine.proofs.Fitting.{change_fits}
use Rattle.bpf_origin.specs.Writes.{written}
use Rattle.bpf_origin.specs.declared.place.Part.TheVariants as part
use Rattle.bpfdb_script.specs.Texts.{text_at}
use Rattle.bpf_trace.specs.Taken.{Took, parts_by, register_by}
use Rattle.bpf_cover.specs.Texts.{slot_text, texts_of}
use Rattle.bpf_trace.specs.Forms.{parts_in}
use Rattle.bpf_trace.specs.Traces.{step_line}
use Rattle.bpf_trace.specs.declared.form.Form.TheVariants.{Text}
use Rattle.bpf_trace.specs.declared.taken.Taken.{Taken}
use Rattle.bpf_cover.proofs.Making.{text_there}
use Rattle.bpf_trace.proofs.Stepping.{next-program}

-- how many bytes a run that is present has
found_long : (m : Image) → IsImage m → (a n : ℕ) (found : Option ℕ) → index_of m a n ≡ found → IsSome found → length (unwrap_or (run_at m a n) []) ≡ n
found_long m image a n None e some = cc
found_long m image a n (Some at) e some =
    ap (λ o. length (unwrap_or (option_map (λ k. run m k n) o) [])) e ∙ length-run m.bytes at n (fits_within m image a n at e)

-- what the step with a change wrote
written_by : (x y : State) (c : Change) → IsState x → Fits x c → written y (entry_of x c) ≡ parts_by y c
unfolding entry_of
written_by x y (Set r value after) is fits = refl
written_by x y (Go after) is fits = refl
written_by x y (Store a at size value after) is fits =
    ap (λ (n : ℕ). part.Bytes a n ∷ []) (length-run x.memory.bytes at (size_len size) fits.0.fits)
written_by x y (Fetch a at size value r after) is fits =
    ap (λ (n : ℕ). register_by y r ∷ part.Bytes a n ∷ []) (length-run x.memory.bytes at (size_len size) fits.1.fits)
written_by x y (Call to) is fits =
    ap (λ (n : ℕ). part.Bytes (frame_base (depth y)) n ∷ []) (found_long x.memory is.image (frame_base (depth x + 1)) frame_len _ refl fits.3)
written_by x y Return is fits = refl
written_by x y (Cell a from n after) is fits =
    ap (λ (k : ℕ). register_by y 0 ∷ part.Bytes a k ∷ []) (found_long x.memory is.image a n _ refl fits.3.found)
written_by x y (Trace word after) is fits = refl
written_by x y (Stop status) is fits = refl

pub step_wrote : (x y : State) → IsState x → written y (step_entry x) ≡ parts_by y (change x)
step_wrote x y is = written_by x y (change x) is (change_fits x is)

-- the text of the instruction at a slot
pub slot_within : (p : Checked) (texts : List (List ℕ)) (slot : ℕ) → texts ≡ texts_of p → IsStart p slot → slot < length texts
slot_within p texts slot e start =
    let within = start-within p slot start in
    let all = ap length e ∙ length-map-range_with_len (slot_text p) 0 (length p.insns) in
    omega (arith, within, all)

text_found : (p : Checked) (slot : ℕ) (found : Option Insn) → insn_at p slot ≡ found → IsSome found → slot_text p slot ≡ text_at p slot
text_found p slot None e some = cc
text_found p slot (Some i) e some = sym (text_there p slot i (sym e))

pub text_is : (p : Checked) (texts : List (List ℕ)) (slot : ℕ) → texts ≡ texts_of p → IsStart p slot → slice_index_or texts slot [] ≡ text_at p slot
text_is p texts slot e start = ap (λ (ts : List (List ℕ)). slice_index_or ts slot []) e
    ∙ get_or-map-range_with_len (slot_text p) 0 (length p.insns) slot slot [] (start-within p slot start) (omega arith)
    ∙ text_found p slot (insn_at p slot) refl start

joined : (n text rest more place : List ℕ) → rest ≡ more
    → (n ++ (codes " " ++ text)) ++ ((rest ++ place) ++ codes "\n") ≡ n ++ codes " " ++ text ++ more ++ place ++ codes "\n"
joined n text rest more place e = simp append_assoc (ap (λ (r : List ℕ). n ++ (codes " " ++ (text ++ (r ++ (place ++ codes "\n"))))) e)

moved : (told line rest place : List ℕ) → told ++ ((line ++ rest) ++ place ++ codes "\n") ≡ (told ++ line) ++ ((rest ++ place) ++ codes "\n")
moved told line rest place = simp append_assoc refl

-- the whole line, of which some is told
pub whole_line : (k : ℕ) (x y : State) (told line text more place all : List ℕ) → IsState x → y ≡ next x → text ≡ text_at x.program x.pc
    → told ++ line ≡ decimal k ++ codes " " ++ text → more ≡ line ++ parts_in Text y (parts_by y (change x)) → all ≡ more ++ place ++ codes "\n"
    → told ++ all ≡ step_line place k x
unfolding step_line
whole_line k x y told line text more place all is e named parts wrote ends =
    let lead : told ++ line ≡ decimal k ++ (codes " " ++ text_at x.program x.pc) =
    parts ∙ ap (λ (t : List ℕ). decimal k ++ codes " " ++ t) named ∙ append_assoc (decimal k) (codes " ") (text_at x.program x.pc) in
    let rest = parts_in Text y (parts_by y (change x)) in
    let same : parts_in Text y (parts_by y (change x)) ≡ parts_in Text (next x) (written (next x) (step_entry x)) =
    ap (parts_in Text y) (sym (step_wrote x y is)) ∙ ap (λ (z : State). parts_in Text z (written z (step_entry x))) e in
    ap (λ (t : List ℕ). told ++ t) (ends ∙ ap (λ (t : List ℕ). t ++ place ++ codes "\n") wrote)
    ∙ moved told line rest place
    ∙ ap (λ (t : List ℕ). t ++ ((rest ++ place) ++ codes "\n")) lead
    ∙ joined (decimal k) (text_at x.program x.pc) _ _ place same

-- the line of a step that was taken
pub taken_line : (k : ℕ) (x y : State) (taken : Taken) (place : List ℕ) → Took x y taken
    → ((((decimal k ++ codes " ") ++ text_at y.program taken.slot) ++ parts_in Text y (parts_by y taken.change)) ++ place) ++ codes "\n"
    ≡ step_line place k x
taken_line k x y taken place t =
    let text = text_at y.program taken.slot in
    let line = decimal k ++ codes " " ++ text in
    let wrote = parts_in Text y (parts_by y taken.change) in
    let named : text ≡ text_at x.program x.pc =
    ap (λ (p : Checked). text_at p taken.slot) (ap (λ (z : State). z.program) t.next ∙ next-program x) ∙ ap (text_at x.program) t.slot in
    let parts : line ++ wrote ≡ line ++ parts_in Text y (parts_by y (change x)) =
    ap (λ (c : Change). line ++ parts_in Text y (parts_by y c)) t.change in
    whole_line k x y [] line text (line ++ wrote) place (((line ++ wrote) ++ place) ++ codes "\n") t.is t.next named refl parts refl
