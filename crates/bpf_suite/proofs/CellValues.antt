-- Cells get their values one after another, up to the first that isn't there.
use Rattle.std.proofs.Common.{ℕ, ◌≡◌, ◌≤◌, ◌<◌, ◌+◌, List, [], ◌∷◌, ◌++◌, drop, length, get_or, Option, Some, None, refl, sym, ap, subst, ◌∙◌}
use Rattle.std.specs.Prelude.{IfSome, IsSome}
use Rattle.std.specs.List.{filter_map}
use Rattle.std.proofs.lemmas.List.{drop_more}
use Rattle.std.proofs.lemmas.List.Elements.{filter_map-append}
use Rattle.bpf_isa.specs.Programs.{Checked}
use Rattle.bpf_isa.specs.declared.maps.MapShape.{MapShape}
use Rattle.bpf_machine.specs.Edits.{edited}
use Rattle.bpf_steps.specs.Platform.{context_limit}
use Rattle.bpf_steps.specs.State.{State, initial}
use Rattle.bpf_machine.specs.declared.edit.Edit.TheVariants as edit
use Rattle.bpf_steps.specs.declared.fault.OpenFault.TheVariants as unopened
use Rattle.bpf_session.specs.Plain.{plain_end}
use Rattle.bpf_suite.specs.Cells.{cell_of}
use Rattle.bpf_suite.specs.Asks.{IsMissing}
use Rattle.bpf_suite.specs.Images.{IsImageFor, Lead, with_runs}
use Rattle.bpf_suite.specs.Outcomes.{Ends, IsProgramOf, Refuses, RefusesCells, edit_of, is_there, missing, with_cells}
use Rattle.bpf_suite.specs.Regs.{with_regs}
use Rattle.bpf_suite.specs.declared.cells.Cell.{Cell}
use Rattle.bpf_suite.specs.declared.cells.CellLine.{CellLine}
use Rattle.bpf_suite.specs.declared.image.Image.{Image}
use Rattle.bpf_suite.specs.declared.image.Run.{Run}
use Rattle.bpf_suite.specs.declared.refusal.Refusal.{Refusal}
use Rattle.bpf_suite.specs.declared.refusal.Refusal.TheVariants.{Maps, Listing, Load, Open, NoCell}
use Rattle.bpf_suite.specs.declared.setting.Setting.{Setting}
use Rattle.bpf_suite.proofs.Lists.{find-append, or_else}

-- the program stays
pub edited-cell : (x : State) (map index : ℕ) (bytes : List ℕ) → (edited x (edit.Cell map index bytes)).program ≡ x.program
unfolding edited
edited-cell x map index bytes = refl

pub runs-program : (runs : List Run) (x : State) → (with_runs runs x).program ≡ x.program
unfolding edited
runs-program [] x = refl
runs-program (run ∷ runs) x = runs-program runs (edited x (edit.Bytes run.address run.bytes))

-- the cells of lines from a place on
pub cells-next : (lines : List CellLine) (i : ℕ) (line : CellLine) → i < length lines → line ≡ get_or lines i line
    → filter_map cell_of (drop i lines) ≡ filter_map cell_of (line ∷ []) ++ filter_map cell_of (drop (i + 1) lines)
cells-next lines i line low is =
    ap (filter_map cell_of) (drop_more lines i line low ∙ ap (λ l. l ∷ drop (i + 1) lines) (sym is))
    ∙ filter_map-append cell_of (line ∷ []) (drop (i + 1) lines)

with_cells-append : (cells more : List Cell) (x : State) → with_cells (cells ++ more) x ≡ with_cells more (with_cells cells x)
with_cells-append [] more x = refl
with_cells-append (cell ∷ cells) more x = with_cells-append cells more (edited x (edit_of cell))

pub with_cells-next : (all cells more : List Cell) (x y : State) → all ≡ cells ++ more → y ≡ with_cells cells x → with_cells more y ≡ with_cells all x
with_cells-next all cells more x y e is = ap (with_cells more) is ∙ sym (with_cells-append cells more x) ∙ ap (λ cs. with_cells cs x) (sym e)

-- what is missing of cells, and of those behind them
pub missing-next : (maps : List MapShape) (all cells more : List Cell) → all ≡ cells ++ more → missing maps cells ≡ None → missing maps more ≡ missing maps all
missing-next maps all cells more e none =
    sym (ap (missing maps) e ∙ find-append (λ cell. Rattle.std.specs.Prelude.not (is_there maps cell)) cells more ∙ ap (λ found. or_else found (missing maps more)) none)

pub missing-here : (maps : List MapShape) (all cells more : List Cell) (cell : Cell) → all ≡ cells ++ more → missing maps cells ≡ Some cell → missing maps all ≡ Some cell
missing-here maps all cells more cell e found =
    ap (missing maps) e ∙ find-append (λ c. Rattle.std.specs.Prelude.not (is_there maps c)) cells more ∙ ap (λ f. or_else f (missing maps more)) found

-- why cells don't get their values is why others don't, of which the same one is missing
pub refuses-cells : (maps : List MapShape) (cells others : List Cell) (refusal : Refusal)
    → ((cell : Cell) → missing maps cells ≡ Some cell → missing maps others ≡ Some cell) → RefusesCells maps cells refusal → RefusesCells maps others refusal
refuses-cells maps cells others (Maps fault) same r = r
refuses-cells maps cells others (Listing fault) same r = r
refuses-cells maps cells others (Load fault) same r = r
refuses-cells maps cells others (Open unopened.ContextTooLong) same r = r
refuses-cells maps cells others (Open unopened.OutOfMemory) same r = r
refuses-cells maps cells others (NoCell map index) same r = (r.0, same r.0 r.1, r.2, r.3)

-- a program is refused for its cells, behind its opening
pub refuses-opened : (t : Setting) (code : Checked) (refusal : Refusal) → IsProgramOf t code → length t.context ≤ context_limit → RefusesCells code.maps t.cells refusal
    → Refuses t refusal
refuses-opened t code (Maps fault) is short r = absurd r
refuses-opened t code (Listing fault) is short r = absurd r
refuses-opened t code (Load fault) is short r = absurd r
refuses-opened t code (Open unopened.ContextTooLong) is short r = absurd r
refuses-opened t code (Open unopened.OutOfMemory) is short r = (code, is, short)
refuses-opened t code (NoCell map index) is short r = (code, record { program = is; short = short }, r.0, r.1, r.2, r.3)

-- or it ends
pub ends-opened : (t : Setting) (code : Checked) (x y z : State) → IsProgramOf t code → length t.context ≤ context_limit → x ≡ initial code t.context
    → missing code.maps t.cells ≡ None → y ≡ with_cells t.cells x → z ≡ plain_end t.limit (with_regs t.regs y) → Ends t z
ends-opened t code x y z is short opened none given ran =
    (code, record { program = is; short = short }, none, ran ∙ ap (λ s. plain_end t.limit (with_regs t.regs s)) (given ∙ ap (with_cells t.cells) opened))

-- the same by an image
module _ (t : Setting) (code : Checked) (image : Image) (is : IsImageFor t code image) (short : length t.context ≤ context_limit) where
  pub ends-by-image : (x y z : State) (runs : List Run) → image.runs ≡ Some runs → missing code.maps t.cells ≡ None → x ≡ initial code t.context → y ≡ with_runs runs x
      → z ≡ plain_end t.limit (with_regs t.regs y) → Ends t z
  ends-by-image x y z runs here none opened given ran =
      let leads : Lead t.cells runs = subst (λ (rs : Option (List Run)). IfSome rs (Lead t.cells)) here is.made.runs in
      ends-opened t code x y z is.program short opened none
      (given ∙ ap (with_runs runs) opened ∙ leads code t.context is.program.accepted.tables none short ∙ ap (with_cells t.cells) (sym opened)) ran

  pub refuses-by-image : (refusal : Refusal) → IsMissing code.maps t.cells (Some refusal) → Refuses t refusal
  refuses-by-image refusal m = subst (Refuses t) (sym m.2) (code, record { program = is.program; short = short }, m.0, m.1, refl, refl)

  pub never-unknown : image.runs ≡ None → missing code.maps t.cells ≡ None → ⊥
  never-unknown unknown none = let no = subst IsSome unknown (is.known none) in cc
