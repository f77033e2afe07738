-- What moves, refusals and going back make of the histories that a keeper stands for.
use Rattle.std.specs.Prelude.{◌+◌, fold, cond, count_by, sum_by}
use Rattle.std.proofs.Common.{◌≡◌, ℕ, List, [], ◌∷◌, Bool, true, false, Option, Some, None, map, refl, sym, ap, subst, ◌∙◌}
use Rattle.bpf_machine.specs.declared.edit.Edit.{Edit}
use Rattle.bpf_machine.specs.declared.edit.Edit.TheVariants as edit
use Rattle.bpf_entries.specs.declared.entry.Entry.{Entry}
use Rattle.bpf_machine.specs.declared.moves.Move.{Move}
use Rattle.bpf_machine.specs.Edits.{edit_entry}
use Rattle.bpf_machine.specs.Moves.{Leads, HasCome, overwritten}
use Rattle.bpf_steps.specs.State.{State}
use Rattle.bpf_steps.specs.declared.change.Change.{Change}
use Rattle.bpf_steps.specs.declared.change.Change.TheVariants.{Set, Go, Store, Fetch, Call, Return, Cell, Trace, Stop}
use Rattle.bpf_machine.specs.declared.moves.Move.TheVariants as move
use Rattle.bpf_steps.specs.Entries.{entry_of}
use Rattle.bpf_steps.specs.Next.{change}
use Rattle.bpf_journal.specs.EditEntries.{is_of_step}
use Rattle.bpf_entries.specs.Keeping.{Kept, kept_weight, keep}
use Rattle.bpf_journal.specs.Histories.{Record, IsRun, kept_of, record_weight, newest, older, is_step, StandsFor, HasHistory}
use Rattle.bpf_journal.specs.Replaced.{replaces_bytes}
use Rattle.bpf_journal.specs.Timelines.{Makes, Stays, record_of}
use Rattle.bpf_journal.specs.TakingBack.{TakesBack, taken_by, taken_of}
use Rattle.bpf_journal.specs.declared.taken.Taken.{Taken}
use Rattle.bpf_journal.proofs.Fitting.{map-fit, run-fit}

-- the entry of a step is a step's, and that of an edit is none
of_change : (x : State) (c : Change) → is_of_step (entry_of x c) ≡ true
unfolding entry_of
of_change x (Set r value next) = refl
of_change x (Go next) = refl
of_change x (Store a at size value next) = refl
of_change x (Fetch a at size value r next) = refl
of_change x (Call to) = refl
of_change x Return = refl
of_change x (Cell a from n next) = refl
of_change x (Trace word next) = refl
of_change x (Stop status) = refl

not_of_edit : (x : State) (e : Edit) → is_of_step (edit_entry x e) ≡ false
unfolding edit_entry
not_of_edit x (edit.Register r value) = refl
not_of_edit x (edit.Bytes a bytes) = refl
not_of_edit x (edit.Cell map index bytes) = refl
not_of_edit x (edit.Pc slot) = refl

pub is_of_edit : (x : State) (e : Edit) (entry : Entry) → entry ≡ edit_entry x e → is_of_step entry ≡ false
is_of_edit x e entry is = ap is_of_step is ∙ not_of_edit x e

pub of_move : (x : State) (m : Move) → is_of_step (overwritten x m) ≡ is_step m
of_move x move.Step = of_change x (change x)
of_move x (move.Edit e) = not_of_edit x e

abbrev the_taken : Bool → Bool → Bool → Taken
the_taken stepped mark replaced = record { is_step = stepped; mark = mark; replaced_bytes = replaced }

-- a record is told by what is kept of it
pub told : (r : Record) → taken_by (kept_of r) ≡ taken_of r
told r = ap (λ (b : Bool). the_taken b r.mark (replaces_bytes (overwritten r.before r.move))) (of_move r.before r.move)

-- the newest entry is that of the move that led here
pub newest_came : (h : List Record) (y : State) (k : Kept) → newest (map kept_of h) ≡ Some k → IsRun h y → HasCome y k.0
newest_came [] y k q run = absurd cc
newest_came (r ∷ h) y k q run =
    let is : kept_of r ≡ k = cc in
    record { x = r.before; m = r.move; leads = run.0; held = ap (λ e. e.0) is }

module _ {K : Type 0} (holds : K → List Kept → Type 0) where
  -- a move that is kept goes on with each history
  pub kept_stands : (room : ℕ) (old new : K) (x y : State) (m : Move) (mark : Bool) (e : Entry) → Leads x m y → e ≡ overwritten x m → ((es : List Kept) → holds old es → holds new (keep kept_weight room es (e, mark))) → (h : List Record) → StandsFor holds old x h → StandsFor holds new y (keep record_weight room h (record_of x m mark))
  kept_stands room old new x y m mark e leads is push h s =
      let r : Record = record_of x m mark in
      let held : holds new (keep kept_weight room (map kept_of h) (kept_of r)) = subst (λ (v : Entry). holds new (keep kept_weight room (map kept_of h) (v, mark))) is (push (map kept_of h) s.0) in
      (subst (holds new) (sym (map-fit kept_of kept_weight room (r ∷ h))) held, run-fit room (r ∷ h) y (leads, s.1))

  pub kept_history : (room : ℕ) (old new : K) (x y : State) (m : Move) (mark : Bool) (e : Entry) → Leads x m y → e ≡ overwritten x m → ((es : List Kept) → holds old es → holds new (keep kept_weight room es (e, mark))) → HasHistory holds old x → HasHistory holds new y
  kept_history room old new x y m mark e leads is push i =
      record { history = keep record_weight room i.history (record_of x m mark); stands = kept_stands room old new x y m mark e leads is push i.history i.stands }

  pub makes : (room : ℕ) (old new : K) (x y : State) (m : Move) (mark : Bool) (e : Entry) → Leads x m y → e ≡ overwritten x m → ((es : List Kept) → holds old es → holds new (keep kept_weight room es (e, mark))) → Makes holds room m mark (record { state = x; keeper = old }) (record { state = y; keeper = new })
  makes room old new x y m mark e leads is push = record { leads = leads; kept = kept_stands room old new x y m mark e leads is push }

  -- where nothing that is held changes, each history stays
  stays_stands : (old new : K) (x z : State) → z ≡ x → ((es : List Kept) → holds old es → holds new es) → (h : List Record) → StandsFor holds old x h → StandsFor holds new z h
  stays_stands old new x z same push h s = (push (map kept_of h) s.0, subst (IsRun h) (sym same) s.1)

  pub stays : (old new : K) (x z : State) → z ≡ x → ((es : List Kept) → holds old es → holds new es) → Stays holds (record { state = x; keeper = old }) (record { state = z; keeper = new })
  stays old new x z same push = record { state = same; stands = stays_stands old new x z same push }

  pub history_stays : (old new : K) (x z : State) → z ≡ x → ((es : List Kept) → holds old es → holds new es) → HasHistory holds old x → HasHistory holds new z
  history_stays old new x z same push i = record { history = i.history; stands = stays_stands old new x z same push i.history i.stands }

  -- the newest record is told, and the state before it comes back
  pub goes_back : (h : List Record) (keeper : K) (y z : State) (k : Kept) (taken : Taken) → newest (map kept_of h) ≡ Some k → taken ≡ taken_by k → IsRun h y → holds keeper (older (map kept_of h)) → ((x : State) (m : Move) → Leads x m y → overwritten x m ≡ k.0 → z ≡ x) → TakesBack holds (Some taken) h y keeper z
  goes_back [] keeper y z k taken q by run held back = absurd cc
  goes_back (r ∷ h) keeper y z k taken q by run held back =
      let is : kept_of r ≡ k = cc in
      let same : z ≡ r.before = back r.before r.move run.0 (ap (λ e. e.0) is) in
      (ap Some (by ∙ sym (ap taken_by is) ∙ told r), same, (held, subst (IsRun h) (sym same) run.1))

  -- without a record nothing changes
  pub stays_there : (h : List Record) (keeper : K) (y z : State) → newest (map kept_of h) ≡ None → z ≡ y → holds keeper (older (map kept_of h)) → TakesBack holds None h y keeper z
  stays_there [] keeper y z q same held = (refl, same, (held, tt))
  stays_there (r ∷ h) keeper y z q same held = absurd cc

  -- a history is left
  pub history_left : (h : List Record) (taken : Option Taken) (keeper : K) (y z : State) → TakesBack holds taken h y keeper z → HasHistory holds keeper z
  history_left [] taken keeper y z back = record { history = []; stands = back.2 }
  history_left (r ∷ h) taken keeper y z back = record { history = h; stands = back.2 }

-- sums over what is kept are sums over the records
fold_kept : (f : Kept → ℕ) (n : ℕ) (h : List Record) → fold (λ a k. a + f k) n (map kept_of h) ≡ fold (λ a r. a + f (kept_of r)) n h
fold_kept f n [] = refl
fold_kept f n (r ∷ h) = fold_kept f (n + f (kept_of r)) h

-- the marks that are kept, and the weights
pub marks_kept : (h : List Record) → count_by (λ (k : Kept). k.1) (map kept_of h) ≡ count_by (λ (r : Record). r.mark) h
marks_kept h = fold_kept (λ k. cond k.1 1 0) 0 h

pub weights_kept : (h : List Record) → sum_by kept_weight (map kept_of h) ≡ sum_by record_weight h
weights_kept h = fold_kept kept_weight 0 h

fold_steps : (n : ℕ) (h : List Record) → fold (λ a k. a + cond (is_of_step k.0) 1 0) n (map kept_of h) ≡ fold (λ a r. a + cond (is_step r.move) 1 0) n h
fold_steps n [] = refl
fold_steps n (r ∷ h) = ap (λ (b : Bool). fold (λ a k. a + cond (is_of_step k.0) 1 0) (n + cond b 1 0) (map kept_of h)) (of_move r.before r.move) ∙ fold_steps (n + cond (is_step r.move) 1 0) h

pub steps_kept : (h : List Record) → count_by (λ (k : Kept). is_of_step k.0) (map kept_of h) ≡ count_by (λ (r : Record). is_step r.move) h
steps_kept h = fold_steps 0 h
