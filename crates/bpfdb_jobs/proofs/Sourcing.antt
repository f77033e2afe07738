-- Where the values came from of a run that is made again.
use Rattle.std.proofs.Common.{◌≡◌, ◌==◌, ◌∙◌, ◌++◌, ℕ, true, false, List, [], ◌∷◌, Option, codes, ap, arith, refl, subst, length}
use Rattle.std.proofs.lemmas.Bool.Decides.{nat_tests}
use Rattle.std.proofs.lemmas.List.{append-nil}
use Rattle.bpf_entries.specs.Keeping.{IsSize}
use Rattle.bpf_journal.specs.Histories.{Record, StandsFor}
use Rattle.bpf_journal.specs.Runs.{history_after}
use Rattle.bpf_journal.specs.Timelines.{Moment}
use Rattle.bpf_journal.specs.Tracks.{RingHolds, ring_room}
use Rattle.bpf_ring.specs.declared.keeper.RingKeeper.{RingKeeper}
use Rattle.bpf_lines.specs.declared.place_names.Names.{Names}
use Rattle.bpf_steps.specs.State.{State}
use Rattle.bpf_origin.specs.Asked.{answer_about}
use Rattle.bpf_origin.specs.declared.place.Part.{Part}
use Rattle.bpf_origin.specs.declared.question.Question.{Question}
use Rattle.bpf_session.specs.Plain.{RunsKept, plain_end, plain_steps}
use Rattle.bpf_diff.specs.Values.{Value}
use Rattle.bpfdb_script.specs.SlotTexts.{SlotTexts}
use Rattle.bpf_trace.specs.Traces.{standing}
use Rattle.bpfdb_jobs.specs.Openings.{HasRun, asked_text}
use Rattle.bpfdb_jobs.specs.Origins.{found_text, named_by, question_by, run_history}
use Rattle.bpfdb_jobs.specs.Sources.{asked_at, behind, source, told_of}
use Rattle.bpfdb_options.specs.declared.ask.Scope.{Scope}
use Rattle.bpfdb_options.specs.declared.options.Options.{Options}

-- a machine that has run from an opening, over an empty journal
module _ (options : Options) (n : ℕ) (x : State) (old new : Moment RingKeeper) (moves : ℕ) (sized : IsSize options.journal) (state : old.state ≡ x)
    (empty : RingHolds old.keeper []) (room : ring_room old.keeper ≡ options.journal) (ran : RunsKept n old new moves) where
  history : history_after (ring_room old.keeper) moves old.state [] ≡ run_history (record options { limit = n }) x
  history = ap (λ (r : ℕ). history_after r moves old.state []) room
      ∙ ap (λ (m : ℕ). history_after options.journal m old.state []) ran.steps
      ∙ ap (λ (y : State). history_after options.journal (plain_steps n y) y []) state

  pub has-run : HasRun options n x new moves
  has-run = record {
    sized = sized;
    state = ran.state ∙ ap (plain_end n) state;
    held = subst (λ (h : List Record). StandsFor RingHolds new.keeper new.state h) history (ran.kept [] (empty, tt {0}));
    counted = ran.steps ∙ ap (plain_steps n) state;
  }

-- whether something is asked about
told-some : (parts : List Part) (text : List ℕ) → (length parts == 0) ≡ false → text ≡ told_of parts text
told-some [] text some = absurd cc
told-some (p ∷ parts) text some = refl

told-none : (parts : List Part) (text : List ℕ) → (length parts == 0) ≡ true → [] ≡ told_of parts text
told-none [] text none = refl
told-none (p ∷ parts) text none =
    let zero : length (p ∷ parts) ≡ 0 = grind (arith, nat_tests, none) in
    absurd (omega (arith, zero))

-- what is told there
module _ (names : Option Names) (texts : SlotTexts) (scope : Scope) (options : Options) (v : Value) (x : State) (moment : Moment RingKeeper) (moves : ℕ) (ran : HasRun options v.steps x moment moves)
    (q : Question) (asks : q ≡ record { addresses = scope.addresses; lines = scope.lines; opening = length (behind options v.steps x).point.history == moves; places = texts })
    (asked : List Part) (is : asked ≡ asked_at moment.state.status v.parts moment.state) where
  abbrev told : Question → List Part → State → List ℕ
  told z parts y = named_by names (found_text [] z.places y (answer_about z parts (behind options v.steps x).point.history y))

  asks-as : q ≡ question_by texts scope (behind options v.steps x)
  asks-as = asks
      ∙ ap (λ (m : ℕ). record { addresses = scope.addresses; lines = scope.lines; opening = length (behind options v.steps x).point.history == m; places = texts }) ran.counted

  whole : told_of asked (told q asked moment.state) ≡ source names texts scope options x v
  whole = ap (λ (z : Question). told_of asked (told z asked moment.state)) asks-as
      ∙ ap (λ (parts : List Part). told_of parts (told (question_by texts scope (behind options v.steps x)) parts moment.state)) is
      ∙ ap (λ (y : State). told_of (asked_at y.status v.parts y)
      (told (question_by texts scope (behind options v.steps x)) (asked_at y.status v.parts y) y)) ran.state

  pub nothing-told : (length asked == 0) ≡ true → [] ≡ source names texts scope options x v
  nothing-told none = told-none asked (told q asked moment.state) none ∙ whole

  pub something-told : (length asked == 0) ≡ false
      → named_by names (asked_text [] q asked (behind options v.steps x).point.history moment.state []) ≡ source names texts scope options x v
  something-told some =
      ap (λ (text : List ℕ). named_by names (standing q.places moment.state ++ codes "\n" ++ text)) (append-nil _)
      ∙ told-some asked (told q asked moment.state) some ∙ whole
