-- What a line leaves that was obeyed: nothing where it has no words or is `quit`, a refusal, or what its command means.
use Rattle.std.proofs.Common.{◌≡◌, ℕ, Bool, true, false, List, [], Option, Some, None, Result, Ok, Err, IfOk, OnErr, refl, sym, ap, subst, ◌∙◌}
use Rattle.counted_io.specs.Counted.{Tally}
use Rattle.counted_io.specs.Writing.{Writes}
use Rattle.counted_io.proofs.Appending.{Writes-none}
use Rattle.bpf_entries.specs.Keeping.{Kept}
use Rattle.bpf_journal.specs.Tracks.{Track}
use Rattle.bpf_session.specs.Points.{Point, Bounds}
use Rattle.bpf_session.specs.Meaning.{does}
use Rattle.bpf_session.specs.Replies.{text_of_answer}
use Rattle.bpf_session.specs.Sessions.{SessionValue, HasPast, StandsAt, Obeys, bounds_of, gap_of, point_of, refusals_with, track_at}
use Rattle.bpfdb_script.specs.Commands.{command_of}
use Rattle.bpf_session.specs.Output.{Effect, effect, effect_of, is_quit}
use Rattle.bpf_session.specs.LineSteps.{FailsOnce, ObeysLine}
use Rattle.bpfdb_script.specs.declared.command.Command.{Command}
use Rattle.bpf_session.specs.declared.reply.Reply.{Reply}
use Rattle.bpfdb_script.specs.declared.refusal.Refusal.{Refusal}

module _ {K W : Type 0} (holds : K → List Kept → Type 0) (refusals room : K → ℕ) (contents : W → Option (List ℕ)) where
  -- by an effect
  by-effect : {E : Type 0} (old new : SessionValue K) (before after : Tally W) (h : Track) (line : List ℕ) (result : Result Bool E) (gap : Option ℕ) (e : Effect) → effect gap (bounds_of room old) (command_of line) (point_of old h) ≡ e → e.gap ≡ gap → refusals new.moment.keeper ≡ refusals_with gap (refusals old.moment.keeper) → IfOk result (λ more. more ≡ e.goes_on) → OnErr result (e.goes_on ≡ true) → Writes contents before after result e.text → StandsAt holds new e.point → ObeysLine holds refusals room contents old new before after h line result
  by-effect old new before after h line result gap e is told counted on stays w st = record {
    gap = gap;
    told = ap (λ (x : Effect). x.gap) is ∙ told;
    counted = counted;
    goes_on = subst (λ (x : Effect). IfOk result (λ more. more ≡ x.goes_on)) (sym is) on;
    stays = subst (λ (x : Effect). OnErr result (x.goes_on ≡ true)) (sym is) stays;
    written = subst (λ (x : Effect). Writes contents before after result x.text) (sym is) w;
    stands = subst (λ (x : Effect). StandsAt holds new x.point) (sym is) st;
  }

  stays-on : {E : Type 0} (result : Result Bool E) → OnErr result (true ≡ true)
  stays-on (Ok more) = tt
  stays-on (Err fault) = refl

  -- no words
  pub obeys-nothing : {E : Type 0} (now : SessionValue K) (writer : Tally W) (h : Track) (line : List ℕ) → HasPast holds now h → Ok None ≡ command_of line → ObeysLine {E = E} holds refusals room contents now now writer writer h line (Ok true)
  obeys-nothing now writer h line past says =
      by-effect now now writer writer h line (Ok true) None (effect None (bounds_of room now) (Ok None) (point_of now h))
      (ap (λ a. effect None (bounds_of room now) a (point_of now h)) (sym says)) refl refl refl tt (Writes-none contents writer true) (refl, past)

  -- `quit`
  pub obeys-quit : {E : Type 0} (now : SessionValue K) (writer : Tally W) (h : Track) (line : List ℕ) (command : Command) → HasPast holds now h → Ok (Some command) ≡ command_of line → is_quit command ≡ true → ObeysLine {E = E} holds refusals room contents now now writer writer h line (Ok false)
  obeys-quit now writer h line command past says quits =
      by-effect now now writer writer h line (Ok false) None (record { text = []; point = point_of now h; gap = None; goes_on = false })
      (ap (λ a. effect None (bounds_of room now) a (point_of now h)) (sym says) ∙ rw quits refl) refl refl refl tt (Writes-none contents writer false) (refl, past)

  -- a line that is refused
  pub obeys-refused : {E : Type 0} (now : SessionValue K) (before after : Tally W) (h : Track) (line : List ℕ) (result : Result Bool E) (refusal : Refusal) → HasPast holds now h → Err refusal ≡ command_of line → ((h : Track) → HasPast holds now h → Writes contents before after result (text_of_answer (bounds_of room now) (Err refusal) (point_of now h))) → IfOk result (λ more. more ≡ true) → ObeysLine holds refusals room contents now now before after h line result
  obeys-refused now before after h line result refusal past says w on =
      by-effect now now before after h line result None (effect None (bounds_of room now) (Err refusal) (point_of now h))
      (ap (λ a. effect None (bounds_of room now) a (point_of now h)) (sym says)) refl refl on (stays-on result) (w h past) (refl, past)

  -- a command
  pub obeys-command : {E : Type 0} (old new : SessionValue K) (before after : Tally W) (h : Track) (line : List ℕ) (result : Result Bool E) (command : Command) (answer : Result Reply Refusal) → HasPast holds old h → Ok (Some command) ≡ command_of line → is_quit command ≡ false
      → Obeys holds refusals room old new (λ gap. does gap (bounds_of room old) command) answer
      → ((h : Track) → HasPast holds new h → Writes contents before after result (text_of_answer (bounds_of room new) answer (point_of new h))) → IfOk result (λ more. more ≡ true) → ObeysLine holds refusals room contents old new before after h line result
  obeys-command old new before after h line result command answer past says goes o write on =
      let d = does (gap_of answer) (bounds_of room old) command (point_of old h) in
      let answered : answer ≡ d.answer = o.answered h past in
      let stands : StandsAt holds new d.point = o.stands h past in
      let text : text_of_answer (bounds_of room new) answer (point_of new (track_at d.point)) ≡ text_of_answer (bounds_of room old) d.answer d.point =
      ap (λ (b : Bounds). text_of_answer b answer (point_of new (track_at d.point))) o.bounds
      ∙ ap (λ (a : Result Reply Refusal). text_of_answer (bounds_of room old) a (point_of new (track_at d.point))) answered
      ∙ ap (λ (p : Point). text_of_answer (bounds_of room old) d.answer p) stands.0 in
      by-effect old new before after h line result (gap_of answer) (effect_of (bounds_of room old) d)
      (ap (λ a. effect (gap_of answer) (bounds_of room old) a (point_of old h)) (sym says) ∙ rw goes refl)
      (ap gap_of (sym answered)) o.counted on (stays-on result)
      (subst (λ (xs : List ℕ). Writes contents before after result xs) text (write (track_at d.point) stands.1)) stands

-- what was written tells whether it failed
pub fails-once : {W A E : Type 0} (contents : W → Option (List ℕ)) (before after : Tally W) (result : Result A E) {text : List ℕ} → Writes contents before after result text → FailsOnce result before after
fails-once contents before after (Ok value) w = w.same
fails-once contents before after (Err fault) w = w.fault
