-- A script, line by line: what is known of the session before each line, and what each line leaves.
use Rattle.std.proofs.Common.{ℕ, ◌≡◌, ◌∷◌, [], List, None, Some, Result, Ok, Err, ap, refl, sym, ◌∙◌}
use Rattle.bpf_journal.specs.Tracks.{RingHolds, Track, ring_room}
use Rattle.bpf_ring.specs.declared.keeper.RingKeeper.{RingKeeper}
use Rattle.bpf_session.specs.Points.{Bounds, Point}
use Rattle.bpf_session.specs.Sessions.{HasPast, SessionValue, StandsAt, bounds_of, point_of, track_at}
use Rattle.bpfdb_script.specs.Commands.{command_of}
use Rattle.bpfdb_script.specs.declared.refusal.Refusal.{Refusal}
use Rattle.bpfdb_jobs.specs.Obeying.{Comes, ObeysLine, arrived}
use Rattle.bpfdb_jobs.specs.Origins.{Arrival, obeyed, obeyed_line}
use Rattle.counted_io.specs.Lines.{lines}

-- what the lines come to, from where a session began
abbrev meaning : SessionValue RingKeeper → Track → List ℕ → Result Arrival Refusal
meaning from t script = obeyed (bounds_of ring_room from) (lines script) (arrived from t 0)

-- the lines that are left come from here to what all of them do
pub record Reaches (from to : SessionValue RingKeeper) (t : Track) (script rest : List ℕ) (moves : ℕ) : Type 0 where
  pub point : Point
  pub stands : StandsAt RingHolds to point
  pub same : obeyed (bounds_of ring_room from) (lines rest) (record { point = point; moves = moves }) ≡ meaning from t script

pub record Going (from to : SessionValue RingKeeper) (script rest : List ℕ) (moves : ℕ) : Type 0 where
  pub bounds : bounds_of ring_room to ≡ bounds_of ring_room from
  pub reaches : (t : Track) → HasPast RingHolds from t → Reaches from to t script rest moves

pub going-start : (s : SessionValue RingKeeper) (script : List ℕ) → Going s s script script 0
going-start s script = record {
  bounds = refl;
  reaches = λ t past. record { point = point_of s t; stands = (refl, past); same = refl };
}

module _ (from to new : SessionValue RingKeeper) (script rest line left : List ℕ) (moves : ℕ) (g : Going from to script rest moves)
    (cut : lines rest ≡ line ∷ lines left) where
  -- what the line means that is first of those left
  first-line : (t : Track) (past : HasPast RingHolds from t)
      → obeyed_line (bounds_of ring_room to) (command_of line) (arrived to (track_at (g.reaches t past).point) moves)
      (obeyed (bounds_of ring_room from) (lines left)) ≡ meaning from t script
  first-line t past =
      let r = g.reaches t past in
      let on = obeyed (bounds_of ring_room from) (lines left) in
      ap (λ (b : Bounds). obeyed_line b (command_of line) (arrived to (track_at r.point) moves) on) g.bounds
      ∙ ap (λ (p : Point). obeyed_line (bounds_of ring_room from) (command_of line) (record { point = p; moves = moves }) on) r.stands.0
      ∙ ap (λ ls. obeyed (bounds_of ring_room from) ls (record { point = r.point; moves = moves })) (sym cut)
      ∙ r.same

  pub going-step : (after : ℕ) → ((t : Track) (on : Arrival → Result Arrival Refusal) → ObeysLine to new t line moves on (Ok (Some after)))
      → bounds_of ring_room new ≡ bounds_of ring_room to → Going from new script left after
  going-step after obeys same = record {
    bounds = same ∙ g.bounds;
    reaches = λ t past.
        let r = g.reaches t past in
        let o = obeys (track_at r.point) (obeyed (bounds_of ring_room from) (lines left)) r.stands.1 in
        record { point = o.0; stands = o.1; same = sym o.2 ∙ first-line t past };
  }

  pub going-quit : ((t : Track) (on : Arrival → Result Arrival Refusal) → ObeysLine to new t line moves on (Ok None))
      → (t : Track) → HasPast RingHolds from t → Comes new (meaning from t script) (Ok moves)
  going-quit obeys t past =
      let r = g.reaches t past in
      let o = obeys (track_at r.point) (obeyed (bounds_of ring_room from) (lines left)) r.stands.1 in (
        r.point,
        rw o.0 r.stands,
        sym (first-line t past) ∙ o.1 ∙ ap (λ (p : Point). Ok (record { point = p; moves = moves })) r.stands.0,
      )

  pub going-refused : (refusal : Refusal)
      → ((t : Track) (on : Arrival → Result Arrival Refusal) → ObeysLine to new t line moves on (Err refusal))
      → (t : Track) → HasPast RingHolds from t → Comes new (meaning from t script) (Err refusal)
  going-refused refusal obeys t past =
      let r = g.reaches t past in
      sym (first-line t past) ∙ obeys (track_at r.point) (obeyed (bounds_of ring_room from) (lines left)) r.stands.1

-- no line is left
pub going-end : (from to : SessionValue RingKeeper) (script rest : List ℕ) (moves : ℕ) → Going from to script rest moves → rest ≡ []
    → (t : Track) → HasPast RingHolds from t → Comes to (meaning from t script) (Ok moves)
going-end from to script rest moves g none t past =
    let r = g.reaches t past in (
      r.point,
      r.stands,
      sym r.same ∙ ap (λ text. obeyed (bounds_of ring_room from) (lines text) (record { point = r.point; moves = moves })) none,
    )
