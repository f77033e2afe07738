-- The law that nothing is lost: going back and making again lose no move, new moves begin anew, and making all again gives all back.
use Rattle.std.specs.Prelude.{if◌then◌else◌, nat_lt, ◌==◌, ◌⊎◌, ◌&&◌, ◌-◌, is_some, min, is_ok, nat_le}
use Rattle.std.proofs.Common.{◌≡◌, ◌≤◌, inl, inr, ℕ, zero, suc, Bool, true, false, List, [], ◌∷◌, ◌++◌, Option, Some, None, Ok, Err, length, take, drop, reverse, refl, sym, ap, subst, ◌∙◌, arith}
use Rattle.std.proofs.lemmas.Bool.Decides.{nat_tests}
use Rattle.std.proofs.lemmas.List.{reverse-append, append_assoc}
use Rattle.bpf_entries.specs.Keeping.{Kept, fit}
use Rattle.bpf_machine.specs.declared.edit.Edit.{Edit}
use Rattle.bpf_machine.specs.declared.moves.Move.TheVariants as move
use Rattle.bpf_machine.specs.Moves.{moved}
use Rattle.bpf_steps.specs.State.{State}
use Rattle.bpf_ring.specs.Runs.{state_after}
use Rattle.bpf_journal.specs.Histories.{Record, IsRun, record_weight}
use Rattle.bpf_journal.specs.Lookups.{state_before}
use Rattle.bpf_journal.specs.Timelines.{record_of}
use Rattle.bpf_journal.specs.Tracks.{IsAhead}
use Rattle.bpf_session.specs.Backward.{back, back_by, found, to_stop}
use Rattle.bpf_session.specs.Forward.{kept, steps, stop, reason, taken, cut, forward}
use Rattle.bpf_session.specs.Laws.{all_moves, last_state, LeadsTo, LeadsOn, IsPlaced, Given, LosesNothing, outcome_of, after, commands_of, given_by, is_new, after_new, NothingIsLost, ScriptsLoseNothing, SessionsArePlaced}
use Rattle.bpf_session.specs.Output.{Walk, after_effect, effect, effect_of, first_gap, is_quit, later_gaps, walk}
use Rattle.bpfdb_script.specs.Commands.{Answer, command_of}
use Rattle.bpf_session.specs.Meaning.{accepted, does}
use Rattle.bpf_session.specs.Outcomes.{Outcome, refused, replied, unless_refused}
use Rattle.bpf_session.specs.Points.{Point, Bounds}
use Rattle.bpf_session.specs.Redo.{state_ahead, on_by, again, why_again, redone, cut_again}
use Rattle.bpf_session.specs.Refused.{refusals_of, when}
use Rattle.bpf_session.specs.Tables.{edit, with_stop, without_stop}
use Rattle.bpf_session.proofs.ForwardLaws.{least-from}
use Rattle.bpf_session.specs.declared.reply.Reply.TheVariants as Reply
use Rattle.bpfdb_script.specs.declared.command.Command.{Command}
use Rattle.bpfdb_script.specs.declared.command.Command.TheVariants as command
use Rattle.bpfdb_script.specs.declared.command.Stop.{Stop}
use Rattle.bpfdb_script.specs.declared.command.Stop.TheVariants as stops
use Rattle.bpfdb_script.specs.declared.command.Target.{Target}
use Rattle.bpfdb_script.specs.declared.command.Target.TheVariants as target
use Rattle.bpfdb_script.specs.declared.refusal.Refusal.{Refusal}
use Rattle.bpfdb_script.specs.declared.refusal.Refusal.TheVariants.{NothingToRedo, OutOfMemory}
use Rattle.bpfdb_script.specs.declared.why.Why.{Why}
use Rattle.bpfdb_script.specs.declared.why.Why.TheVariants.{Memory}

-- a history h with what was taken back f, at y, has become h' with f', at y'
record Walked (h f : List Record) (y : State) (h' f' : List Record) (y' : State) : Type 0 where
  moves : reverse f' ++ h' ≡ reverse f ++ h
  last : state_ahead (length f') f' y' ≡ state_ahead (length f) f y
  to : LeadsTo h' y'
  on : LeadsOn y' f'

-- a record between two lists
turned : (r : Record) (xs ys : List Record) → reverse (r ∷ xs) ++ ys ≡ reverse xs ++ (r ∷ ys)
turned r xs ys = ap (λ (zs : List Record). zs ++ ys) (reverse-append (r ∷ []) xs) ∙ append_assoc (reverse xs) (r ∷ []) ys

back-walk : (k : ℕ) (h f : List Record) (y : State) → LeadsTo h y → LeadsOn y f → Walked h f y (drop k h) (reverse (take k h) ++ f) (state_before k h y)
back-walk zero h f y to on = record { moves = refl; last = refl; to = to; on = on }
back-walk (suc k) [] f y to on = record { moves = refl; last = refl; to = to; on = on }
back-walk (suc k) (r ∷ h) f y to on =
    let i = back-walk k h (r ∷ f) r.before to.1 (refl, subst (λ x. LeadsOn x f) to.0 on) in
    let same : reverse (take (suc k) (r ∷ h)) ++ f ≡ reverse (take k h) ++ (r ∷ f) = turned r (take k h) f in
    record {
      moves = ap (λ (g : List Record). reverse g ++ drop k h) same ∙ i.moves ∙ turned r f h;
      last = ap (λ (g : List Record). state_ahead (length g) g (state_before k h r.before)) same ∙ i.last ∙ ap (state_ahead (length f) f) (sym to.0);
      to = i.to;
      on = subst (LeadsOn (state_before k h r.before)) (sym same) i.on;
    }

on-walk : (k : ℕ) (h f : List Record) (y : State) → LeadsTo h y → LeadsOn y f → Walked h f y (reverse (take k f) ++ h) (drop k f) (state_ahead k f y)
on-walk zero h f y to on = record { moves = refl; last = refl; to = to; on = on }
on-walk (suc k) h [] y to on = record { moves = refl; last = refl; to = to; on = on }
on-walk (suc k) h (r ∷ f) y to on =
    let from : y ≡ r.before = sym on.0 in
    let i = on-walk k (r ∷ h) f (moved r.before r.move) (refl, subst (LeadsTo h) from to) (subst (λ x. LeadsOn (moved x r.move) f) from on.1) in
    let same : reverse (take (suc k) (r ∷ f)) ++ h ≡ reverse (take k f) ++ (r ∷ h) = turned r (take k f) h in
    record {
      moves = ap (λ (g : List Record). reverse (drop k f) ++ g) same ∙ i.moves ∙ sym (turned r f h);
      last = i.last;
      to = subst (λ (g : List Record). LeadsTo g (state_ahead k f (moved r.before r.move))) (sym same) i.to;
      on = i.on;
    }

-- ---- commands that lose no move

abbrev Keeps : Point → Point → Type 0
Keeps p q = (all_moves q ≡ all_moves p) × (last_state q ≡ last_state p) × IsPlaced q

keeps-same : (p : Point) → IsPlaced p → Keeps p p
keeps-same p placed = (refl, refl, placed)

keeps-back : (k : ℕ) (p : Point) → IsPlaced p → Keeps p (back_by k p)
keeps-back k p placed = let w = back-walk k p.history p.ahead p.state placed.0 placed.1 in (w.moves, w.last, (w.to, w.on))

keeps-on : (k : ℕ) (p : Point) → IsPlaced p → Keeps p (on_by k p)
keeps-on k p placed = let w = on-walk k p.history p.ahead p.state placed.0 placed.1 in (w.moves, w.last, (w.to, w.on))

stop-back : (o : Option ℕ) (p : Point) → IsPlaced p → Keeps p (to_stop o p).point
stop-back None p placed = keeps-back (length p.history) p placed
stop-back (Some k) p placed = keeps-back k p placed

goes-back : (t : Target) (p : Point) → IsPlaced p → Keeps p (back t p).point
goes-back (target.Commands count) p placed = keeps-back _ p placed
goes-back (target.Steps count) p placed = keeps-back _ p placed
goes-back target.Next p placed = keeps-back _ p placed
goes-back target.Continue p placed = stop-back (found target.Continue 1 p) p placed
goes-back target.Finish p placed = keeps-back _ p placed

goes-on : (gap : Option ℕ) (k : ℕ) (why : Why) (p : Point) → IsPlaced p → Keeps p (cut_again gap k why p).point
goes-on None k why p placed = keeps-on k p placed
goes-on (Some m) k why p placed = at (nat_lt m k) (m == 0)
  where
    at : (less first : Bool) → Keeps p (if less then (if first then refused OutOfMemory p else redone m Memory p) else redone k why p).point
    at true true = keeps-same p placed
    at true false = keeps-on m p placed
    at false first = keeps-on k p placed

unless : (rs : List Refusal) (p : Point) (o : Outcome) → IsPlaced p → Keeps p o.point → Keeps p (unless_refused rs p o).point
unless [] p o placed keeps = keeps
unless (r ∷ rs) p o placed keeps = keeps-same p placed

stop-set : (stop : Stop) (p : Point) → IsPlaced p → Keeps p (with_stop stop p)
stop-set (stops.Breakpoint slot) p placed = keeps-same p placed
stop-set (stops.Watch address) p placed = keeps-same p placed

stop-gone : (stop : Stop) (p : Point) → IsPlaced p → Keeps p (without_stop stop p)
stop-gone (stops.Breakpoint slot) p placed = keeps-same p placed
stop-gone (stops.Watch address) p placed = keeps-same p placed

-- ---- commands that make new moves

-- it was accepted, and nothing is taken back; or it was refused, and nothing changed
abbrev Made : Point → Outcome → Type 0
Made p o = ((is_ok o.answer ≡ true) × (o.point.ahead ≡ []) × IsPlaced o.point) ⊎ ((is_ok o.answer ≡ false) × (o.point ≡ p))

unless-made : (rs : List Refusal) (p : Point) (o : Outcome) → Made p o → Made p (unless_refused rs p o)
unless-made [] p o made = made
unless-made (r ∷ rs) p o made = inr (refl, refl)

leads-fit : (room : ℕ) (h : List Record) (x : State) → LeadsTo h x → LeadsTo (fit record_weight room h) x
unfolding fit
leads-fit room [] x to = tt
leads-fit room (r ∷ h) x to = at (nat_le (record_weight r) room) (leads-fit (room - record_weight r) h r.before to.1)
  where
    at : (v : Bool) → LeadsTo (fit record_weight (room - record_weight r) h) r.before → LeadsTo (if v then r ∷ fit record_weight (room - record_weight r) h else []) x
    at true more = (to.0, more)
    at false more = tt

kept-leads : (room k : ℕ) (p : Point) → LeadsTo p.history p.state → LeadsTo (kept room k p) (state_after k p.state)
kept-leads room zero p to = to
kept-leads room (suc k) p to = leads-fit room (record_of (state_after k p.state) move.Step (k == 0) ∷ kept room k p) (state_after (suc k) p.state) (refl, kept-leads room k p to)

taken-made : (room k : ℕ) (why : Why) (p : Point) → 1 ≤ k → IsPlaced p → Made p (taken room k why p)
taken-made room zero why p some placed = absurd (omega (arith, some))
taken-made room (suc k) why p some placed = inl (refl, refl, (kept-leads room (suc k) p placed.0, tt))

cut-made : (gap : Option ℕ) (room k : ℕ) (why : Why) (p : Point) → 1 ≤ k → IsPlaced p → Made p (cut gap room k why p)
cut-made None room k why p some placed = taken-made room k why p some placed
cut-made (Some m) room k why p some placed = at (nat_lt m k) (m == 0) refl
  where
    at : (less first : Bool) → (m == 0) ≡ first → Made p (if less then (if first then refused OutOfMemory p else taken room m Memory p) else taken room k why p)
    at true true z = inr (refl, refl)
    at true false z = let some : 1 ≤ m = grind (arith, nat_tests) in taken-made room m Memory p some placed
    at false first z = taken-made room k why p some placed

edit-made : (gap : Option ℕ) (room : ℕ) (e : Edit) (p : Point) → IsPlaced p → Made p (edit gap room e p)
edit-made None room e p placed = inl (refl, refl, (leads-fit room (record_of p.state (move.Edit e) true ∷ p.history) (moved p.state (move.Edit e)) (refl, placed.0), tt))
edit-made (Some m) room e p placed = inr (refl, refl)

-- ---- all commands, one after another

record Since (p n q : Point) : Type 0 where
  since : (n ≡ p) ⊎ (n.ahead ≡ [])
  moves : all_moves q ≡ all_moves n
  last : last_state q ≡ last_state n
  placed : IsPlaced q

since-kept : (p n q r : Point) → Since p n q → Keeps q r → Since p n r
since-kept p n q r s keeps = record { since = s.since; moves = keeps.0 ∙ s.moves; last = keeps.1 ∙ s.last; placed = keeps.2 }

since-made : (p n q : Point) (o : Outcome) → Since p n q → Made q o → Since p (if is_ok o.answer then o.point else n) o.point
since-made p n q o s (inl made) =
    subst (λ (v : Bool). Since p (if v then o.point else n) o.point) (sym made.0)
    (record { since = inr made.1; moves = refl; last = refl; placed = made.2 })
since-made p n q o s (inr made) =
    subst (λ (v : Bool). Since p (if v then o.point else n) o.point) (sym made.0) (subst (Since p n) (sym made.1) s)

since-one : (b : Bounds) (given : Given) (p n q : Point) → Since p n q → Since p (if is_new given.command && is_ok (outcome_of b given q).answer then (outcome_of b given q).point else n) (outcome_of b given q).point
unfolding accepted
since-one b given p n q s = at given.gap given.command
  where
    at : (gap : Option ℕ) (c : Command) → Since p (if is_new c && is_ok (does gap b c q).answer then (does gap b c q).point else n) (does gap b c q).point
    at gap (command.Forward goal) =
        since-made p n q _ s (unless-made (refusals_of (command.Forward goal) q) q (forward gap b goal q)
        (cut-made gap b.room (steps b.limit goal q) (reason b.limit goal q) q (least-from (λ k. is_some (stop b.limit goal q k)) 1 b.limit) s.placed))
    at gap (command.Edit e) = since-made p n q _ s (unless-made (refusals_of (command.Edit e) q) q (edit gap b.room e q) (edit-made gap b.room e q s.placed))
    at gap (command.Back t) = since-kept p n q _ s (unless (refusals_of (command.Back t) q) q (back t q) s.placed (goes-back t q s.placed))
    at gap (command.Redo count) =
        since-kept p n q _ s (unless (refusals_of (command.Redo count) q) q (cut_again gap (again count q) (why_again count q) q) s.placed (goes-on gap (again count q) (why_again count q) q s.placed))
    at gap (command.Add stop) = since-kept p n q _ s (unless (refusals_of (command.Add stop) q) q (replied Reply.Ok (with_stop stop q)) s.placed (stop-set stop q s.placed))
    at gap (command.Remove stop) = since-kept p n q _ s (unless (refusals_of (command.Remove stop) q) q (replied Reply.Ok (without_stop stop q)) s.placed (stop-gone stop q s.placed))
    at gap (command.Show view) = since-kept p n q _ s (unless (refusals_of (command.Show view) q) q (replied (Reply.Shown view) q) s.placed (keeps-same q s.placed))
    at gap command.Quit = s

since-all : (b : Bounds) (gs : List Given) (p n q : Point) → Since p n q → Since p (after_new b gs q n) (after b gs q)
since-all b [] p n q s = s
since-all b (given ∷ gs) p n q s = since-all b gs p _ (outcome_of b given q).point (since-one b given p n q s)

-- ---- `redo` of everything

whole : (f : List Record) → take (length f) f ≡ f
whole [] = refl
whole (r ∷ f) = ap (λ (g : List Record). r ∷ g) (whole f)

nothing : (f : List Record) → drop (length f) f ≡ []
nothing [] = refl
nothing (r ∷ f) = nothing f

-- where there is something to be made again
redo-some : (b : Bounds) (count : ℕ) (p : Point) → (length p.ahead == 0) ≡ false → length p.ahead ≤ count → (does None b (command.Redo count) p).point ≡ record p { history = all_moves p; ahead = []; state = last_state p }
unfolding accepted
redo-some b count p off enough =
    let all : min count (length p.ahead) ≡ length p.ahead = omega (arith, enough) in
    ap (λ (v : Bool). (unless_refused (when v NothingToRedo) p (redone (again count p) (why_again count p) p)).point) off
    ∙ ap (λ (k : ℕ). on_by k p) all
    ∙ ap (λ (g : List Record). record p { history = reverse g ++ p.history; ahead = drop (length p.ahead) p.ahead; state = last_state p }) (whole p.ahead)
    ∙ ap (λ (g : List Record). record p { history = all_moves p; ahead = g; state = last_state p }) (nothing p.ahead)

-- where there is nothing it is refused, and nothing changes
redo-none : (b : Bounds) (count : ℕ) (p : Point) → (length p.ahead == 0) ≡ true → (does None b (command.Redo count) p).point ≡ record p { history = all_moves p; ahead = []; state = last_state p }
unfolding accepted
redo-none b count p on =
    let empty : p.ahead ≡ [] = is-empty p.ahead on in
    ap (λ (v : Bool). (unless_refused (when v NothingToRedo) p (redone (again count p) (why_again count p) p)).point) on
    ∙ ap (λ (g : List Record). record p { ahead = g }) empty
    ∙ ap (λ (g : List Record). record p { history = reverse g ++ p.history; ahead = []; state = state_ahead (length g) g p.state }) (sym empty)
  where
    is-empty : (f : List Record) → (length f == 0) ≡ true → f ≡ []
    is-empty [] e = refl
    is-empty (r ∷ f) e = let none : suc (length f) ≡ 0 = grind (arith, nat_tests) in absurd (omega (arith, none))

redo-all : (b : Bounds) (count : ℕ) (p : Point) → length p.ahead ≤ count → (does None b (command.Redo count) p).point ≡ record p { history = all_moves p; ahead = []; state = last_state p }
redo-all b count p enough = at (length p.ahead == 0) refl
  where
    at : (v : Bool) → (length p.ahead == 0) ≡ v → (does None b (command.Redo count) p).point ≡ record p { history = all_moves p; ahead = []; state = last_state p }
    at true e = redo-none b count p e
    at false e = redo-some b count p e enough

pub nothing-is-lost : NothingIsLost
nothing-is-lost b gs p placed =
    let n = after_new b gs p p in
    let q = after b gs p in
    let s = since-all b gs p p p (record { since = inl refl; moves = refl; last = refl; placed = placed }) in
    record {
      since = s.since;
      moves = s.moves;
      last = s.last;
      placed = s.placed;
      redo = λ count enough. redo-all b count q enough
          ∙ ap (λ (h : List Record). record q { history = h; ahead = []; state = last_state q }) s.moves
          ∙ ap (λ (x : State). record q { history = all_moves n; ahead = []; state = x }) s.last;
    }

-- ---- scripts

-- a command's effect and the commands of the lines after it
given-last : (gap : Option ℕ) (b : Bounds) (answer : Answer) (lines : List (List ℕ)) (p : Point) (rest : Point → Walk) (more : List Given)
    → ((q : Point) → (rest q).final ≡ after b more q)
    → (after_effect (effect gap b answer p) lines (rest (effect gap b answer p).point)).final ≡ after b (given_by gap answer more) p
given-last gap b (Ok None) lines p rest more same = same p
given-last gap b (Err refusal) lines p rest more same = same p
given-last gap b (Ok (Some c)) lines p rest more same = at (is_quit c)
  where
    at : (v : Bool)
        → (let e = if v then record { text = []; point = p; gap = None; goes_on = false } else effect_of b (does gap b c p) in
        (after_effect e lines (rest e.point)).final) ≡ after b (if v then [] else record { command = c; gap = gap } ∷ more) p
    at true = refl
    at false = same (does gap b c p).point

final-after : (gaps : List (Option ℕ)) (b : Bounds) (lines : List (List ℕ)) (p : Point) → (walk gaps b lines p).final ≡ after b (commands_of gaps lines) p
final-after gaps b [] p = refl
final-after gaps b (line ∷ lines) p =
    given-last (first_gap gaps) b (command_of line) lines p (walk (later_gaps gaps) b lines) (commands_of (later_gaps gaps) lines)
    (final-after (later_gaps gaps) b lines)

pub scripts-lose-nothing : ScriptsLoseNothing
scripts-lose-nothing gaps b lines p placed =
    let same = final-after gaps b lines p in
    let given = commands_of gaps lines in
    (same, subst (LosesNothing b p (after_new b given p p)) (sym same) (nothing-is-lost b given p placed))

-- ---- sessions

run-leads : (h : List Record) (x : State) → IsRun h x → LeadsTo h x
run-leads [] x run = tt
run-leads (r ∷ h) x run = (run.0.after, run-leads h r.before run.1)

ahead-leads : (x : State) (f : List Record) → IsAhead x f → LeadsOn x f
ahead-leads x [] ahead = tt
ahead-leads x (r ∷ f) ahead = (ahead.0, ahead-leads (moved x r.move) f ahead.2)

pub sessions-are-placed : {K : Type 0} (holds : K → List Kept → Type 0) → SessionsArePlaced holds
sessions-are-placed holds s p stands =
    let at : s.moment.state ≡ p.state = ap (λ (q : Point). q.state) stands.0 in
    (subst (LeadsTo p.history) at (run-leads p.history s.moment.state stands.1.history.1), subst (λ x. LeadsOn x p.ahead) at (ahead-leads s.moment.state p.ahead stands.1.ahead))
