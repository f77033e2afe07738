-- A command that is refused, and what is known of one that isn't.
use Rattle.std.proofs.Common.{◌≡◌, ◌==◌, ◌<◌, ◌≤◌, ℕ, Bool, true, false, not, List, [], ◌∷◌, ◌++◌, Option, Some, None, Err, length, is_some, refl, sym, ap, subst, ◌∙◌, arith}
use Rattle.std.specs.Prelude.{map, nat_le, nat_lt, IsSome}
use Rattle.std.proofs.lemmas.Bool.Decides.{nat_tests}
use Rattle.bpf_entries.specs.Keeping.{Kept}
use Rattle.bpf_entries.specs.Status.{has_ended}
use Rattle.bpf_steps.specs.State.{depth}
use Rattle.bpf_machine.specs.Edits.{IsEditable, edit_fault}
use Rattle.bpf_machine.specs.declared.edit.Edit.{Edit}
use Rattle.bpf_machine.specs.declared.edit.EditFault.{EditFault}
use Rattle.bpf_machine.specs.declared.edit.EditFault.TheVariants as fault
use Rattle.bpf_journal.specs.Tracks.{Track}
use Rattle.bpf_session.specs.Backward.{marks, kept_steps}
use Rattle.bpf_session.specs.Laws.{Ascends}
use Rattle.bpf_session.specs.Limits.{most_breaks, most_watches}
use Rattle.bpf_session.specs.Outcomes.{Outcome, refused, unless_refused}
use Rattle.bpf_session.specs.Points.{Point}
use Rattle.bpf_session.specs.Accepted.{first}
use Rattle.bpf_session.specs.Refused.{when, present, starts, fault_refusals, refusals_of}
use Rattle.bpf_session.specs.Replies.{IsInSight}
use Rattle.bpf_session.specs.Sessions.{SessionValue, HasPast, StandsAt, Obeys, gap_of, point_of}
use Rattle.bpf_session.specs.Stops.{has}
use Rattle.bpfdb_script.specs.declared.command.Command.{Command}
use Rattle.bpfdb_script.specs.declared.command.Command.TheVariants as command
use Rattle.bpfdb_script.specs.declared.command.Goal.{Goal}
use Rattle.bpfdb_script.specs.declared.command.Goal.TheVariants as goals
use Rattle.bpfdb_script.specs.declared.command.Stop.TheVariants as stops
use Rattle.bpfdb_script.specs.declared.command.Target.TheVariants as targets
use Rattle.bpfdb_script.specs.declared.command.View.{View}
use Rattle.bpfdb_script.specs.declared.command.View.TheVariants as views
use Rattle.bpfdb_script.specs.Refusals.{number_of}
use Rattle.bpfdb_script.specs.declared.refusal.Refusal.{Refusal}
use Rattle.bpfdb_script.specs.declared.refusal.Refusal.TheVariants.{MachineEnded, NoKeptStep, FewerCommands, AddressNotPresent, NoStart, OutermostFrame, TableFull, ThereOrNot, NothingToRedo}

-- ---- the refusals of a command

-- none of them tells of a refused move
abbrev Untold : List Refusal → Type 0
Untold [] = Unit {0}
Untold (r ∷ rs) = (gap_of (Err r) ≡ None) × Untold rs

abbrev Orderly : List Refusal → Type 0
Orderly rs = Ascends (map number_of rs) × Untold rs

alone : (test : Bool) (r : Refusal) → gap_of (Err r) ≡ None → Orderly (when test r)
alone true r none = (tt, (none, tt))
alone false r none = (tt, tt)

two : (a b : Bool) (r q : Refusal) → gap_of (Err r) ≡ None → gap_of (Err q) ≡ None → number_of r < number_of q → Orderly (when a r ++ when b q)
two true true r q one other less = ((less, tt), (one, (other, tt)))
two true false r q one other less = (tt, (one, tt))
two false true r q one other less = (tt, (other, tt))
two false false r q one other less = (tt, tt)

-- a refusal of what is named, a full table, and one that is there
three : (a b c : Bool) (r : Refusal) → gap_of (Err r) ≡ None → number_of r < 10 → Orderly (when a r ++ when b TableFull ++ when c ThereOrNot)
three true true true r one less = ((less, (omega arith, tt)), (one, (refl, (refl, tt))))
three true true false r one less = ((less, tt), (one, (refl, tt)))
three true false true r one less = ((omega (arith, less), tt), (one, (refl, tt)))
three true false false r one less = (tt, (one, tt))
three false true true r one less = ((omega arith, tt), (refl, (refl, tt)))
three false true false r one less = (tt, (refl, tt))
three false false true r one less = (tt, (refl, tt))
three false false false r one less = (tt, tt)

of-fault : (f : Option EditFault) → Orderly (fault_refusals f)
of-fault None = (tt, tt)
of-fault (Some fault.AddressNotPresent) = (tt, (refl, tt))
of-fault (Some fault.RegisterNotWritable) = (tt, (refl, tt))
of-fault (Some fault.NoStart) = (tt, (refl, tt))
of-fault (Some fault.NoCell) = (tt, (refl, tt))

pub orderly : (c : Command) (p : Point) → Orderly (refusals_of c p)
orderly (command.Forward (goals.Steps count)) p = alone (has_ended p.state.status) MachineEnded refl
orderly (command.Forward goals.Next) p = alone (has_ended p.state.status) MachineEnded refl
orderly (command.Forward goals.Continue) p = alone (has_ended p.state.status) MachineEnded refl
orderly (command.Forward goals.Finish) p = two (has_ended p.state.status) (depth p.state == 0) MachineEnded OutermostFrame refl refl (omega arith)
orderly (command.Back (targets.Commands count)) p = alone (nat_lt (marks p) count) FewerCommands refl
orderly (command.Back (targets.Steps count)) p = alone (kept_steps p == 0) NoKeptStep refl
orderly (command.Back targets.Next) p = alone (kept_steps p == 0) NoKeptStep refl
orderly (command.Back targets.Continue) p = alone (kept_steps p == 0) NoKeptStep refl
orderly (command.Back targets.Finish) p = two (kept_steps p == 0) (depth p.state == 0) NoKeptStep OutermostFrame refl refl (omega arith)
orderly (command.Redo count) p = alone (length p.ahead == 0) NothingToRedo refl
orderly (command.Edit e) p = of-fault (edit_fault p.state e)
orderly (command.Add (stops.Breakpoint slot)) p = three (not (starts p slot)) (nat_le most_breaks (length p.breaks)) (has p.breaks slot) NoStart refl (omega arith)
orderly (command.Add (stops.Watch address)) p = three (not (present p address 1)) (nat_le most_watches (length p.watches)) (has p.watches address) AddressNotPresent refl (omega arith)
orderly (command.Remove (stops.Breakpoint slot)) p = alone (not (has p.breaks slot)) ThereOrNot refl
orderly (command.Remove (stops.Watch address)) p = alone (not (has p.watches address)) ThereOrNot refl
orderly (command.Show (views.Bytes address span)) p = alone (not (present p address span)) AddressNotPresent refl
orderly (command.Show (views.Instructions slot span)) p = alone (not (starts p slot)) NoStart refl
orderly (command.Show (views.LastWrite address)) p = alone (not (present p address 1)) AddressNotPresent refl
orderly (command.Show views.Registers) p = (tt, tt)
orderly (command.Show views.Frames) p = (tt, tt)
orderly (command.Show views.Breaks) p = (tt, tt)
orderly (command.Show views.History) p = (tt, tt)
orderly (command.Show views.Trace) p = (tt, tt)
orderly command.Quit p = (tt, tt)

first-untold : (rs : List Refusal) (r : Refusal) → Some r ≡ first rs → Untold rs → gap_of (Err r) ≡ None
first-untold [] r e all = absurd cc
first-untold (q ∷ rs) r e all = let is : r ≡ q = cc in ap (λ (x : Refusal). gap_of (Err x)) is ∙ all.0

first-is : (rs : List Refusal) (r : Refusal) (p : Point) (o : Outcome) → Some r ≡ first rs → unless_refused rs p o ≡ refused r p
first-is [] r p o e = absurd cc
first-is (q ∷ rs) r p o e = let is : q ≡ r = cc in ap (λ (x : Refusal). refused x p) is

pub none-first : (rs : List Refusal) → None ≡ first rs → rs ≡ []
none-first [] e = refl
none-first (r ∷ rs) e = absurd cc

module _ {K : Type 0} (holds : K → List Kept → Type 0) (refusals room : K → ℕ) (s : SessionValue K) where
  -- a refused command, at one of the points where the session stands
  pub refused_obeys : (c : Command) (r : Refusal) (meaning : Option ℕ → Point → Outcome) → ((h : Track) → HasPast holds s h → Some r ≡ first (refusals_of c (point_of s h))) → (t : Track) → HasPast holds s t
      → Obeys holds refusals room s s (λ gap p. unless_refused (refusals_of c p) p (meaning gap p)) (Err r)
  refused_obeys c r meaning says t past = record {
    answered = λ h st. sym (ap (λ (o : Outcome). o.answer) (is h st));
    stands = λ h st. subst (λ (o : Outcome). StandsAt holds s o.point) (sym (is h st)) (refl, st);
    counted = rw (first-untold (refusals_of c (point_of s t)) r (says t past) (orderly c (point_of s t)).1) refl;
    bounds = refl;
    there = tt;
  }
    where
      is : (h : Track) → HasPast holds s h → unless_refused (refusals_of c (point_of s h)) (point_of s h) (meaning (gap_of (Err r)) (point_of s h)) ≡ refused r (point_of s h)
      is h st = first-is _ r (point_of s h) _ (says h st)

-- ---- what holds of a command that is not refused

pub is-there : {A : Type 0} (o : Option A) → is_some o ≡ true → IsSome o
is-there None e = absurd cc
is-there (Some x) e = refl

off : (test : Bool) (r : Refusal) → when test r ≡ [] → test ≡ false
off true r e = absurd cc
off false r e = refl

off-both : (test : Bool) (r : Refusal) (rs : List Refusal) → when test r ++ rs ≡ [] → (test ≡ false) × (rs ≡ [])
off-both true r rs e = absurd cc
off-both false r rs e = (refl, e)

on : (test : Bool) → not test ≡ false → test ≡ true
on true e = refl
on false e = absurd cc

pub runs_on : (goal : Goal) (p : Point) → refusals_of (command.Forward goal) p ≡ [] → has_ended p.state.status ≡ false
runs_on (goals.Steps count) p e = off (has_ended p.state.status) MachineEnded e
runs_on goals.Next p e = off (has_ended p.state.status) MachineEnded e
runs_on goals.Continue p e = off (has_ended p.state.status) MachineEnded e
runs_on goals.Finish p e = (off-both (has_ended p.state.status) MachineEnded _ e).0

pub is_editable : (e : Edit) (p : Point) → refusals_of (command.Edit e) p ≡ [] → IsEditable p.state e
is_editable e p none = at (edit_fault p.state e) none
  where
    at : (f : Option EditFault) → fault_refusals f ≡ [] → f ≡ None
    at None none = refl
    at (Some f) none = absurd cc

pub some_kept : (count : ℕ) (p : Point) → refusals_of (command.Back (targets.Steps count)) p ≡ [] → 1 ≤ kept_steps p
some_kept count p e = let none = off (kept_steps p == 0) NoKeptStep e in grind (arith, nat_tests)

pub in_sight : (view : View) (p : Point) → refusals_of (command.Show view) p ≡ [] → IsInSight view p.state
in_sight (views.Bytes address span) p e = let is : present p address span ≡ true = on (present p address span) (off (not (present p address span)) AddressNotPresent e) in is-there _ is
in_sight (views.Instructions slot span) p e = let is : starts p slot ≡ true = on (starts p slot) (off (not (starts p slot)) NoStart e) in is-there _ is
in_sight (views.LastWrite address) p e = tt
in_sight views.Registers p e = tt
in_sight views.Frames p e = tt
in_sight views.Breaks p e = tt
in_sight views.History p e = tt
in_sight views.Trace p e = tt
