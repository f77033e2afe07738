-- The laws of refusals, of going back and forward again, and of scripts.
use Rattle.std.proofs.Common.{◌≡◌, ◌+◌, ◌-◌, ◌^◌, ◌≤◌, ℕ, zero, suc, Bool, true, false, List, [], ◌∷◌, Option, Some, None, Ok, Err, is_some, unwrap_or, length, refl, sym, ap, ◌∙◌, arith}
use Rattle.std.specs.Prelude.{if◌then◌else◌, nat_lt, nat_le, ◌==◌, min, count_by, cond, option_map, drop}
use Rattle.std.proofs.lemmas.Bool.Decides.{nat_tests}
use Rattle.bpf_steps.specs.State.{State}
use Rattle.bpf_machine.specs.declared.moves.Move.TheVariants.{Step}
use Rattle.bpf_entries.specs.Keeping.{fit, keep}
use Rattle.bpf_journal.specs.Histories.{Record, is_step, record_weight}
use Rattle.bpf_journal.specs.Timelines.{record_of}
use Rattle.bpf_session.specs.Points.{Point, Bounds, without_ahead}
use Rattle.bpf_session.specs.Outcomes.{Outcome, refused, replied, unless_refused}
use Rattle.bpf_ring.specs.Runs.{state_after}
use Rattle.bpf_session.specs.Forward.{kept, gone, still_ahead, stop, steps, least, reason, taken, cut, forward}
use Rattle.bpf_session.specs.Redo.{again, cut_again, redone, why_again}
use Rattle.bpf_journal.specs.Lookups.{Test, latest, state_before}
use Rattle.bpf_session.specs.Backward.{back, before_last, back_by, found, to_stop, marks, kept_steps}
use Rattle.bpf_session.specs.Refused.{refusals_of}
use Rattle.bpf_session.specs.Meaning.{accepted, does}
use Rattle.bpf_session.specs.Sessions.{refusals_after_all}
use Rattle.bpfdb_script.specs.Commands.{command_of}
use Rattle.bpf_session.specs.Output.{effect, after_effect}
use Rattle.bpf_session.specs.Laws.{RefusedChangesNothing, ShowsChangeNothing, RefusalsAreInOrder, ReplayIsTheSame, GoingBackGivesBack, NothingRefusedNothingMissing}
use Rattle.bpf_session.proofs.Accepting.{orderly}
use Rattle.bpf_session.proofs.BackwardLaws.{count-more}
use Rattle.bpf_session.proofs.ForwardLaws.{does-forward, goal-told, least-from}
use Rattle.bpfdb_script.specs.declared.command.Command.{Command}
use Rattle.bpfdb_script.specs.declared.command.Command.TheVariants as command
use Rattle.bpfdb_script.specs.declared.command.Goal.TheVariants as goals
use Rattle.bpfdb_script.specs.declared.command.Goal.{Goal}
use Rattle.bpfdb_script.specs.declared.command.Target.{Target}
use Rattle.bpfdb_script.specs.declared.command.Target.TheVariants as targets
use Rattle.bpf_session.specs.declared.reply.Reply.TheVariants.{Forward}
use Rattle.bpfdb_script.specs.declared.why.Why.{Why}
use Rattle.bpfdb_script.specs.declared.why.Why.TheVariants.{Limit, Memory}
use Rattle.bpfdb_script.specs.declared.refusal.Refusal.{Refusal}
use Rattle.bpfdb_script.specs.declared.refusal.Refusal.TheVariants.{OutOfMemory}

-- ---- a refused command

cut-refused : (gap : Option ℕ) (room k : ℕ) (why : Why) (p : Point) (r : Refusal) → (cut gap room k why p).answer ≡ Err r → (cut gap room k why p).point ≡ p
cut-refused None room k why p r e = absurd cc
cut-refused (Some m) room k why p r e = test (nat_lt m k) (m == 0) e
  where
    test : (less first : Bool) → (if less then (if first then refused OutOfMemory p else taken room m Memory p) else taken room k why p).answer ≡ Err r → (if less then (if first then refused OutOfMemory p else taken room m Memory p) else taken room k why p).point ≡ p
    test true true e = refl
    test true false e = absurd cc
    test false first e = absurd cc

again-refused : (gap : Option ℕ) (k : ℕ) (why : Why) (p : Point) (r : Refusal) → (cut_again gap k why p).answer ≡ Err r → (cut_again gap k why p).point ≡ p
again-refused None k why p r e = absurd cc
again-refused (Some m) k why p r e = test (nat_lt m k) (m == 0) e
  where
    test : (less first : Bool) → (if less then (if first then refused OutOfMemory p else redone m Memory p) else redone k why p).answer ≡ Err r → (if less then (if first then refused OutOfMemory p else redone m Memory p) else redone k why p).point ≡ p
    test true true e = refl
    test true false e = absurd cc
    test false first e = absurd cc

to_stop-refused : (found : Option ℕ) (p : Point) (r : Refusal) → (to_stop found p).answer ≡ Err r → (to_stop found p).point ≡ p
to_stop-refused None p r e = absurd cc
to_stop-refused (Some k) p r e = absurd cc

back-refused : (target : Target) (p : Point) (r : Refusal) → (back target p).answer ≡ Err r → (back target p).point ≡ p
back-refused (targets.Commands count) p r e = absurd cc
back-refused (targets.Steps count) p r e = absurd cc
back-refused targets.Next p r e = absurd cc
back-refused targets.Continue p r e = to_stop-refused (found targets.Continue 1 p) p r e
back-refused targets.Finish p r e = absurd cc

accepted-refused : (gap : Option ℕ) (b : Bounds) (c : Command) (p : Point) (r : Refusal) → (accepted gap b c p).answer ≡ Err r → (accepted gap b c p).point ≡ p
unfolding accepted
accepted-refused gap b (command.Forward goal) p r e = cut-refused gap b.room _ _ p r e
accepted-refused gap b (command.Back target) p r e = back-refused target p r e
accepted-refused gap b (command.Redo count) p r e = again-refused gap (again count p) (why_again count p) p r e
accepted-refused None b (command.Edit change) p r e = absurd cc
accepted-refused (Some m) b (command.Edit change) p r e = refl
accepted-refused gap b (command.Add stop) p r e = absurd cc
accepted-refused gap b (command.Remove stop) p r e = absurd cc
accepted-refused gap b (command.Show view) p r e = refl
accepted-refused gap b command.Quit p r e = refl

unless-refused : (rs : List Refusal) (p : Point) (o : Outcome) (r : Refusal) → (o.answer ≡ Err r → o.point ≡ p) → (unless_refused rs p o).answer ≡ Err r → (unless_refused rs p o).point ≡ p
unless-refused [] p o r rest e = rest e
unless-refused (q ∷ rs) p o r rest e = refl

pub refused-changes-nothing : RefusedChangesNothing
refused-changes-nothing gap b c p r e = unless-refused (refusals_of c p) p (accepted gap b c p) r (accepted-refused gap b c p r) e

-- ---- shows

unless-same : (rs : List Refusal) (p : Point) (o : Outcome) → o.point ≡ p → (unless_refused rs p o).point ≡ p
unless-same [] p o same = same
unless-same (q ∷ rs) p o same = refl

pub shows-change-nothing : ShowsChangeNothing
unfolding accepted
shows-change-nothing gap b (command.Forward goal) p show = absurd cc
shows-change-nothing gap b (command.Back target) p show = absurd cc
shows-change-nothing gap b (command.Redo count) p show = absurd cc
shows-change-nothing gap b (command.Edit change) p show = absurd cc
shows-change-nothing gap b (command.Add stop) p show = absurd cc
shows-change-nothing gap b (command.Remove stop) p show = absurd cc
shows-change-nothing gap b (command.Show view) p show = unless-same (refusals_of (command.Show view) p) p _ refl
shows-change-nothing gap b command.Quit p show = refl

pub refusals-are-in-order : RefusalsAreInOrder
refusals-are-in-order c p = (orderly c p).0

-- ---- gaps that made no refusal

-- refusals never sink
refusals-rise : (gaps : List (Option ℕ)) (n : ℕ) → n ≤ 2 ^ 64 - 1 → n ≤ refusals_after_all gaps n
refusals-rise [] n most = omega arith
refusals-rise (None ∷ gaps) n most = refusals-rise gaps n most
refusals-rise (Some m ∷ gaps) n most = let r = refusals-rise gaps (min (n + 1) (2 ^ 64 - 1)) (omega arith) in omega (arith, r)

pub nothing-refused-nothing-missing : NothingRefusedNothingMissing
nothing-refused-nothing-missing [] n b lines p low same = refl
nothing-refused-nothing-missing (gap ∷ gaps) n b [] p low same = refl
nothing-refused-nothing-missing (None ∷ gaps) n b (line ∷ lines) p low same =
    let e = effect None b (command_of line) p in
    ap (after_effect e lines) (nothing-refused-nothing-missing gaps n b lines e.point low same)
nothing-refused-nothing-missing (Some m ∷ gaps) n b (line ∷ lines) p low same = absurd (let r = refusals-rise gaps (min (n + 1) (2 ^ 64 - 1)) (omega arith) in omega (arith, r, same))

-- ---- going back

-- records with marks, and those of steps
abbrev pub marked : Test
marked r y = r.mark

abbrev stepped : Test
stepped r y = is_step r.move

-- the history of k steps where none is dropped
abbrev pub told : ℕ → Point → List Record
told zero p = p.history
told (suc k) p = record_of (state_after k p.state) Step (k == 0) ∷ told k p

-- what is left of a list is no longer, and where it is as long it is whole
fit-at-most : (weigh : Record → ℕ) (room : ℕ) (h : List Record) → length (fit weigh room h) ≤ length h
unfolding fit
fit-at-most weigh room [] = omega arith
fit-at-most weigh room (r ∷ h) = at (nat_le (weigh r) room) (fit-at-most weigh (room - weigh r) h)
  where
    at : (v : Bool) → length (fit weigh (room - weigh r) h) ≤ length h → length (if v then r ∷ fit weigh (room - weigh r) h else []) ≤ length (r ∷ h)
    at true rest = omega arith
    at false rest = omega arith

pub fit-whole : (weigh : Record → ℕ) (room : ℕ) (h : List Record) → length (fit weigh room h) ≡ length h → fit weigh room h ≡ h
unfolding fit
fit-whole weigh room [] e = refl
fit-whole weigh room (r ∷ h) e = at (nat_le (weigh r) room) e (fit-whole weigh (room - weigh r) h)
  where
    at : (v : Bool) → length (if v then r ∷ fit weigh (room - weigh r) h else []) ≡ length (r ∷ h) → (length (fit weigh (room - weigh r) h) ≡ length h → fit weigh (room - weigh r) h ≡ h) → (if v then r ∷ fit weigh (room - weigh r) h else []) ≡ r ∷ h
    at true e rest = ap (λ (xs : List Record). r ∷ xs) (rest (omega arith))
    at false e rest = absurd (omega arith)

kept-at-most : (room k : ℕ) (p : Point) → length (kept room k p) ≤ k + length p.history
kept-at-most room zero p = omega arith
kept-at-most room (suc k) p =
    let f = fit-at-most record_weight room (record_of (state_after k p.state) Step (k == 0) ∷ kept room k p) in
    let i = kept-at-most room k p in
    omega arith

pub kept-told : (room k : ℕ) (p : Point) → length (kept room k p) ≡ k + length p.history → kept room k p ≡ told k p
kept-told room zero p e = refl
kept-told room (suc k) p e =
    let r = record_of (state_after k p.state) Step (k == 0) in
    let f = fit-at-most record_weight room (r ∷ kept room k p) in
    let i = kept-at-most room k p in
    fit-whole record_weight room (r ∷ kept room k p) (omega arith) ∙ ap (λ (xs : List Record). r ∷ xs) (kept-told room k p (omega arith))

pub drop-told : (k : ℕ) (p : Point) → drop k (told k p) ≡ p.history
drop-told zero p = refl
drop-told (suc k) p = drop-told k p

pub oldest-told : (k : ℕ) (p : Point) (y : State) → state_before (suc k) (told (suc k) p) y ≡ p.state
oldest-told zero p y = refl
oldest-told (suc k) p y = oldest-told k p (state_after (suc k) p.state)

-- k steps from a point
abbrev pub gone-told : ℕ → Point → Point
gone-told k p = record p { history = told k p; ahead = still_ahead k p.ahead; state = state_after k p.state }

back-told : (k : ℕ) (p : Point) → 1 ≤ k → without_ahead (back_by k (gone-told k p)) ≡ without_ahead p
back-told zero p some = absurd (omega arith)
back-told (suc k) p some =
    ap (λ (h : List Record). record p { history = h; ahead = []; state = before_last (suc k) (gone-told (suc k) p) }) (drop-told k p)
    ∙ ap (λ (x : State). record p { ahead = []; state = x }) (oldest-told k p (state_after (suc k) p.state))

pub marked-told : (k : ℕ) (p : Point) (y : State) → latest marked 1 (told (suc k) p) y ≡ Some (suc k)
marked-told zero p y = refl
marked-told (suc k) p y = let e : (suc k == 0) ≡ false = grind (arith, nat_tests) in rw e (ap (option_map suc) (marked-told k p (state_after (suc k) p.state)))

marks-told : (k : ℕ) (p : Point) → 1 ≤ count_by (λ r. r.mark) (told (suc k) p)
marks-told zero p =
    let e = count-more (λ r. r.mark) (record_of p.state Step true) p.history in
    let one : cond {A = ℕ} true 1 0 ≡ 1 = refl in
    omega (arith, e, one)
marks-told (suc k) p =
    let i = marks-told k p in
    let e = count-more (λ r. r.mark) (record_of (state_after (suc k) p.state) Step (suc k == 0)) (told (suc k) p) in
    omega (arith, e, i)

stepped-told : (k : ℕ) (p : Point) (y : State) → latest stepped (suc k) (told (suc k) p) y ≡ Some (suc k)
stepped-told zero p y = refl
stepped-told (suc k) p y = let e : (suc (suc k) == 1) ≡ false = grind (arith, nat_tests) in let d : suc (suc k) - 1 ≡ suc k = omega arith in rw (e, d) (ap (option_map suc) (stepped-told k p (state_after (suc k) p.state)))

steps-told : (k : ℕ) (p : Point) → k ≤ count_by (λ r. is_step r.move) (told k p)
steps-told zero p = omega arith
steps-told (suc k) p =
    let i = steps-told k p in
    let e = count-more (λ r. is_step r.move) (record_of (state_after k p.state) Step (k == 0)) (told k p) in
    let one : cond {A = ℕ} true 1 0 ≡ 1 = refl in
    omega (arith, e, one, i)

undo-told : (b : Bounds) (later : Option ℕ) (k : ℕ) (p : Point) → 1 ≤ k → without_ahead (does later b (command.Back (targets.Commands 1)) (gone-told k p)).point ≡ without_ahead p
unfolding accepted
undo-told b later zero p some = absurd (omega arith)
undo-told b later (suc k) p some =
    let m = marks-told k p in
    let e : nat_lt (marks (gone-told (suc k) p)) 1 ≡ false = grind (arith, nat_tests) in
    rw e (ap (λ (o : Option ℕ). without_ahead (back_by (unwrap_or o (length (told (suc k) p))) (gone-told (suc k) p))) (marked-told k p (state_after (suc k) p.state)) ∙ back-told (suc k) p some)

reverse-told : (b : Bounds) (later : Option ℕ) (k : ℕ) (p : Point) → 1 ≤ k → without_ahead (does later b (command.Back (targets.Steps k)) (gone-told k p)).point ≡ without_ahead p
unfolding accepted
reverse-told b later zero p some = absurd (omega arith)
reverse-told b later (suc k) p some =
    let m = steps-told (suc k) p in
    let e : (kept_steps (gone-told (suc k) p) == 0) ≡ false = grind (arith, nat_tests) in
    let l : min (suc k) (kept_steps (gone-told (suc k) p)) ≡ suc k = omega arith in
    rw e (ap (λ n. without_ahead (back_by (unwrap_or (latest stepped n (told (suc k) p) (state_after (suc k) p.state)) (length (told (suc k) p))) (gone-told (suc k) p))) l
    ∙ ap (λ (o : Option ℕ). without_ahead (back_by (unwrap_or o (length (told (suc k) p))) (gone-told (suc k) p))) (stepped-told k p (state_after (suc k) p.state)) ∙ back-told (suc k) p some)

-- what a forward command leaves that says how many steps it took
pub cut-point : (gap : Option ℕ) (room n k : ℕ) (because why : Why) (p : Point) → 1 ≤ n → (cut gap room n because p).answer ≡ Ok (Forward k why) → ((cut gap room n because p).point ≡ gone room k p) × (1 ≤ k)
cut-point None room n k because why p some e = let s : n ≡ k = cc in (ap (λ j. gone room j p) s, omega arith)
cut-point (Some m) room n k because why p some e = test (nat_lt m n) (m == 0) refl e
  where
    test : (less first : Bool) → (m == 0) ≡ first → (if less then (if first then refused OutOfMemory p else taken room m Memory p) else taken room n because p).answer ≡ Ok (Forward k why) → ((if less then (if first then refused OutOfMemory p else taken room m Memory p) else taken room n because p).point ≡ gone room k p) × (1 ≤ k)
    test true true f e = absurd cc
    test true false f e = let s : m ≡ k = cc in let t : 1 ≤ m = grind (arith, nat_tests) in (ap (λ j. gone room j p) s, omega arith)
    test false first f e = let s : n ≡ k = cc in (ap (λ j. gone room j p) s, omega arith)

pub going-back-gives-back : GoingBackGivesBack
going-back-gives-back gap later b c p k why e all =
    let w = does-forward gap b c p k why e in
    let g = cut-point gap b.room (steps b.limit w.0 p) k (reason b.limit w.0 p) why p (least-from _ 1 b.limit) (ap (λ (o : Outcome). o.answer) (sym w.1) ∙ e) in
    let there : (does gap b c p).point ≡ gone b.room k p = ap (λ (o : Outcome). o.point) w.1 ∙ g.0 in
    let whole : length (kept b.room k p) ≡ k + length p.history = ap (λ (q : Point). length q.history) (sym there) ∙ all in
    let here : (does gap b c p).point ≡ gone-told k p = there ∙ ap (λ (h : List Record). record p { history = h; ahead = still_ahead k p.ahead; state = state_after k p.state }) (kept-told b.room k p whole) in
    record {
      reverse = ap (λ (q : Point). without_ahead (does later b (command.Back (targets.Steps k)) q).point) here ∙ reverse-told b later k p g.1;
      undo = ap (λ (q : Point). without_ahead (does later b (command.Back (targets.Commands 1)) q).point) here ∙ undo-told b later k p g.1;
    }

-- what was taken back makes no difference to a command that goes forward
kept-alike : (room k : ℕ) (p : Point) (f : List Record) → kept room k (record p { ahead = f }) ≡ kept room k p
kept-alike room zero p f = refl
kept-alike room (suc k) p f = ap (λ (h : List Record). keep record_weight room h (record_of (state_after k p.state) Step (k == 0))) (kept-alike room k p f)

gone-alike : (room k : ℕ) (p : Point) (f : List Record) → 1 ≤ k → gone room k (record p { ahead = f }) ≡ gone room k p
gone-alike room zero p f some = absurd (omega arith)
gone-alike room (suc k) p f some = ap (λ (h : List Record). record p { history = h; ahead = []; state = state_after (suc k) p.state }) (kept-alike room (suc k) p f)

stop-alike : (limit : ℕ) (goal : Goal) (p : Point) (f : List Record) (k : ℕ) → stop limit goal (record p { ahead = f }) k ≡ stop limit goal p k
stop-alike limit goal p f zero = refl
stop-alike limit goal p f (suc k) = refl

least-alike : (test other : ℕ → Bool) → ((k : ℕ) → test k ≡ other k) → (k n : ℕ) → least test k n ≡ least other k n
least-alike test other same k zero = refl
least-alike test other same k (suc n) = ap (λ (b : Bool). if b then k else least test (k + 1) n) (same k) ∙ ap (λ (m : ℕ). if other k then k else m) (least-alike test other same (k + 1) n)

steps-alike : (limit : ℕ) (goal : Goal) (p : Point) (f : List Record) → steps limit goal (record p { ahead = f }) ≡ steps limit goal p
steps-alike limit goal p f = least-alike _ _ (λ k. ap is_some (stop-alike limit goal p f k)) 1 limit

reason-alike : (limit : ℕ) (goal : Goal) (p : Point) (f : List Record) → reason limit goal (record p { ahead = f }) ≡ reason limit goal p
reason-alike limit goal p f =
    ap (λ (o : Option Why). unwrap_or o Limit) (stop-alike limit goal p f (steps limit goal (record p { ahead = f })) ∙ ap (stop limit goal p) (steps-alike limit goal p f))

cut-alike : (gap : Option ℕ) (room n : ℕ) (because : Why) (p : Point) (f : List Record) (k : ℕ) (why : Why) → 1 ≤ n → (cut gap room n because p).answer ≡ Ok (Forward k why) → cut gap room n because (record p { ahead = f }) ≡ cut gap room n because p
cut-alike None room n because p f k why some e = ap (replied (Forward n because)) (gone-alike room n p f some)
cut-alike (Some m) room n because p f k why some e = test (nat_lt m n) (m == 0) refl e
  where
    test : (less first : Bool) → (m == 0) ≡ first → (if less then (if first then refused OutOfMemory p else taken room m Memory p) else taken room n because p).answer ≡ Ok (Forward k why) → (if less then (if first then refused OutOfMemory (record p { ahead = f }) else taken room m Memory (record p { ahead = f })) else taken room n because (record p { ahead = f })) ≡ (if less then (if first then refused OutOfMemory p else taken room m Memory p) else taken room n because p)
    test true true z e = absurd cc
    test true false z e = let t : 1 ≤ m = grind (arith, nat_tests) in ap (replied (Forward m Memory)) (gone-alike room m p f t)
    test false first z e = ap (replied (Forward n because)) (gone-alike room n p f some)

refusals-alike : (goal : Goal) (p : Point) (f : List Record) → refusals_of (command.Forward goal) (record p { ahead = f }) ≡ refusals_of (command.Forward goal) p
refusals-alike (goals.Steps count) p f = refl
refusals-alike goals.Next p f = refl
refusals-alike goals.Continue p f = refl
refusals-alike goals.Finish p f = refl

forward-alike : (gap : Option ℕ) (b : Bounds) (goal : Goal) (p : Point) (f : List Record) (k : ℕ) (why : Why) → (unless_refused (refusals_of (command.Forward goal) p) p (forward gap b goal p)).answer ≡ Ok (Forward k why) → unless_refused (refusals_of (command.Forward goal) (record p { ahead = f })) (record p { ahead = f }) (forward gap b goal (record p { ahead = f })) ≡ unless_refused (refusals_of (command.Forward goal) p) p (forward gap b goal p)
forward-alike gap b goal p f k why e =
    ap (λ (rs : List Refusal). unless_refused rs (record p { ahead = f }) (forward gap b goal (record p { ahead = f }))) (refusals-alike goal p f)
    ∙ by (refusals_of (command.Forward goal) p) e
  where
    same : (cut gap b.room (steps b.limit goal p) (reason b.limit goal p) p).answer ≡ Ok (Forward k why) → forward gap b goal (record p { ahead = f }) ≡ forward gap b goal p
    same e =
        ap (λ (n : ℕ). cut gap b.room n (reason b.limit goal (record p { ahead = f })) (record p { ahead = f })) (steps-alike b.limit goal p f)
        ∙ ap (λ (w : Why). cut gap b.room (steps b.limit goal p) w (record p { ahead = f })) (reason-alike b.limit goal p f)
        ∙ cut-alike gap b.room (steps b.limit goal p) (reason b.limit goal p) p f k why (least-from _ 1 b.limit) e

    by : (rs : List Refusal) → (unless_refused rs p (forward gap b goal p)).answer ≡ Ok (Forward k why) → unless_refused rs (record p { ahead = f }) (forward gap b goal (record p { ahead = f })) ≡ unless_refused rs p (forward gap b goal p)
    by [] e = same e
    by (r ∷ rs) e = absurd cc

does-alike : (gap : Option ℕ) (b : Bounds) (c : Command) (p : Point) (f : List Record) (k : ℕ) (why : Why) → (does gap b c p).answer ≡ Ok (Forward k why) → does gap b c (record p { ahead = f }) ≡ does gap b c p
unfolding accepted
does-alike gap b c p f k why e =
    let g = goal-told gap b c p k why e in
    ap (λ (d : Command). does gap b d (record p { ahead = f })) g.1
    ∙ forward-alike gap b g.0 p f k why (ap (λ (d : Command). (does gap b d p).answer) (sym g.1) ∙ e)
    ∙ ap (λ (d : Command). does gap b d p) (sym g.1)

pub replay-is-the-same : ReplayIsTheSame
replay-is-the-same gap later b c p k why e all =
    let q = (does later b (command.Back (targets.Steps k)) (does gap b c p).point).point in
    let same : q ≡ record p { ahead = q.ahead } = ap (λ (z : Point). record z { ahead = q.ahead }) (going-back-gives-back gap later b c p k why e all).reverse in
    ap (does gap b c) same ∙ does-alike gap b c p q.ahead k why e
