-- Facts about the meaning of commands and of scripts, in the words of those who use them.
use Rattle.std.specs.Prelude.{◌≡◌, ◌≢◌, ◌<◌, ◌≤◌, ◌-◌, ◌^◌, ◌+◌, ◌⊎◌, ◌↔◌, if◌then◌else◌, ◌&&◌, ℕ, suc, Bool, true, false, List, [], ◌∷◌, length, map, min, take, drop, reverse, ◌++◌, count_by, slice_get, Option, Some, None, Result, Ok, Err, IsTrue, option_map, is_ok}
use Rattle.bpf_session.specs.Points.{Point, Bounds, without_ahead}
use Rattle.bpf_ring.specs.Runs.{state_after}
use Rattle.bpf_steps.specs.State.{State, depth}
use Rattle.bpf_entries.specs.Status.{has_ended}
use Rattle.bpf_machine.specs.Moves.{moved}
use Rattle.bpf_journal.specs.Histories.{Record, is_step}
use Rattle.bpf_journal.specs.Tracks.{Track}
use Rattle.bpf_session.specs.Backward.{before_last, marks}
use Rattle.bpf_session.specs.Redo.{state_ahead}
use Rattle.bpf_session.specs.Stops.{breaks_at, watch_differs}
use Rattle.bpf_session.specs.Refused.{refusals_of}
use Rattle.bpfdb_script.specs.Refusals.{number_of}
use Rattle.bpf_session.specs.Meaning.{does}
use Rattle.bpf_entries.specs.Keeping.{Kept}
use Rattle.bpf_session.specs.Outcomes.{Outcome}
use Rattle.bpf_session.specs.Runs.{Exchange, Prints, PrintsWhole, Standing}
use Rattle.bpf_session.specs.Sessions.{HasPast, Obeys, SessionValue, StandsAt, gap_of, point_of, refusals_after_all}
use Rattle.bpf_session.specs.Output.{first_gap, is_quit, later_gaps, walk}
use Rattle.bpfdb_script.specs.Commands.{Answer, command_of}
use Rattle.bpfdb_script.specs.declared.command.Command.{Command}
use Rattle.bpfdb_script.specs.declared.command.Command.TheVariants as command
use Rattle.bpfdb_script.specs.declared.command.Goal.{Goal}
use Rattle.bpfdb_script.specs.declared.command.Goal.TheVariants as goal
use Rattle.bpfdb_script.specs.declared.command.Target.{Target}
use Rattle.bpfdb_script.specs.declared.command.Target.TheVariants as target
use Rattle.bpfdb_script.specs.declared.refusal.Refusal.{Refusal}
use Rattle.bpfdb_script.specs.declared.refusal.Refusal.TheVariants.{OutOfMemory}
use Rattle.bpf_session.specs.declared.reply.Reply.{Reply}
use Rattle.bpfdb_script.specs.declared.why.Why.{Why}
use Rattle.bpf_session.specs.declared.reply.Reply.TheVariants.{Forward, Back, Redone}
use Rattle.bpfdb_script.specs.declared.why.Why.TheVariants.{End, Break, Watch, Done, Limit, Memory, Start}

-- A refused command changes nothing: neither history nor state, breakpoints or watches.
abbrev pub RefusedChangesNothing : Type 0
RefusedChangesNothing = (gap : Option ℕ) (b : Bounds) (c : Command) (p : Point) (refusal : Refusal)
    → (does gap b c p).answer ≡ Err refusal → (does gap b c p).point ≡ p

-- Commands that only show.
abbrev pub shows : Command → Bool
shows (command.Show view) = true
shows command.Quit = true
shows _ = false

-- They change nothing.
abbrev pub ShowsChangeNothing : Type 0
ShowsChangeNothing = (gap : Option ℕ) (b : Bounds) (c : Command) (p : Point) → IsTrue (shows c) → (does gap b c p).point ≡ p

-- Numbers in strictly ascending order.
abbrev pub Ascends : List ℕ → Type 0
Ascends [] = Unit {0}
Ascends (n ∷ []) = Unit {0}
Ascends (n ∷ m ∷ more) = (n < m) × Ascends (m ∷ more)

-- The refusals of a command that hold at a point stand in the order of their numbers: so the first, which is answered, is the least.
abbrev pub RefusalsAreInOrder : Type 0
RefusalsAreInOrder = (c : Command) (p : Point) → Ascends (map number_of (refusals_of c p))

-- What a command that goes forward is asked for, after k steps: `stepi` has taken as many as it counts, `nexti` is back at the depth where
-- it began or a smaller one, and `finish` at a smaller one.
abbrev pub IsDone : Goal → Point → ℕ → Type 0
IsDone (goal.Steps count) p k = k ≡ count
IsDone goal.Next p k = depth (state_after k p.state) ≤ depth p.state
IsDone goal.Finish p k = depth (state_after k p.state) < depth p.state
IsDone goal.Continue p k = ⊥

-- Why it stops after its k-th step: the machine has ended, a breakpoint is at pc, that step changed a watched byte, it is done, or it may
-- take no more steps.
abbrev pub IsReason : Why → ℕ → Goal → Point → ℕ → Type 0
IsReason End limit goal p k = has_ended (state_after k p.state).status ≡ true
IsReason Break limit goal p k = breaks_at p (state_after k p.state) ≡ true
IsReason Watch limit goal p k = watch_differs p (state_after (k - 1) p.state) (state_after k p.state) ≡ true
IsReason Done limit goal p k = IsDone goal p k
IsReason Limit limit goal p k = k ≡ limit
IsReason _ limit goal p k = ⊥

-- Their order.
abbrev pub rank : Why → ℕ
rank End = 1
rank Break = 2
rank Watch = 3
rank Done = 4
rank Limit = 5
rank _ = 6

-- It stops after the first step, of one at least, after which there is a reason, and tells the first one in their order. Only a keeper
-- that refuses a move ends it before.
pub record StopsFirst (limit : ℕ) (goal : Goal) (p : Point) (k : ℕ) (why : Why) : Type 0 where
  pub some : 1 ≤ k
  pub holds : why ≢ Memory → IsReason why limit goal p k
  pub first : (other : Why) → rank other < rank why → IsReason other limit goal p k → ⊥
  pub never : (j : ℕ) (other : Why) → 1 ≤ j → j < k → IsReason other limit goal p j → ⊥

abbrev pub TheFirstReasonStops : Type 0
TheFirstReasonStops = (gap : Option ℕ) (b : Bounds) (goal : Goal) (p : Point) (k : ℕ) (why : Why)
    → 1 ≤ b.limit → (does gap b (command.Forward goal) p).answer ≡ Ok (Forward k why) → StopsFirst b.limit goal p k why

-- No breakpoint is at a state between the first and the last one of a command that goes forward.
abbrev pub BreakpointsStop : Type 0
BreakpointsStop = (gap : Option ℕ) (b : Bounds) (c : Command) (p : Point) (k : ℕ) (why : Why)
    → (does gap b c p).answer ≡ Ok (Forward k why) → (j : ℕ) → 1 ≤ j → j < k → breaks_at p (state_after j p.state) ≡ false

-- No watched byte changes between the first and the last step of a command that goes forward.
abbrev pub WatchesStop : Type 0
WatchesStop = (gap : Option ℕ) (b : Bounds) (c : Command) (p : Point) (k : ℕ) (why : Why)
    → (does gap b c p).answer ≡ Ok (Forward k why) → (j : ℕ) → suc j < k → watch_differs p (state_after j p.state) (state_after (suc j) p.state) ≡ false

-- `nexti` that is done has come back to the depth where it began or a smaller one, and each state on the way was deeper. `finish` that is
-- done has come to a smaller one, and no state on the way was at one.
abbrev pub CallsRunAsOne : Type 0
CallsRunAsOne = (gap : Option ℕ) (b : Bounds) (p : Point) (k : ℕ) (why : Why) → 1 ≤ b.limit
    → ((does gap b (command.Forward goal.Next) p).answer ≡ Ok (Forward k why)
    → (why ≡ Done → depth (state_after k p.state) ≤ depth p.state)
    × ((j : ℕ) → 1 ≤ j → j < k → depth p.state < depth (state_after j p.state)))
    × ((does gap b (command.Forward goal.Finish) p).answer ≡ Ok (Forward k why)
    → (why ≡ Done → depth (state_after k p.state) < depth p.state)
    × ((j : ℕ) → j < k → depth p.state ≤ depth (state_after j p.state)))

-- A command that goes back takes back as many moves as it says, of those that are kept, and nothing else: the state before the last of
-- them comes back, the moves in front of it are still kept, and those that are taken back can be made again, before those that could be.
pub record TakesBack (k : ℕ) (p q : Point) : Type 0 where
  pub some : 1 ≤ k
  pub within : k ≤ length p.history
  pub last : Record
  pub there : slice_get p.history (k - 1) ≡ Some last
  pub back : q ≡ record p { history = drop k p.history; ahead = reverse (take k p.history) ++ p.ahead; state = last.before }

-- A count is 1 at least.
abbrev pub HasCount : Target → Type 0
HasCount (target.Commands count) = 1 ≤ count
HasCount (target.Steps count) = 1 ≤ count
HasCount _ = Unit {0}

abbrev pub TakesBackItsMoves : Type 0
TakesBackItsMoves = (gap : Option ℕ) (b : Bounds) (t : Target) (p : Point) (k : ℕ) (why : Why) → HasCount t
    → (does gap b (command.Back t) p).answer ≡ Ok (Back k why) → TakesBack k p (does gap b (command.Back t) p).point

-- Of the moves that are taken back, the last one among them, as many pass a test as were asked for. Where fewer are kept it is all of
-- them, and the answer is `start`.
pub record CountsBack (test : Record → Bool) (count : ℕ) (p : Point) (k : ℕ) (why : Why) : Type 0 where
  pub last : option_map test (slice_get p.history (k - 1)) ≡ Some true
  pub counted : count_by test (take k p.history) ≡ min count (count_by test p.history)
  pub done : (why ≡ Done) ↔ (count ≤ count_by test p.history)
  pub start : (why ≡ Start) ↔ (count_by test p.history < count)

-- `undo` counts marked moves, `reverse-stepi` steps.
abbrev pub CountsAreGoneBack : Type 0
CountsAreGoneBack = (gap : Option ℕ) (b : Bounds) (count : ℕ) (p : Point) (k : ℕ) (why : Why) → 1 ≤ count
    → ((does gap b (command.Back (target.Commands count)) p).answer ≡ Ok (Back k why) → CountsBack (λ r. r.mark) count p k why)
    × ((does gap b (command.Back (target.Steps count)) p).answer ≡ Ok (Back k why) → CountsBack (λ r. is_step r.move) count p k why)

-- The k-th last move is such a one, by its record and the state that it led to.
abbrev pub IsAt : (Record → State → Type 0) → Point → ℕ → Type 0
IsAt Sought p k = (r : Record) × (slice_get p.history (k - 1) ≡ Some r) × Sought r (before_last (k - 1) p)

-- The latest such move is the last that is taken back, and the answer tells why. Or none is kept, all moves are taken back, and the
-- answer is `start`.
pub record FindsLatest (Sought : Record → State → Type 0) (because : Why) (p : Point) (k : ℕ) (why : Why) : Type 0 where
  pub newer : (j : ℕ) → 1 ≤ j → j < k → IsAt Sought p j → ⊥
  pub found : why ≢ Start → (why ≡ because) × IsAt Sought p k
  pub start : why ≡ Start → (k ≡ length p.history) × (IsAt Sought p k → ⊥)

-- `reverse-nexti` looks for a step from the present depth or a smaller one, `reverse-finish` for a move from a smaller one, and
-- `reverse-continue` for a step from a breakpoint, or one that changed a watched byte.
abbrev pub IsSought : Target → Point → Record → State → Type 0
IsSought target.Next p r y = (is_step r.move ≡ true) × (depth r.before ≤ depth p.state)
IsSought target.Finish p r y = depth r.before < depth p.state
IsSought target.Continue p r y = (is_step r.move ≡ true) × ((breaks_at p r.before ≡ true) ⊎ (watch_differs p r.before y ≡ true))
IsSought _ p r y = ⊥

-- `reverse-continue` answers `break` where a breakpoint is at the pc that came back, and else `watch`.
abbrev pub TheLatestIsFound : Type 0
TheLatestIsFound = (gap : Option ℕ) (b : Bounds) (p : Point) (k : ℕ) (why : Why)
    → ((does gap b (command.Back target.Next) p).answer ≡ Ok (Back k why) → FindsLatest (IsSought target.Next p) Done p k why)
    × ((does gap b (command.Back target.Finish) p).answer ≡ Ok (Back k why) → FindsLatest (IsSought target.Finish p) Done p k why)
    × ((does gap b (command.Back target.Continue) p).answer ≡ Ok (Back k why)
    → FindsLatest (IsSought target.Continue p) (if breaks_at p (before_last k p) then Break else Watch) p k why)

-- Going back over the steps that a command took, or undoing it, gives back the point in front of it, its history, state, breakpoints and
-- watches, where none of the history was dropped for them. (What was taken back before the command is forgotten.)
pub record GivesBack (later : Option ℕ) (b : Bounds) (k : ℕ) (p q : Point) : Type 0 where
  pub reverse : without_ahead (does later b (command.Back (target.Steps k)) q).point ≡ without_ahead p
  pub undo : without_ahead (does later b (command.Back (target.Commands 1)) q).point ≡ without_ahead p

abbrev pub GoingBackGivesBack : Type 0
GoingBackGivesBack = (gap later : Option ℕ) (b : Bounds) (c : Command) (p : Point) (k : ℕ) (why : Why)
    → (does gap b c p).answer ≡ Ok (Forward k why) → length (does gap b c p).point.history ≡ k + length p.history
    → GivesBack later b k p (does gap b c p).point

-- What was gone back over comes again: the same command from there has the same reply, and leaves the same point.
abbrev pub ReplayIsTheSame : Type 0
ReplayIsTheSame = (gap later : Option ℕ) (b : Bounds) (c : Command) (p : Point) (k : ℕ) (why : Why)
    → (does gap b c p).answer ≡ Ok (Forward k why) → length (does gap b c p).point.history ≡ k + length p.history
    → does gap b c (does later b (command.Back (target.Steps k)) (does gap b c p).point).point ≡ does gap b c p

-- A command that was given, and the gap of its moves: None where the keeper kept each of them.
pub record Given : Type 0 where
  pub command : Command
  pub gap : Option ℕ

abbrev pub outcome_of : Bounds → Given → Point → Outcome
outcome_of b given p = does given.gap b given.command p

-- The point after commands.
abbrev pub after : Bounds → List Given → Point → Point
after b [] p = p
after b (given ∷ more) p = after b more (outcome_of b given p).point

-- Whether a command that isn't refused makes new moves.
abbrev pub is_new : Command → Bool
is_new (command.Forward goal) = true
is_new (command.Edit e) = true
is_new _ = false

-- How many moves a new command made, by its reply: as many steps as it says, or one edit.
abbrev pub made : Reply → ℕ
made (Forward k why) = k
made _ = 1

-- A command that was accepted and made new moves, and all of these and of those from before it are kept.
pub record IsKept (b : Bounds) (given : Given) (p : Point) : Type 0 where
  pub new : IsTrue (is_new given.command)
  pub reply : Reply
  pub accepted : (outcome_of b given p).answer ≡ Ok reply
  pub kept : length (outcome_of b given p).point.history ≡ made reply + length p.history

-- The same of commands, one after another.
abbrev pub AllKept : Bounds → List Given → Point → Type 0
AllKept b [] p = Unit {0}
AllKept b (given ∷ more) p = IsKept b given p × AllKept b more (outcome_of b given p).point

-- `undo` of as many commands as were given, forward commands and edits of which none dropped a move, gives back the point in front of
-- the first of them.
abbrev pub CommandsAreUndone : Type 0
CommandsAreUndone = (later : Option ℕ) (b : Bounds) (given : Given) (more : List Given) (p : Point) → AllKept b (given ∷ more) p
    → without_ahead (does later b (command.Back (target.Commands (1 + length more))) (after b (given ∷ more) p)).point ≡ without_ahead p

-- `undo` of n gives back the point in front of the n-th last marked record that is kept, whatever commands made the records behind it.
pub record GoesToTheMark (n : ℕ) (p q : Point) : Type 0 where
  pub newer : ℕ
  pub found : Record
  pub there : slice_get p.history newer ≡ Some found
  pub marked : found.mark ≡ true
  pub last : count_by (λ r. r.mark) (take newer p.history) + 1 ≡ n
  pub back : q ≡ record p { history = drop (newer + 1) p.history; ahead = reverse (take (newer + 1) p.history) ++ p.ahead; state = found.before }

abbrev pub UndoGoesToTheMark : Type 0
UndoGoesToTheMark = (gap : Option ℕ) (b : Bounds) (n : ℕ) (p : Point) → 1 ≤ n → n ≤ marks p → GoesToTheMark n p (does gap b (command.Back (target.Commands n)) p).point

-- All moves of a point, the newest first: those that were taken back, and those that are kept.
abbrev pub all_moves : Point → List Record
all_moves p = reverse p.ahead ++ p.history

-- The state after the last one of them.
abbrev pub last_state : Point → State
last_state p = state_ahead (length p.ahead) p.ahead p.state

-- Each kept move leads to the state before the next newer one, and the newest to x.
abbrev pub LeadsTo : List Record → State → Type 0
LeadsTo [] x = Unit {0}
LeadsTo (r ∷ h) x = (x ≡ moved r.before r.move) × LeadsTo h r.before

-- The moves that were taken back lead on from x.
abbrev pub LeadsOn : State → List Record → Type 0
LeadsOn x [] = Unit {0}
LeadsOn x (r ∷ f) = (r.before ≡ x) × LeadsOn (moved x r.move) f

-- So a point's moves lead to its state and on from it, as those of each session do.
abbrev pub IsPlaced : Point → Type 0
IsPlaced p = LeadsTo p.history p.state × LeadsOn p.state p.ahead

-- The point after the last of them that made new moves: a forward command or an edit that was accepted; n where there is none.
abbrev pub after_new : Bounds → List Given → Point → Point → Point
after_new b [] p n = n
after_new b (given ∷ more) p n =
    let o = outcome_of b given p in
    after_new b more o.point (if is_new given.command && is_ok o.answer then o.point else n)

-- From the point n, which p is or at which nothing had been taken back, no move was lost on the way to q: all moves and the last state are
-- those of n, and lead to q's state and on from it. `redo` of everything gives them back: they are the history and the state, nothing is
-- left to be made again, and breakpoints and watches stay as they are at q.
pub record LosesNothing (b : Bounds) (p n q : Point) : Type 0 where
  pub since : (n ≡ p) ⊎ (n.ahead ≡ [])
  pub moves : all_moves q ≡ all_moves n
  pub last : last_state q ≡ last_state n
  pub placed : IsPlaced q
  pub redo : (count : ℕ) → length q.ahead ≤ count
      → (does None b (command.Redo count) q).point ≡ record q { history = all_moves n; ahead = []; state = last_state n }

-- Nothing is lost, whatever commands are given: from after the last accepted forward command or edit, or from the start where there is
-- none. Going back, `redo`, what is refused, what only shows, and a change of breakpoints or watches lose no move. Where a list's memory
-- is refused, a command that is refused for it loses none either, a forward command that ends by it made the moves before, and a `redo`
-- that ends by it leaves the others to be made again.
abbrev pub NothingIsLost : Type 0
NothingIsLost = (b : Bounds) (commands : List Given) (p : Point)
    → IsPlaced p → LosesNothing b p (after_new b commands p p) (after b commands p)

-- The commands that a script's lines say, up to the first `quit`, each with the gap of its line.
abbrev pub given_by : Option ℕ → Answer → List Given → List Given
given_by gap (Ok (Some command)) more = if is_quit command then [] else record { command = command; gap = gap } ∷ more
given_by gap _ more = more

abbrev pub commands_of : List (Option ℕ) → List (List ℕ) → List Given
commands_of gaps [] = []
commands_of gaps (line ∷ lines) = given_by (first_gap gaps) (command_of line) (commands_of (later_gaps gaps) lines)

-- So a script loses nothing: it ends where its commands lead.
abbrev pub ScriptsLoseNothing : Type 0
ScriptsLoseNothing = (gaps : List (Option ℕ)) (b : Bounds) (lines : List (List ℕ)) (p : Point) → IsPlaced p
    → ((walk gaps b lines p).final ≡ after b (commands_of gaps lines) p)
    × LosesNothing b p (after_new b (commands_of gaps lines) p p) (walk gaps b lines p).final

-- At the point of each session, of which the proofs of its commands speak, moves lead to its state and on from it.
module _ {K : Type 0} (holds : K → List Kept → Type 0) where
  abbrev pub SessionsArePlaced : Type 0
  SessionsArePlaced = (s : SessionValue K) (p : Point) → StandsAt holds s p → IsPlaced p

-- Where the gaps of a script made no refusal more, and the count of refusals isn't at its last value, no gap did anything.
abbrev pub NothingRefusedNothingMissing : Type 0
NothingRefusedNothingMissing = (gaps : List (Option ℕ)) (refusals : ℕ) (b : Bounds) (lines : List (List ℕ)) (p : Point)
    → refusals < 2 ^ 64 - 1 → refusals_after_all gaps refusals ≡ refusals → walk gaps b lines p ≡ walk [] b lines p

-- The same of a whole script, by what its run leaves.
abbrev pub NothingRefusedAllPrinted : Type 0
NothingRefusedAllPrinted = (from to : Standing) (x : Exchange)
    → from.refusals < 2 ^ 64 - 1 → to.refusals ≡ from.refusals → Prints from to x → PrintsWhole from to x

-- A keeper that refuses no push, as one that takes all its memory when it is opened: its count of refusals is 0, whatever it holds.
abbrev pub RefusesNone : {K : Type 0} → (K → ℕ) → Type 0
RefusesNone {K = K} refused = (keeper : K) → refused keeper ≡ 0

module _ {K : Type 0} (holds : K → List Kept → Type 0) (refused room : K → ℕ) where
  -- Over a keeper that refuses no push no answer tells of want of memory: no command is refused for it, and none ends by it.
  abbrev pub NoAnswerIsOfMemory : Type 0
  NoAnswerIsOfMemory = RefusesNone refused
      → (old new : SessionValue K) (meaning : Option ℕ → Point → Outcome) (answer : Result Reply Refusal)
      → Obeys holds refused room old new meaning answer
      → (answer ≢ Err OutOfMemory) × ((k : ℕ) → (answer ≢ Ok (Forward k Memory)) × (answer ≢ Ok (Redone k Memory)))

  -- What a command answers, and where it leaves the session, is then what it means where each of its moves is kept.
  abbrev pub EachMoveIsKept : Type 0
  EachMoveIsKept = RefusesNone refused
      → (old new : SessionValue K) (meaning : Option ℕ → Point → Outcome) (answer : Result Reply Refusal)
      → Obeys holds refused room old new meaning answer
      → (h : Track) → HasPast holds old h
      → (answer ≡ (meaning None (point_of old h)).answer) × StandsAt holds new (meaning None (point_of old h)).point

-- Two sessions over two keepers, as a ring and a list, that stand at one point and obey one command, of whose moves neither keeper refused
-- one: they answer alike, and stand at one point again.
module _ {K L : Type 0} (holds : K → List Kept → Type 0) (refused room : K → ℕ)
    (holds' : L → List Kept → Type 0) (refused' room' : L → ℕ) where
  abbrev pub KeepersAnswerAlike : Type 0
  KeepersAnswerAlike =
      (old new : SessionValue K) (old' new' : SessionValue L) (meaning : Option ℕ → Point → Outcome)
      (answer answer' : Result Reply Refusal) (p : Point)
      → StandsAt holds old p → Obeys holds refused room old new meaning answer → gap_of answer ≡ None
      → StandsAt holds' old' p → Obeys holds' refused' room' old' new' meaning answer' → gap_of answer' ≡ None
      → (answer ≡ answer') × ((q : Point) × StandsAt holds new q × StandsAt holds' new' q)
