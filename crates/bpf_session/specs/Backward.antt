-- A backward command looks a recorded state up.
use Rattle.std.specs.Prelude.{ℕ, ◌&&◌, ◌||◌, min, Option, Some, None, is_some, unwrap_or, length, drop, take, reverse, ◌++◌, count_by, nat_le, nat_lt, if◌then◌else◌}
use Rattle.bpf_steps.specs.State.{State, depth}
use Rattle.bpf_journal.specs.Histories.{is_step}
use Rattle.bpf_journal.specs.Lookups.{Test, latest, state_before}
use Rattle.bpf_session.specs.Points.{Point}
use Rattle.bpf_session.specs.Outcomes.{Outcome, replied}
use Rattle.bpf_session.specs.Stops.{breaks_at, watch_differs}
use Rattle.bpfdb_script.specs.declared.why.Why.{Why}
use Rattle.bpfdb_script.specs.declared.why.Why.TheVariants.{Done, Start, Break, Watch}
use Rattle.bpf_session.specs.declared.reply.Reply.TheVariants.{Back}
use Rattle.bpfdb_script.specs.declared.command.Target.{Target}
use Rattle.bpfdb_script.specs.declared.command.Target.TheVariants.{Commands, Steps, Next, Continue, Finish}

-- The state before the k-th last move; the present one for k = 0.
abbrev pub before_last : ℕ → Point → State
before_last k p = state_before k p.history p.state

-- That state comes back. The records from it on are taken off the history, and put in their order in front of those that were taken back
-- before.
abbrev pub back_by : ℕ → Point → Point
back_by k p = record p { history = drop k p.history; ahead = reverse (take k p.history) ++ p.ahead; state = before_last k p }

abbrev pub gone_back : ℕ → Why → Point → Outcome
gone_back k why p = replied (Back k why) (back_by k p)

-- Whether a command that is given at a point looks for a record, whose move led to y: `undo` for those with marks, `reverse-stepi` for
-- those of steps, `reverse-nexti` for a step from a depth of at most the present one, so that a called function is gone back over as one,
-- `reverse-continue` for a step from a breakpoint, or one that changed a watched byte, and `reverse-finish` for a move from a smaller
-- depth, where the present function was called.
abbrev pub passes : Target → Point → Test
passes (Commands count) p r y = r.mark
passes (Steps count) p r y = is_step r.move
passes Next p r y = is_step r.move && nat_le (depth r.before) (depth p.state)
passes Continue p r y = is_step r.move && (breaks_at p r.before || watch_differs p r.before y)
passes Finish p r y = nat_lt (depth r.before) (depth p.state)

-- How many moves the n-th latest of them lies back.
abbrev pub found : Target → ℕ → Point → Option ℕ
found target n p = latest (passes target p) n p.history p.state

-- To the n-th latest one; to the oldest kept state where there are fewer.
abbrev pub back_to : Target → ℕ → Why → Point → Outcome
back_to target n why p = gone_back (unwrap_or (found target n p) (length p.history)) why p

-- To the latest one, else to the oldest kept state.
abbrev pub to_latest : Target → Point → Outcome
to_latest target p = back_to target 1 (if is_some (found target 1 p) then Done else Start) p

-- To where a breakpoint or a watch stops, else to the oldest kept state.
abbrev pub to_stop : Option ℕ → Point → Outcome
to_stop (Some k) p = gone_back k (if breaks_at p (before_last k p) then Break else Watch) p
to_stop None p = gone_back (length p.history) Start p

-- How many records have marks, and how many are of steps.
abbrev pub marks : Point → ℕ
marks p = count_by (λ r. r.mark) p.history

abbrev pub kept_steps : Point → ℕ
kept_steps p = count_by (λ r. is_step r.move) p.history

-- A backward command. `reverse-stepi` goes to before the first kept step where there are fewer.
abbrev pub back : Target → Point → Outcome
back (Commands count) p = back_to (Commands count) count Done p
back (Steps count) p =
    back_to (Steps count) (min count (kept_steps p)) (if nat_le count (kept_steps p) then Done else Start) p
back Next p = to_latest Next p
back Continue p = to_stop (found Continue 1 p) p
back Finish p = to_latest Finish p
