-- What a job of `whynot` prints where it asks, and why it is refused.
use Rattle.std.proofs.Common.{◌≡◌, ◌==◌, ◌∙◌, ℕ, Bool, List, Ok, Err, ap, subst, sym, length}
use Rattle.bpf_journal.specs.Histories.{Record}
use Rattle.bpf_steps.specs.State.{State}
use Rattle.bpf_whynot.specs.Answers.{Query, why_not}
use Rattle.bpf_whynot.specs.Asked.{Goals, goals_in}
use Rattle.bpf_whynot.specs.Makings.{goals_left, made_last}
use Rattle.bpf_whynot.specs.Reach.{TellsReach}
use Rattle.bpf_whynot.specs.declared.fault.GoalFault.{GoalFault}
use Rattle.std.specs.Borrow.{Bor}
use Rattle.std.specs.Prelude.{Option, Result}
use Rattle.bpf_link.specs.declared.fault.LinkFault.{LinkFault}
use Rattle.bpf_lines.specs.declared.place_names.Names.{Names}
use Rattle.bpf_isa.specs.Programs.{Checked}
use Rattle.bpf_whynot.specs.declared.fault.GoalFault.TheVariants.{NoSlot}
use Rattle.bpf_load.specs.declared.loading.LinkedObject.{LinkedObject}
use Rattle.bpfdb_jobs.specs.Jobs.{AreAsked, AsksGoals, Prints, asked_of, named_print, section_of, stop_for}
use Rattle.bpf_trace.specs.declared.strict_run.Unwritten.{Unwritten}
use Rattle.bpfdb_jobs.specs.declared.origin.Reached.{Reached}
use Rattle.bpfdb_jobs.specs.Openings.{HasArrived}
use Rattle.bpfdb_jobs.specs.Origins.{AreNamesOf, RefusesNames}
use Rattle.bpf_questions.specs.Refusals.{lacks_place}
use Rattle.bpfdb_jobs.specs.Refusals.{RefusesAs, RefusesWhynot}
use Rattle.bpfdb_jobs.specs.Whynots.{IsRefusalOf, RefusesGoals}
use Rattle.bpfdb_jobs.specs.declared.job.Job.{Job}
use Rattle.bpfdb_jobs.specs.declared.known.Known.{Known}
use Rattle.bpfdb_faults.specs.declared.refusal.JobRefusal.{JobRefusal}
use Rattle.bpfdb_faults.specs.declared.refusal.JobRefusal.TheVariants.{OtherMap, OtherObject, Kind, Maps, Listing, Load, Opening, Open, OtherRun, TraceLine, Journal, What, Goal, NoPlace, Object, Functions, Tests, NoTest, ManyTests, Script}
use Rattle.bpfdb_options.specs.declared.ask.Ask.TheVariants.{Whynot}
use Rattle.bpfdb_options.specs.declared.ask.WhynotAsk.{WhynotAsk}

-- how it is asked over a history behind so many moves
abbrev search : WhynotAsk → Known → Goals → List Record → ℕ → State → Query
search why known goals h n x = record {
  goals = goals_left goals h;
  made = made_last goals h x;
  question = record { addresses = why.scope.addresses; lines = why.scope.lines; opening = length h == n; places = known.places };
  alone = why.alone;
}

-- the refusal of slots that are none
pub goal-refuses : (why : WhynotAsk) (job : Job) (known : Known) (program : Checked) (slots : List ℕ) (fault : GoalFault) (refusal : JobRefusal) → AreAsked why job known slots
    → goals_in program slots ≡ Err fault → IsRefusalOf why fault refusal → RefusesGoals why job known program refusal
goal-refuses ask job known program slots fault (Goal told) asked none r = ((slots, asked, none ∙ ap (λ f. Err f) (sym r.0)), ap (λ f. lacks_place f (asked_of ask)) r.0 ∙ r.1)
goal-refuses ask job known program slots fault (NoPlace name) asked none r =
    (r.0, (slots, asked, none ∙ ap (λ f. Err f) r.1), ap (λ f. lacks_place f (asked_of ask)) (sym r.1) ∙ r.2)
goal-refuses ask job known program slots fault (Maps why) asked none r = absurd r
goal-refuses ask job known program slots fault (Listing why) asked none r = absurd r
goal-refuses ask job known program slots fault (Load why) asked none r = absurd r
goal-refuses ask job known program slots fault (Open why) asked none r = absurd r
goal-refuses ask job known program slots fault (Opening why) asked none r = absurd r
goal-refuses ask job known program slots fault (OtherRun refusal) asked none r = absurd r
goal-refuses ask job known program slots fault (TraceLine why line) asked none r = absurd r
goal-refuses ask job known program slots fault (Journal why) asked none r = absurd r
goal-refuses ask job known program slots fault (Script refusal) asked none r = absurd r
goal-refuses ask job known program slots fault (What why) asked none r = absurd r
goal-refuses ask job known program slots fault (Object why name) asked none r = absurd r
goal-refuses ask job known program slots fault (Functions why index name) asked none r = absurd r
goal-refuses ask job known program slots fault (Tests why line) asked none r = absurd r
goal-refuses ask job known program slots fault (NoTest name) asked none r = absurd r
goal-refuses ask job known program slots fault ManyTests asked none r = absurd r
goal-refuses ask job known program slots fault (Kind why) asked none r = absurd r
goal-refuses ask job known program slots fault (OtherMap number) asked none r = absurd r
goal-refuses ask job known program slots fault (OtherObject why name) asked none r = absurd r

-- a machine where it is asked
module _ (why : WhynotAsk) (job : Job) (known : Known) (reached : Reached) (a : HasArrived why.is_strict known job reached) where
  abbrev y : State
  y = reached.arrived.timeline.state

  abbrev h : List Record
  h = a.at.point.history

  -- the answer about it is printed
  pub whynot-prints : (s : Query) (goals : Goals) (can : ℕ → List ℕ → Bool) → s ≡ search why known goals h reached.arrived.moves y
      → AsksGoals why job known y.program (Ok goals) → TellsReach y.program (goals_left goals h) can
      → (names : Option Names) → AreNamesOf reached.object (section_of job) job.target.packet names
      → Prints (Whynot why) job (named_print names reached.read s.question.places y (why_not can s h y))
  whynot-prints s goals can asks named tells names found = (
    a.loaded,
    known,
    a.at,
    goals,
    can,
    names,
    a.opens,
    a.is_known,
    a.arrives,
    subst (λ (x : State). AsksGoals why job known x.program (Ok goals)) a.state named,
    subst (λ (x : State). TellsReach x.program (goals_left goals h) can) a.state tells,
    subst (λ (o : Option LinkedObject). AreNamesOf o (section_of job) job.target.packet names) (sym a.of) found,
    ap (λ (z : Query). named_print names reached.read z.question.places y (why_not can z h y)) (asks ∙ ap (λ (k : ℕ). search why known goals h k y) a.counted)
        ∙ ap (λ (r : Option Unwritten). named_print names r known.places y (why_not can (search why known goals h a.at.moves y) h y)) a.stop
        ∙ ap (λ (x : State). named_print names (stop_for why.is_strict known job a.loaded) known.places x (why_not can (search why known goals h a.at.moves x) h x)) a.state,
  )

  -- nothing is known of the names in maps
  pub names-lack : (goals : Goals) → AsksGoals why job known y.program (Ok goals) → (fault : LinkFault) (name : Bor (List ℕ))
      → RefusesNames reached.object (section_of job) fault name.now → RefusesAs (Whynot why) job (Object fault name)
  names-lack goals named fault name lacks = (
    a.loaded,
    known,
    a.at,
    goals,
    a.opens,
    a.is_known,
    a.arrives,
    subst (λ (x : State). AsksGoals why job known x.program (Ok goals)) a.state named,
    subst (λ (o : Option LinkedObject). RefusesNames o (section_of job) fault name.now) (sym a.of) lacks,
  )

  -- and so is what it refuses
  at-goals : (goals : Result Goals GoalFault) → AsksGoals why job known y.program goals → AsksGoals why job known a.at.point.state.program goals
  at-goals goals named = subst (λ (x : State). AsksGoals why job known x.program goals) a.state named

  pub whynot-refuses : (refusal : JobRefusal) → RefusesGoals why job known y.program refusal → RefusesAs (Whynot why) job refusal
  whynot-refuses (Journal fault) r = subst (λ f. RefusesWhynot why job (Journal f)) (sym r) (a.opens.opens.short, a.opens.sized)
  whynot-refuses (Listing fault) r = r
  whynot-refuses (Goal fault) r = (a.loaded, known, a.at, a.opens, a.is_known, a.arrives, at-goals (Err fault) r.0, r.1)
  whynot-refuses (NoPlace name) r = (r.0, (a.loaded, known, a.at, a.opens, a.is_known, a.arrives, at-goals (Err NoSlot) r.1, r.2))
  whynot-refuses (Maps fault) r = absurd r
  whynot-refuses (Load fault) r = absurd r
  whynot-refuses (Opening fault) r = absurd r
  whynot-refuses (Open fault) r = absurd r
  whynot-refuses (OtherRun refusal) r = absurd r
  whynot-refuses (TraceLine fault line) r = absurd r
  whynot-refuses (Script refusal) r = absurd r
  whynot-refuses (What fault) r = absurd r
  whynot-refuses (Object fault name) r = absurd r
  whynot-refuses (Functions fault index name) r = absurd r
  whynot-refuses (Tests fault line) r = absurd r
  whynot-refuses (NoTest name) r = absurd r
  whynot-refuses ManyTests r = absurd r
  whynot-refuses (Kind why) r = absurd r
  whynot-refuses (OtherMap number) r = absurd r
  whynot-refuses (OtherObject why name) r = absurd r
