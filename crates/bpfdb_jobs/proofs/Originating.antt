-- Where a job of `origin` asks, what it prints there, and why it is refused.
use Rattle.std.proofs.Common.{◌≡◌, ◌≤◌, ◌==◌, ◌∙◌, ℕ, Bool, true, false, List, [], Option, Some, None, Ok, Err, ap, ap₂, refl, subst, sym, length}
use Rattle.std.specs.Borrow.{Bor}
use Rattle.std.specs.Prelude.{IsOk}
use Rattle.bpf_whynot.specs.Branches.{AreBranches}
use Rattle.bpf_whynot.specs.Courses.{IsFound}
use Rattle.bpf_whynot.specs.declared.branch_text.Found.{Found}
use Rattle.bpf_journal.specs.Histories.{Record}
use Rattle.bpf_journal.specs.Tracks.{RingHolds, Track, ring_room}
use Rattle.bpf_ring.specs.declared.keeper.RingKeeper.{RingKeeper}
use Rattle.bpf_link.specs.declared.fault.LinkFault.{LinkFault}
use Rattle.bpf_lines.specs.declared.place_names.Names.{Names}
use Rattle.bpf_steps.specs.State.{State}
use Rattle.bpf_origin.specs.Answers.{Answer}
use Rattle.bpf_origin.specs.Asked.{answer_about}
use Rattle.bpf_origin.specs.declared.fault.WhatFault.{WhatFault}
use Rattle.bpf_origin.specs.declared.place.Part.{Part}
use Rattle.bpf_origin.specs.declared.question.Extent.{Extent}
use Rattle.bpf_origin.specs.declared.question.Extent.TheVariants.{Whole}
use Rattle.bpf_origin.specs.declared.question.Question.{Question}
use Rattle.bpf_origin.specs.declared.what.What.{What}
use Rattle.bpf_session.specs.Points.{Bounds, Point}
use Rattle.bpf_session.specs.Sessions.{HasPast, SessionValue, bounds_of, track_at}
use Rattle.bpfdb_script.specs.SlotTexts.{SlotTexts}
use Rattle.bpfdb_script.specs.declared.refusal.Refusal.{Refusal}
use Rattle.bpf_load.specs.Targets.{Loads}
use Rattle.bpf_load.specs.declared.loading.LinkedObject.{LinkedObject}
use Rattle.bpf_load.specs.declared.program.Loaded.{Loaded}
use Rattle.bpfdb_jobs.specs.Jobs.{IsKnown, OpensSession, Prints, initial_of, named_print, opening_asked, section_of, start_of, stop_for, unwritten_in}
use Rattle.bpfdb_jobs.specs.Obeying.{ObeysScript, arrived}
use Rattle.bpfdb_jobs.specs.Openings.{AreAskedParts, HasArrived, HasRun, HasTail, IsAsked, IsOpening}
use Rattle.bpfdb_jobs.specs.Sources.{behind}
use Rattle.bpfdb_jobs.specs.declared.origin.Reached.{Reached}
use Rattle.bpf_origin.specs.declared.wanted.Wanted.{Wanted}
use Rattle.bpf_steps.specs.Platform.{context_limit}
use Rattle.bpf_trace.specs.declared.strict_run.Unwritten.{Unwritten}
use Rattle.bpfdb_jobs.specs.Origins.{AreNamesOf, Asks, IsTail, RefusesNames, RefusesWhat, arrival, bounds, followed_by, obeyed, parts_for, question_by, steps_to, stop_line, strictly, within}
use Rattle.bpfdb_jobs.specs.Refusals.{RefusesArrival, RefusesAs}
use Rattle.bpfdb_jobs.specs.declared.job.Job.{Job}
use Rattle.bpfdb_jobs.specs.declared.known.Known.{Known}
use Rattle.bpfdb_faults.specs.declared.refusal.JobRefusal.TheVariants as jobs
use Rattle.bpfdb_options.specs.declared.ask.Ask.TheVariants.{Origin}
use Rattle.bpfdb_options.specs.declared.ask.OriginAsk.{OriginAsk}
use Rattle.bpfdb_options.specs.declared.ask.Scope.{Scope}
use Rattle.counted_io.specs.Lines.{lines}

-- a machine that has run from the opening of the job, as far as it goes
module _ (strict : Bool) (known : Known) (job : Job) (loaded : Loaded) (loads : Loads job.target job.file.now loaded) (is_known : IsKnown job loaded.object known)
    (none : job.other ≡ None) (asked : IsOk (opening_asked job.options)) (short : length job.context.now ≤ context_limit) (reached : Reached)
    (of : loaded.object ≡ reached.object) (read : reached.read ≡ unwritten_in strict known.own job (initial_of job loaded))
    (line : reached.line.items ≡ stop_line known.places reached.read)
    (ran : HasRun job.options (steps_to reached.read job.options.limit) (initial_of job loaded) reached.arrived.timeline reached.arrived.moves) where
  stopped : reached.read ≡ stop_for strict known job loaded
  stopped = read ∙ ap (λ (script : Option (Bor (List ℕ))). unwritten_in (strictly script strict) known.own job (initial_of job loaded)) (sym none)

  -- it stands where it is asked without a script
  pub run-arrives : HasArrived strict known job reached
  run-arrives = record {
    loaded = loaded;
    of = of;
    is_known = is_known;
    at = behind job.options (steps_to reached.read job.options.limit) (initial_of job loaded);
    opens = record { opens = record { loads = loads; asked = asked; short = short }; sized = ran.sized };
    stop = stopped;
    line = line;
    arrives = ap (λ (script : Option (Bor (List ℕ))). arrival script (within (stop_for strict known job loaded) job.options) (initial_of job loaded)) none
        ∙ ap (λ (r : Option Unwritten). arrival None (within r job.options) (initial_of job loaded)) (sym stopped);
    state = ran.state;
    held = ran.held;
    counted = ran.counted;
  }

-- a session that has obeyed the job's script, from its opening
module _ (job : Job) (loaded : Loaded) (loads : Loads job.target job.file.now loaded) (script : Bor (List ℕ)) (given : job.other ≡ Some script)
    (old new : SessionValue RingKeeper) (start : IsOpening job loaded.program old) where
  abbrev begins : Point
  begins = (start_of job loaded.program).point

  opens : OpensSession job loaded
  opens = record { opens = record { loads = loads; asked = start.room.asked; short = start.room.short }; sized = start.room.sized }

  past : HasPast RingHolds old (track_at begins)
  past = start.begins.point.1

  -- what the script means there
  same : obeyed (bounds_of ring_room old) (lines script.now) (arrived old (track_at begins) 0) ≡ arrival job.other job.options (initial_of job loaded)
  same = ap (λ (b : Bounds). obeyed b (lines script.now) (arrived old (track_at begins) 0)) start.begins.bounds
      ∙ ap (λ (p : Point). obeyed (bounds job.options) (lines script.now) (record { point = p; moves = 0 })) start.begins.point.0
      ∙ ap (λ (s : Option (Bor (List ℕ))). arrival s job.options (initial_of job loaded)) (sym given)

  -- it stands where it is asked, and no read stopped it
  pub script-arrives : (strict : Bool) (known : Known) → IsKnown job loaded.object known → (reached : Reached) → loaded.object ≡ reached.object
      → reached.read ≡ None → reached.line.items ≡ [] → reached.arrived.timeline.state ≡ new.moment.state
      → reached.arrived.timeline.keeper ≡ new.moment.keeper
      → ((t : Track) → ObeysScript old new t (lines script.now) 0 (Ok reached.arrived.moves)) → HasArrived strict known job reached
  script-arrives strict known is_known reached of read line state keeper obeys =
      let o = obeys (track_at begins) past in
      let none : stop_for strict known job loaded ≡ None =
      ap (λ (s : Option (Bor (List ℕ))). unwritten_in (strictly s strict) known.own job (initial_of job loaded)) given in
      record {
        loaded = loaded;
        of = of;
        is_known = is_known;
        at = record { point = o.0; moves = reached.arrived.moves };
        opens = opens;
        stop = read ∙ sym none;
        line = line ∙ ap (stop_line known.places) (sym read);
        arrives = ap (λ (r : Option Unwritten). arrival job.other (within r job.options) (initial_of job loaded)) none ∙ sym same ∙ o.2;
        state = state ∙ ap (λ (p : Point). p.state) o.1.0;
        held = rw (state, keeper) o.1.1.history;
        counted = refl;
      }

  -- a line of it is refused
  pub script-refuses : (refusal : Refusal) → ((t : Track) → ObeysScript old new t (lines script.now) 0 (Err refusal))
      → RefusesArrival job (jobs.Script refusal)
  script-refuses refusal obeys = (loaded, opens, sym same ∙ obeys (track_at begins) past)

-- how a question is asked over a history behind so many moves
abbrev question : SlotTexts → Scope → List Record → ℕ → Question
question places scope h n = record { addresses = scope.addresses; lines = scope.lines; opening = length h == n; places = places }

-- a machine where it is asked
module _ (origin : OriginAsk) (known : Known) (job : Job) (reached : Reached) (a : HasArrived origin.is_strict known job reached) where
  -- and so is what it refuses
  pub origin-refuses : (fault : WhatFault) → RefusesWhat origin.what reached.arrived.timeline.state fault → RefusesAs (Origin origin) job (jobs.What fault)
  origin-refuses fault refuses =
      (a.loaded, known, a.at, a.opens, a.is_known, a.arrives, subst (λ (x : State). RefusesWhat origin.what x fault) a.state refuses)

  -- it is asked about these parts
  pub is-asked : (q : Question) (parts : List Part) → AreAskedParts origin reached.read reached.arrived.timeline.state parts
      → q ≡ question known.places origin.scope a.at.point.history reached.arrived.moves → IsAsked origin job reached parts q
  is-asked q parts asked asks-as = record {
    known = known;
    arrived = a;
    about = asked;
    way = asks-as ∙ ap (question known.places origin.scope a.at.point.history) a.counted;
  }

-- nothing stands behind the answer
pub nothing-behind : (origin : OriginAsk) (job : Job) (reached : Reached) (q : Question) (parts : List Part) → IsAsked origin job reached parts q
    → origin.tells_branches ≡ false → HasTail origin job reached parts q (record { text = []; extent = Whole })
nothing-behind origin job reached q parts asked without = record {
  asked = asked;
  is = subst (λ (b : Bool). IsTail b q parts asked.arrived.at.point (record { text = []; extent = Whole })) (sym without) refl;
}

-- a machine that is asked
module _ (origin : OriginAsk) (job : Job) (reached : Reached) (parts : List Part) (q : Question) (s : IsAsked origin job reached parts q) where
  abbrev h : List Record
  h = s.arrived.at.point.history

  abbrev y : State
  y = reached.arrived.timeline.state

  abbrev stop : Option Unwritten
  stop = stop_for origin.is_strict s.known job s.arrived.loaded

  abbrev wanted : List Part
  wanted = parts_for s.about.0 stop s.arrived.at.point.state

  -- which are those of the definitions
  asked-about : parts ≡ wanted
  asked-about = s.about.2 ∙ ap (λ (x : State). parts_for s.about.0 reached.read x) s.arrived.state
      ∙ ap (λ (r : Option Unwritten). parts_for s.about.0 r s.arrived.at.point.state) s.arrived.stop

  -- the line of the read
  pub line-told : reached.line.items ≡ stop_line q.places reached.read
  line-told = s.arrived.line ∙ ap (λ (z : Question). stop_line z.places reached.read) (sym s.way)

  -- the answer is printed
  pub origin-prints : (tail : Answer) → IsTail origin.tells_branches q parts s.arrived.at.point tail
      → (names : Option Names) → AreNamesOf reached.object (section_of job) job.target.packet names
      → Prints (Origin origin) job (named_print names reached.read q.places y (followed_by (answer_about q parts h y) tail))
  origin-prints tail behind names found =
      let a = s.arrived in
      let what = s.about.0 in
      let ask : Question = question_by s.known.places origin.scope a.at in (
        a.loaded,
        s.known,
        a.at,
        what,
        tail,
        names,
        a.opens,
        a.is_known,
        a.arrives,
        subst (λ (x : State). Asks origin.what x what) a.state s.about.1,
        subst (λ (z : Question). IsTail origin.tells_branches z wanted a.at.point tail) s.way
            (subst (λ (ps : List Part). IsTail origin.tells_branches q ps a.at.point tail) asked-about behind),
        subst (λ (o : Option LinkedObject). AreNamesOf o (section_of job) job.target.packet names) (sym a.of) found,
        ap (λ (z : Question). named_print names reached.read z.places y (followed_by (answer_about z parts h y) tail)) s.way
            ∙ ap (λ (ps : List Part). named_print names reached.read s.known.places y (followed_by (answer_about ask ps h y) tail)) asked-about
            ∙ ap (λ (r : Option Unwritten). named_print names r s.known.places y (followed_by (answer_about ask wanted h y) tail)) a.stop
            ∙ ap (λ (x : State). named_print names stop s.known.places x (followed_by (answer_about ask wanted h x) tail)) a.state,
      )

  -- nothing is known of the names in maps
  pub names-refuse : (fault : LinkFault) (name : Bor (List ℕ)) → RefusesNames reached.object (section_of job) fault name.now
      → RefusesAs (Origin origin) job (jobs.Object fault name)
  names-refuse fault name lacks =
      let a = s.arrived in (
        a.loaded,
        s.known,
        a.at,
        s.about.0,
        a.opens,
        a.is_known,
        a.arrives,
        subst (λ (x : State). Asks origin.what x s.about.0) a.state s.about.1,
        subst (λ (o : Option LinkedObject). RefusesNames o (section_of job) fault name.now) (sym a.of) lacks,
      )

  -- behind it are the branches that were found, and the machine is asked still
  abbrev again : Found → Wanted → Reached
  again found memory = record {
    arrived = record { timeline = found.timeline; moves = reached.arrived.moves; wanted = memory };
    object = reached.object;
    read = reached.read;
    line = reached.line;
  }

  pub branches-behind : (found : Found) (memory : Wanted) → origin.tells_branches ≡ true → IsFound q parts h y found
      → HasTail origin job (again found memory) parts q (record { text = found.text.items; extent = found.extent })
  branches-behind found memory given is = record {
    asked = record {
      known = s.known;
      arrived = record {
        loaded = s.arrived.loaded;
        of = s.arrived.of;
        is_known = s.arrived.is_known;
        at = s.arrived.at;
        opens = s.arrived.opens;
        stop = s.arrived.stop;
        line = s.arrived.line;
        arrives = s.arrived.arrives;
        state = is.state ∙ s.arrived.state;
        held = is.stands;
        counted = s.arrived.counted;
      };
      about = subst (λ (x : State). AreAskedParts origin reached.read x parts) (sym is.state) s.about;
      way = s.way;
    };
    is = subst (λ (b : Bool). IsTail b q parts s.arrived.at.point (record { text = found.text.items; extent = found.extent })) (sym given)
        (subst (λ (x : State). AreBranches q parts h x (record { text = found.text.items; extent = found.extent })) s.arrived.state
        (subst (λ (z : Answer). AreBranches q parts h y z) (same-answer is.text is.extent) is.is));
  }
    where
      same-answer : {text : List ℕ} {extent : Extent} {other : Answer} → text ≡ other.text → extent ≡ other.extent → other ≡ record { text = text; extent = extent }
      same-answer e f = ap₂ (λ (text : List ℕ) (extent : Extent). record { text = text; extent = extent }) (sym e) (sym f)
