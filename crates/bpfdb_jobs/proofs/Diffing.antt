-- How a job of `diff` ends.
use Rattle.std.proofs.Common.{ℕ, ◌≡◌, Bool, true, false, List, Option, Some, None, Result, Ok, Err, ap, ap₂, inl, inr, refl, subst, sym, ◌∙◌}
use Rattle.std.specs.Borrow.{Bor}
use Rattle.std.specs.Prelude.{OnErr, OnOk, is_some}
use Rattle.bpf_load.specs.Targets.{Loads, loaded_of}
use Rattle.bpf_load.specs.declared.loading.LinkedObject.{LinkedObject}
use Rattle.bpf_load.specs.declared.program.Loaded.{Loaded}
use Rattle.bpf_steps.specs.State.{State}
use Rattle.bpf_lines.specs.declared.place_names.Names.{Names}
use Rattle.bpf_link.specs.declared.fault.LinkFault.{LinkFault}
use Rattle.bpf_diff.specs.Values.{Pair}
use Rattle.bpf_diff.specs.declared.texts.BothTexts.{BothTexts}
use Rattle.bpf_ring.specs.Opening.{RefusesSize}
use Rattle.bpf_ring.specs.declared.fault.JournalFault.{JournalFault}
use Rattle.counted_io.specs.Writing.{Writes}
use Rattle.bpfdb_faults.specs.Faults.{output_line}
use Rattle.bpfdb_faults.specs.Streams.{Told}
use Rattle.bpfdb_faults.specs.declared.refusal.JobRefusal.{JobRefusal}
use Rattle.bpfdb_faults.specs.declared.refusal.JobRefusal.TheVariants.{OtherMap, OtherObject, Kind, Maps, Listing, Load, Opening, Open, OtherRun, TraceLine, Journal, What, Goal, NoPlace, Object, Functions, Tests, NoTest, ManyTests, Script}
use Rattle.bpfdb_jobs.specs.Endings.{EndsPrinted, OutLost, Printed}
use Rattle.bpfdb_jobs.specs.Jobs.{AgainstPrints, AreNamesFor, AreTold, DiffPrints, IsOtherRun, OpensMachine, Print, Prints, RunsOn, RunsPrint, against_print, begun_for, compared_print, comparison, comparison_of, diff_status, other_bytes, runs_told, section_of}
use Rattle.bpfdb_jobs.specs.Openings.{OpensAs, OpensOf, OpensRuns}
use Rattle.bpfdb_jobs.specs.Origins.{RefusesNames}
use Rattle.bpfdb_jobs.specs.Programs.{AreSameMaps, IsOtherMap}
use Rattle.bpfdb_jobs.specs.Sources.{sources}
use Rattle.bpfdb_jobs.specs.Refusals.{RefusesAgainst, RefusesDiff, RefusesEither, RefusesMachine, RefusesOtherRun, RefusesRuns}
use Rattle.bpfdb_jobs.specs.Streams.{Outputs}
use Rattle.bpfdb_jobs.specs.declared.job.Job.{Job}
use Rattle.bpfdb_options.specs.Asks.{is_context, is_trace}
use Rattle.bpfdb_options.specs.declared.ask.DiffAsk.{DiffAsk}
use Rattle.bpfdb_options.specs.declared.ask.Ask.TheVariants.{Diff}
use Rattle.input_texts.specs.TraceFaults.{bad_line}
use Rattle.input_texts.specs.TraceForms.{form_in, told}
use Rattle.input_texts.specs.declared.trace_form.Form.{Form}

-- a refusal of FILE's machine is one of `diff`
pub machine-diff : (diff : DiffAsk) (job : Job) (refusal : JobRefusal) → RefusesMachine job refusal → RefusesRuns diff job refusal
machine-diff diff job (Maps fault) p = p
machine-diff diff job (Listing fault) p = p
machine-diff diff job (Load fault) p = p
machine-diff diff job (Opening fault) p = p
machine-diff diff job (Open fault) p = p
machine-diff diff job (OtherRun refusal) p = absurd p
machine-diff diff job (TraceLine fault line) p = absurd p
machine-diff diff job (Journal fault) p = absurd p
machine-diff diff job (Script refusal) p = p
machine-diff diff job (What fault) p = p
machine-diff diff job (Goal fault) p = p
machine-diff diff job (NoPlace name) p = p
machine-diff diff job (Object fault name) p = absurd p
machine-diff diff job (Functions fault index name) p = p
machine-diff diff job (Tests fault line) p = p
machine-diff diff job (NoTest name) p = p
machine-diff diff job ManyTests p = p
machine-diff diff job (Kind why) p = p
machine-diff diff job (OtherMap number) p = absurd p
machine-diff diff job (OtherObject why name) p = absurd p

-- of two runs, or of a run along a trace
runs-diff : (diff : DiffAsk) (job : Job) (a : Print) → is_trace diff.other ≡ false → RunsPrint diff job a → Prints (Diff diff) job a
runs-diff diff job a e is = subst (λ (b : Bool). DiffPrints b diff job a) (sym e) is

against-diff : (diff : DiffAsk) (job : Job) (a : Print) → is_trace diff.other ≡ true → AgainstPrints job a → Prints (Diff diff) job a
against-diff diff job a e is = subst (λ (b : Bool). DiffPrints b diff job a) (sym e) is

pub runs-refuse : (diff : DiffAsk) (job : Job) (refusal : JobRefusal) → is_trace diff.other ≡ false → RefusesRuns diff job refusal → RefusesDiff diff job refusal
runs-refuse diff job refusal e is = subst (λ (b : Bool). RefusesEither b diff job refusal) (sym e) (inl is)

pub other-refuses : (diff : DiffAsk) (job : Job) (refusal : JobRefusal) → is_trace diff.other ≡ false → RefusesOtherRun diff job refusal → RefusesDiff diff job refusal
other-refuses diff job refusal e is = subst (λ (b : Bool). RefusesEither b diff job refusal) (sym e) (inr is)

pub against-refuses : (diff : DiffAsk) (job : Job) (refusal : JobRefusal) → is_trace diff.other ≡ true → RefusesAgainst job refusal → RefusesDiff diff job refusal
against-refuses diff job refusal e is = subst (λ (b : Bool). RefusesEither b diff job refusal) (sym e) is

-- a machine that was opened, and the object of its program
pub side-is : (job : Job) (object : Option LinkedObject) (x : State) (o : OpensOf job object x) → loaded_of x.program object ≡ o.0
side-is job object x o = ap₂ loaded_of (ap (λ (z : State). z.program) o.2) (sym o.3)

-- the other run has what is asked of the first
asked-alike : (on_context : Bool) (job other : Job) → RunsOn on_context job other → other.options ≡ job.options
asked-alike true job other is = ap (λ (j : Job). j.options) is.1
asked-alike false job other is = ap (λ (j : Job). j.options) is.1

pub same-options : (diff : DiffAsk) (job other : Job) → IsOtherRun diff job other → other.options ≡ job.options
same-options diff job other is = asked-alike (is_context diff.other) job other is

-- the values in which they differ, whatever is told of their slots
values-alike : (by_writes : Bool) (texts others : BothTexts) (limit : ℕ) (c d : List ℕ) (x y : State)
    → (comparison by_writes texts limit c d x y).values ≡ (comparison by_writes others limit c d x y).values
values-alike true texts others limit c d x y = refl
values-alike false texts others limit c d x y = refl

-- two of them, of programs with these maps
module _ (diff : DiffAsk) (job other : Job) (x y : State) (one another : Option LinkedObject) (runs : is_trace diff.other ≡ false) (is : IsOtherRun diff job other)
    (o : OpensOf job one x) (t : OpensOf other another y) where
  abbrev alike : AreSameMaps (loaded_of x.program one) (loaded_of y.program another) → AreSameMaps o.0 t.0
  alike maps = subst (λ (loaded : Loaded). AreSameMaps loaded t.0) (side-is job one x o)
      (subst (λ (second : Loaded). AreSameMaps (loaded_of x.program one) second) (side-is other another y t) maps)

  pub maps-refused : (number : ℕ) → IsOtherMap (loaded_of x.program one) (loaded_of y.program another) number
      → RefusesDiff diff job (OtherMap number)
  maps-refused number differs = runs-refuse diff job (OtherMap number) runs (
    o.0,
    other,
    t.0,
    (o.1, is, t.1),
    subst (λ (loaded : Loaded). IsOtherMap loaded t.0 number) (side-is job one x o)
        (subst (λ (second : Loaded). IsOtherMap (loaded_of x.program one) second number) (side-is other another y t) differs),
  )

  module _ (maps : AreSameMaps (loaded_of x.program one) (loaded_of y.program another)) where
    -- a refusal of the names in maps
    pub names-refused : (fault : LinkFault) (name : Bor (List ℕ)) → diff.alone ≡ false → RefusesNames one (section_of job) fault name.now
        → RefusesDiff diff job (Object fault name)
    names-refused fault name asked refuses = runs-refuse diff job (Object fault name) runs (
      o.0,
      other,
      t.0,
      ((o.1, is, t.1), alike maps),
      asked,
      subst (λ (object : Option LinkedObject). RefusesNames object (section_of job) fault name.now) (sym o.3) refuses,
    )

    pub others-refused : (fault : LinkFault) (name : Bor (List ℕ)) → diff.alone ≡ false → RefusesNames another (section_of other) fault name.now
        → RefusesDiff diff job (OtherObject fault name)
    others-refused fault name asked refuses = runs-refuse diff job (OtherObject fault name) runs (
      o.0,
      other,
      t.0,
      ((o.1, is, t.1), alike maps),
      asked,
      subst (λ (object : Option LinkedObject). RefusesNames object (section_of other) fault name.now) (sym t.3) refuses,
    )

    -- their runs, with names
    pub opens-runs : (names others : Option Names) → AreNamesFor diff.alone job one names → AreNamesFor diff.alone other another others
        → (texts : BothTexts) → AreTold job one texts.first → AreTold other another texts.second → OpensRuns diff job other x y names others texts
    opens-runs names others named told texts first second = record {
      runs = runs;
      first = (o.0, o.1, o.2);
      is_other = is;
      second = (t.0, t.1, t.2);
      maps = alike maps;
      named = subst (λ (object : Option LinkedObject). AreNamesFor diff.alone job object names) (sym o.3) named;
      named_other = subst (λ (object : Option LinkedObject). AreNamesFor diff.alone other object others) (sym t.3) told;
      told = subst (λ (object : Option LinkedObject). AreTold job object texts.first) (sym o.3) first;
      told_other = subst (λ (object : Option LinkedObject). AreTold other object texts.second) (sym t.3) second;
    }

-- what is printed, of the machines that were opened
module _ (diff : DiffAsk) (job other : Job) (x y : State) (names others : Option Names) (texts : BothTexts) (o : OpensRuns diff job other x y names others texts) where
  pub compared-prints : Prints (Diff diff) job (compared_print names others texts diff job other x y)
  compared-prints = runs-diff diff job (compared_print names others texts diff job other x y) o.runs (
    o.first.0,
    other,
    o.second.0,
    names,
    others,
    texts,
    o.first.1,
    o.is_other,
    o.second.1,
    o.maps,
    o.named,
    o.named_other,
    o.told,
    o.told_other,
    ap₂ (compared_print names others texts diff job other) o.first.2 o.second.2,
  )

  pub found-prints : (text : List ℕ) (same : Bool) (first second : List ℕ) → text ≡ (comparison_of texts diff job other x y).text
      → same ≡ (comparison_of texts diff job other x y).same → first ≡ (sources names others texts diff job.options (comparison_of texts diff job other x y).values x y).0
      → second ≡ (sources names others texts diff job.options (comparison_of texts diff job other x y).values x y).1 → Prints (Diff diff) job (runs_told text same (first, second))
  found-prints text same first second e f g h =
      let told = comparison_of texts diff job other x y in
      subst (Prints (Diff diff) job)
      (sym (ap₂ (λ (t : List ℕ) (s : Bool). runs_told t s (first, second)) e f
      ∙ ap₂ (λ (p q : List ℕ). runs_told told.text told.same (p, q)) g h))
      compared-prints

  -- or refused by its journal
  abbrev untold : BothTexts
  untold = record { first = None; second = None }

  pub journal-refused : (fault : JournalFault) → diff.alone ≡ false → is_some (comparison_of texts diff job other x y).values ≡ true
      → RefusesSize job.options.journal fault → RefusesDiff diff job (Journal fault)
  journal-refused fault asked some refuses =
      runs-refuse diff job (Journal fault) o.runs (
        o.first.0,
        other,
        o.second.0,
        ((o.first.1, o.is_other, o.second.1), o.maps),
        asked,
        ap₂ (λ (p q : State). is_some (comparison_of untold diff job other p q).values) (sym o.first.2) (sym o.second.2)
            ∙ ap (λ (v : Option Pair). is_some v) (values-alike diff.compares_writes untold texts job.options.limit job.context.now other.context.now x y)
            ∙ some,
        refuses,
      )

-- a machine that was opened on a program that was loaded
abbrev pub opens-as : (job : Job) (loaded : Loaded) (x : State) → Loads job.target job.file.now loaded → OpensMachine job loaded.program x → OpensAs job x
opens-as job loaded x loads o = (loaded, record { loads = loads; asked = o.0; short = o.1 }, o.2)

pub opened-initial : (job : Job) (x : State) → OpensAs job x → x ≡ begun_for job.options x.program job.context.now
opened-initial job x o = o.2 ∙ ap (λ (z : State). begun_for job.options z.program job.context.now) (sym o.2)

-- two runs that were compared, and told or not
pub told-ends : {W E A F : Type 0} {s : Outputs W E} (diff : DiffAsk) (job : Job) (text : List ℕ) (verdict same : Bool) (r : Result A F)
    (status : ℕ) → Prints (Diff diff) job (record { out = Some text; err = None; status = diff_status verdict }) → same ≡ verdict
    → Writes s.output.bytes s.output.old s.output.new r text → OnOk r ((s.errors.new ≡ s.errors.old) × (status ≡ diff_status same))
    → OnErr r (Told s.errors output_line × (status ≡ 2)) → EndsPrinted (Diff diff) job s status
told-ends diff job text verdict same (Ok v) status prints e w ok err =
    Printed (record { out = Some text; err = None; status = diff_status verdict }) prints (w.ok, w.same) ok.0 (ok.1 ∙ ap diff_status e)
told-ends diff job text verdict same (Err fault) status prints e w ok err =
    OutLost (record { out = Some text; err = None; status = diff_status verdict }) prints (w.err, w.fault) err.0 err.1

-- a refusal of FILE's machine is one where the other side is a trace
pub machine-against : (job : Job) (refusal : JobRefusal) → RefusesMachine job refusal → RefusesAgainst job refusal
machine-against job (Maps fault) p = p
machine-against job (Listing fault) p = p
machine-against job (Load fault) p = p
machine-against job (Opening fault) p = p
machine-against job (Open fault) p = p
machine-against job (OtherRun refusal) p = p
machine-against job (TraceLine fault line) p = absurd p
machine-against job (Journal fault) p = p
machine-against job (Script refusal) p = p
machine-against job (What fault) p = p
machine-against job (Goal fault) p = p
machine-against job (NoPlace name) p = p
machine-against job (Object fault name) p = p
machine-against job (Functions fault index name) p = p
machine-against job (Tests fault line) p = p
machine-against job (NoTest name) p = p
machine-against job ManyTests p = p
machine-against job (Kind why) p = p
machine-against job (OtherMap number) p = p
machine-against job (OtherObject why name) p = p

-- what is printed of a run along a trace
pub against-prints : (diff : DiffAsk) (job : Job) (x : State) (form : Form) (file : List ℕ) → is_trace diff.other ≡ true
    → OpensAs job x → file ≡ other_bytes job.other
    → (form_in (told file) ≡ Some form) × (bad_line file ≡ None) → Prints (Diff diff) job (against_print form job.options.limit x (told file))
against-prints diff job x form file e o same is =
    against-diff diff job (against_print form job.options.limit x (told file)) e
    (record {
      loaded = o.0;
      opens = o.1;
      form = form;
      has = ap (λ (bytes : List ℕ). form_in (told bytes)) (sym same) ∙ is.0;
      clear = ap bad_line (sym same) ∙ is.1;
      prints = ap₂ (against_print form job.options.limit) o.2 (ap told same);
    })
