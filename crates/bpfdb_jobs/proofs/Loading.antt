-- What `load` prints of a program that was loaded.
use Rattle.std.proofs.Common.{◌≡◌, ◌++◌, List, ℕ, Option, Some, refl, subst, sym}
use Rattle.bpf_lines.specs.declared.objects.ObjectLines.{ObjectLines}
use Rattle.bpf_load.specs.Notes.{AreNotes}
use Rattle.bpf_load.specs.Targets.{Holds, LinksTo, Loads}
use Rattle.bpf_load.specs.declared.loading.LinkedObject.{LinkedObject}
use Rattle.bpf_load.specs.declared.notes.Notes.{Notes}
use Rattle.bpf_load.specs.declared.program.Loaded.{Loaded}
use Rattle.bpf_load.specs.declared.target.SourceKind.{SourceKind}
use Rattle.bpf_load.specs.declared.target.SourceKind.TheVariants as kind
use Rattle.bpfdb_faults.specs.declared.refusal.JobRefusal.{JobRefusal}
use Rattle.bpfdb_jobs.specs.Differences.{differences}
use Rattle.bpfdb_jobs.specs.Jobs.{AreLinesFor, AreRows, Prints, printed, table_by}
use Rattle.bpfdb_jobs.specs.Programs.{program_text}
use Rattle.bpfdb_jobs.specs.Refusals.{RefusesAs, RefusesRows, RefusesTable}
use Rattle.bpfdb_jobs.specs.declared.job.Job.{Job}
use Rattle.bpfdb_options.specs.declared.ask.Ask.TheVariants.{Load}

-- one that comes from an object is that object's
pub of-object : (job : Job) (loaded : Loaded) (linked : LinkedObject) → Loads job.target job.file.now loaded → loaded.object ≡ Some linked
    → (job.target.kind ≡ kind.Object) × LinksTo job.target job.file.now linked
of-object job loaded linked loads is = held job.target.kind refl (subst (λ (o : Option LinkedObject). Holds job.target.kind job.target job.file.now o
    loaded.program.bytes loaded.program.maps) is loads.holds)
  where
    held : (k : SourceKind) → job.target.kind ≡ k → Holds k job.target job.file.now (Some linked) loaded.program.bytes loaded.program.maps
        → (job.target.kind ≡ kind.Object) × LinksTo job.target job.file.now linked
    held kind.Object same h = (same, h.0)
    held kind.Listing same h = absurd (cc h.0)
    held kind.Words same h = absurd (cc h.0)

pub prints-rows : (job : Job) (loaded : Loaded) (rows : List ℕ) → Loads job.target job.file.now loaded
    → AreRows job.target.kind job loaded.object rows → Prints Load job (printed (program_text loaded ++ rows))
prints-rows job loaded rows loads are = (loaded, rows, loads, are, refl)

pub prints-object : (job : Job) (loaded : Loaded) (linked : LinkedObject) (notes : Notes) (all : List ObjectLines) → Loads job.target job.file.now loaded
    → loaded.object ≡ Some linked → AreNotes job.target job.file.now job.library.now notes → AreLinesFor job linked all
    → Prints Load job (printed (program_text loaded ++ (differences notes ++ table_by job linked all)))
prints-object job loaded linked notes all loads is are lines =
    let of = of-object job loaded linked loads is in
    let rows = differences notes ++ table_by job linked all in
    prints-rows job loaded rows loads
    (subst (λ (k : SourceKind). AreRows k job loaded.object rows) (sym of.0)
    (subst (λ (o : Option LinkedObject). AreRows kind.Object job o rows) (sym is) (notes, all, are, lines, refl)))

pub refuses-object : (job : Job) (refusal : JobRefusal) → job.target.kind ≡ kind.Object → RefusesTable job refusal → RefusesAs Load job refusal
refuses-object job refusal object why = subst (λ (k : SourceKind). RefusesRows k job refusal) (sym object) why
