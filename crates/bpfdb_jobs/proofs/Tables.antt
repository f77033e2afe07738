-- What `lines` prints of an object, and why it prints nothing; the object of a program.
use Rattle.std.proofs.Common.{◌≡◌, inl, inr, refl, subst, sym, true, Bool, List}
use Rattle.std.specs.Prelude.{None, Option, Some}
use Rattle.bpf_lines.specs.declared.objects.ObjectLines.{ObjectLines}
use Rattle.bpf_load.specs.Targets.{Holds, IsObjectOf, LinksTo, Loads}
use Rattle.bpf_load.specs.declared.loading.LinkedObject.{LinkedObject}
use Rattle.bpf_load.specs.declared.program.Loaded.{Loaded}
use Rattle.bpf_load.specs.declared.target.SourceKind.{SourceKind}
use Rattle.bpf_load.specs.declared.target.SourceKind.TheVariants as kind
use Rattle.bpfdb_faults.specs.declared.refusal.JobRefusal.{JobRefusal}
use Rattle.bpfdb_jobs.specs.Jobs.{AreLinesFor, IsTable, Prints, links_first, printed, table_by}
use Rattle.bpfdb_jobs.specs.Refusals.{RefusesAs, RefusesLines, RefusesLinking, RefusesTable}
use Rattle.bpfdb_jobs.specs.declared.job.Job.{Job}
use Rattle.bpfdb_options.specs.declared.ask.Ask.TheVariants.{Lines}

-- an object is refused as `link` refuses it, or for its lines
pub refuses-linking : (job : Job) (refusal : JobRefusal) → links_first job.target.kind ≡ true → RefusesLinking job refusal → RefusesAs Lines job refusal
refuses-linking job refusal object why = subst (λ (b : Bool). RefusesLines b job refusal) (sym object) (inl why)

pub refuses-table : (job : Job) (refusal : JobRefusal) → links_first job.target.kind ≡ true → RefusesTable job refusal → RefusesAs Lines job refusal
refuses-table job refusal object why = subst (λ (b : Bool). RefusesLines b job refusal) (sym object) (inr why)

-- the table of an object alone, or joined with others
pub prints-table : (job : Job) (linked : LinkedObject) (all : List ObjectLines) → links_first job.target.kind ≡ true
    → LinksTo job.target job.file.now linked → AreLinesFor job linked all → Prints Lines job (printed (table_by job linked all))
prints-table job linked all object links lines =
    (table_by job linked all, subst (λ (b : Bool). IsTable b job (table_by job linked all)) (sym object) (linked, all, links, lines, refl), refl)

-- the object of a program that was loaded
pub object-of : (job : Job) (loaded : Loaded) → Loads job.target job.file.now loaded
    → IsObjectOf job.target.kind job.target job.file.now loaded.object
object-of job loaded loads = held job.target.kind loaded.object loads.holds
  where
    held : (kind : SourceKind) (object : Option LinkedObject) → Holds kind job.target job.file.now object loaded.program.bytes loaded.program.maps
        → IsObjectOf kind job.target job.file.now object
    held kind.Object None h = absurd h
    held kind.Object (Some linked) h = h.0
    held kind.Listing object h = h.0
    held kind.Words object h = h.0

pub object-links : (job : Job) (object : Option LinkedObject) (linked : LinkedObject) → IsObjectOf job.target.kind job.target job.file.now object
    → object ≡ Some linked → LinksTo job.target job.file.now linked
object-links job object linked of is = held job.target.kind (subst (IsObjectOf job.target.kind job.target job.file.now) is of)
  where
    held : (kind : SourceKind) → IsObjectOf kind job.target job.file.now (Some linked) → LinksTo job.target job.file.now linked
    held kind.Object h = h
    held kind.Listing h = absurd (cc h)
    held kind.Words h = absurd (cc h)
