-- What names the places of a job's program: the labels of a listing; what is told of the objects that it was linked of; or nothing, where that can't be read.
use Rattle.std.specs.Prelude.{◌≡◌, ⊤, ℕ, All, Bool, true, false, Option, Some, None}
use Rattle.bpf_lines.specs.Objects.{HasPartLines}
use Rattle.bpf_lines.specs.declared.debug_info.DebugInfo.{DebugInfo}
use Rattle.bpf_lines.specs.declared.debug_info.DebugInfo.TheVariants as info
use Rattle.bpf_load.specs.declared.loading.LinkedObject.{LinkedObject}
use Rattle.bpf_text.specs.LineTable.{IsLineTable}
use Rattle.bpf_text.specs.Listing.{IsFaultOf}
use Rattle.bpf_text.specs.declared.fault.AsmFault.TheVariants.{Line}
use Rattle.bpf_text.specs.declared.fault.LineFault.{LineFault}
use Rattle.bpfdb_jobs.specs.Jobs.{AreLinesFor, LacksLines, is_listing}
use Rattle.bpfdb_jobs.specs.declared.job.Job.{Job}
use Rattle.bpfdb_jobs.specs.declared.naming.Naming.{Naming}
use Rattle.bpfdb_jobs.specs.declared.naming.Naming.TheVariants as naming

-- A listing has no table by a fault of one of its lines, and one that was loaded has none. (Want of memory is refused.)
abbrev pub HasNoTable : Job → Type 0
HasNoTable job = (why : LineFault) × (line : ℕ) × IsFaultOf job.file.now (Line why line)

abbrev pub NamesLabels : Bool → Job → DebugInfo → Type 0
NamesLabels true job (info.Listing table) = IsLineTable job.file.now table.now
NamesLabels true job info.Nothing = HasNoTable job
NamesLabels false job info.Nothing = ⊤
NamesLabels listing job named = ⊥

abbrev pub NamesPlaces : Job → Option LinkedObject → DebugInfo → Type 0
NamesPlaces job (Some linked) (info.Objects lines packet words) =
    AreLinesFor job linked lines.now × (packet ≡ job.target.packet) × (words.now ≡ linked.program.words.items)
NamesPlaces job (Some linked) info.Nothing = LacksLines job linked
NamesPlaces job (Some linked) named = ⊥
NamesPlaces job None named = NamesLabels (is_listing job.target.kind) job named

-- Scaffolding: no public contract cites this. The same, in memory.
abbrev pub HasLabels : Bool → Job → Naming → Type 0
HasLabels true job (naming.Listing table) = IsLineTable job.file.now table.items
HasLabels true job naming.Nothing = HasNoTable job
HasLabels false job naming.Nothing = ⊤
HasLabels listing job named = ⊥

abbrev pub HasNaming : Job → Option LinkedObject → Naming → Type 0
HasNaming job (Some linked) (naming.Object lines object) = AreLinesFor job linked lines.items × All HasPartLines lines.items × (object.now ≡ linked)
HasNaming job (Some linked) naming.Nothing = LacksLines job linked
HasNaming job (Some linked) named = ⊥
HasNaming job None named = HasLabels (is_listing job.target.kind) job named
