-- Where the values came from in which two runs differ: of each run what `origin` tells of them, asked behind the step that wrote them.
use Rattle.std.specs.Prelude.{ℕ, Bool, false, List, [], ◌∷◌, ◌++◌, Option, Some, None, codes}
use Rattle.bpf_entries.specs.declared.status.Fault.TheVariants.{Access}
use Rattle.bpf_entries.specs.declared.status.Status.{Status}
use Rattle.bpf_entries.specs.declared.status.Status.TheVariants.{Faulted}
use Rattle.bpf_steps.specs.State.{State}
use Rattle.bpf_origin.specs.Asked.{answer_about}
use Rattle.bpf_origin.specs.Reads.{asked}
use Rattle.bpf_origin.specs.declared.place.Part.{Part}
use Rattle.bpf_lines.specs.declared.place_names.Names.{Names}
use Rattle.bpf_diff.specs.Values.{Pair, Value, marked}
use Rattle.bpf_diff.specs.declared.texts.BothTexts.{BothTexts}
use Rattle.bpfdb_script.specs.SlotTexts.{SlotTexts}
use Rattle.bpfdb_jobs.specs.Origins.{Arrival, found_text, named_by, question_by, run_arrival}
use Rattle.bpfdb_options.specs.declared.ask.DiffAsk.{DiffAsk}
use Rattle.bpfdb_options.specs.declared.ask.Scope.{Scope}
use Rattle.bpfdb_options.specs.declared.options.Options.{Options}

-- A run's first n steps.
abbrev pub behind : Options → ℕ → State → Arrival
behind options n x = run_arrival (record options { limit = n }) x

-- What is asked about there: these parts; at a bad access, whose step wrote nothing, the registers of its address.
abbrev pub asked_at : Status → List Part → State → List Part
asked_at (Faulted (Access a)) parts y = asked y
asked_at status parts y = parts

-- Where no part is asked about, nothing is told.
abbrev pub told_of : List Part → List ℕ → List ℕ
told_of [] text = []
told_of (p ∷ parts) text = text

abbrev pub source_about : Option Names → SlotTexts → Scope → List Part → Arrival → List ℕ
source_about names texts scope parts at = told_of parts
    (named_by names (found_text [] texts at.point.state (answer_about (question_by texts scope at) parts at.point.history at.point.state)))

abbrev pub source_at : Option Names → SlotTexts → Scope → List Part → Arrival → List ℕ
source_at names texts scope parts at =
    source_about names texts scope (asked_at at.point.state.status parts at.point.state) at

-- What is told of values of a run from x.
abbrev pub source : Option Names → SlotTexts → Scope → Options → State → Value → List ℕ
source names texts scope options x v = source_at names texts scope v.parts (behind options v.steps x)

-- Of those of two runs, unless that is left out.
abbrev pub sources_by : Bool → Option Names → Option Names → BothTexts → Scope → Options → Option Pair → State → State → List ℕ × List ℕ
sources_by false names others texts scope options (Some v) x y = (source names texts.first scope options x v.0, source others texts.second scope options y v.1)
sources_by alone names others texts scope options v x y = ([], [])

abbrev pub sources : Option Names → Option Names → BothTexts → DiffAsk → Options → Option Pair → State → State → List ℕ × List ℕ
sources names others texts diff options v x y = sources_by diff.alone names others texts diff.scope options v x y

-- Each line has the mark of its run.
abbrev pub both_marked : List ℕ × List ℕ → List ℕ
both_marked texts = marked (codes "< ") texts.0 ++ marked (codes "> ") texts.1
