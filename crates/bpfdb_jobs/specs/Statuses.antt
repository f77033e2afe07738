-- The exit status of a job that is done, other than 2.
use Rattle.std.specs.Prelude.{ℕ, ◌≡◌, List, [], ◌∷◌, Option, Some, None}
use Rattle.bpf_isa.specs.declared.maps.MapShape.{MapShape}
use Rattle.bpf_load.specs.Targets.{AreNamedMaps}
use Rattle.bpf_load.specs.declared.program.Loaded.{Loaded}
use Rattle.bpf_suite.specs.Outcomes.{Outcome}
use Rattle.bpf_suite.specs.Reports.{AreOutcomes, all_pass}
use Rattle.bpf_suite.specs.declared.section.Section.{Section}
use Rattle.bpfdb_jobs.specs.Jobs.{OpensSession, Print, Prints}
use Rattle.bpfdb_jobs.specs.Shown.{Shows}
use Rattle.bpfdb_jobs.specs.Suites.{AreTestsOf, status_of}
use Rattle.bpfdb_jobs.specs.declared.job.Job.{Job}
use Rattle.bpfdb_options.specs.declared.ask.Ask.{Ask}
use Rattle.bpfdb_options.specs.declared.ask.Ask.TheVariants.{Batch, Conversation, Debug, Gdb, Test}
use Rattle.bpfdb_options.specs.declared.ask.TestAsk.{TestAsk}
use Rattle.bpfdb_options.specs.declared.test_part.TestPart.{TestPart}

-- A session was opened.
abbrev pub EndsSessionWith : Job → ℕ → Type 0
EndsSessionWith job status = (loaded : Loaded) × OpensSession job loaded × (status ≡ 0)

-- Cases were run.
abbrev pub EndsBatchWith : Job → ℕ → Type 0
EndsBatchWith job status = (maps : List MapShape) × AreNamedMaps job.target.maps maps × (status ≡ 0)

-- Tests were run, or a part of one was shown.
abbrev pub EndsTestWith : Option TestPart → TestAsk → Job → ℕ → Type 0
EndsTestWith None ask job status = (asked : List (List Section)) × (outcomes : List Outcome) × AreTestsOf ask job asked × AreOutcomes asked outcomes
    × (status ≡ status_of (all_pass asked outcomes))
EndsTestWith (Some part) ask job status = (test : List Section) × (bytes : List ℕ) × AreTestsOf ask job (test ∷ []) × Shows part test bytes × (status ≡ 0)

-- Each other subcommand printed.
abbrev pub EndsWith : Ask → Job → ℕ → Type 0
EndsWith Debug job status = EndsSessionWith job status
EndsWith (Conversation talk) job status = EndsSessionWith job status
EndsWith (Gdb registers) job status = EndsSessionWith job status
EndsWith Batch job status = EndsBatchWith job status
EndsWith (Test ask) job status = EndsTestWith ask.show ask job status
EndsWith ask job status = (a : Print) × Prints ask job a × (status ≡ a.status)
