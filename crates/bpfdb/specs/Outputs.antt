-- What becomes of a plan whose output a file takes.
use Rattle.std.specs.Prelude.{ℕ, ◌≡◌, ◌≢◌, List, [], Vec, Some, codes}
use Rattle.std.specs.declared.alloc.Global.{Global}
use Rattle.bpfdb_cli.specs.declared.plans.Plan.{Plan}
use Rattle.bpfdb_faults.specs.Faults.{file_line, line_of}
use Rattle.bpfdb_faults.specs.Streams.{Gets, Loses, Stream, Told}
use Rattle.bpfdb_faults.specs.declared.fault.JobFault.TheVariants.{Memory}
use Rattle.bpfdb.specs.Done.{DoesPlan}
use Rattle.bpfdb.specs.Files.{World}
use Rattle.bpfdb.specs.Telling.{AreHeld}
use Rattle.bpfdb_jobs.specs.Streams.{Outputs}

-- The plan was done over two streams in memory, which took all of it: so it prints this text, and this on standard error.
abbrev pub PrintsInMemory : {R : Type 0} → World → Plan → Stream R → List ℕ → List ℕ → ℕ → Type 0
PrintsInMemory world plan reader text err status =
    (s : Outputs (Vec ℕ Global) (Vec ℕ Global)) × DoesPlan world plan reader s status × AreHeld s text err

-- The file of a path takes an output where all went well, and then standard error what was told; or that it can't be written is told alone. Where not
-- all went well the file is as it was.
pub data EndsForFile {W E : Type 0} (path output err : List ℕ) (done : ℕ) (file : Stream W) (errors : Stream E) (status : ℕ) : Type 0 where
  Kept : done ≢ 0 → file.new ≡ file.old → Gets errors (Some err) → status ≡ done → EndsForFile path output err done file errors status
  KeptLost : done ≢ 0 → file.new ≡ file.old → Loses errors (Some err) → status ≡ 2 → EndsForFile path output err done file errors status
  Written : done ≡ 0 → Gets file (Some output) → Gets errors (Some err) → status ≡ 0 → EndsForFile path output err done file errors status
  ErrLost : done ≡ 0 → Gets file (Some output) → Loses errors (Some err) → status ≡ 2 → EndsForFile path output err done file errors status
  Unwritten : done ≡ 0 → Loses file (Some output) → Told errors (file_line (codes "cannot write ") path) → status ≡ 2
      → EndsForFile path output err done file errors status

-- What the plan prints is for a file; or memory ran out for that, and nothing is written.
pub data DoesForFile {R W E : Type 0} (world : World) (plan : Plan) (path : List ℕ) (reader : Stream R) (file : Stream W) (errors : Stream E) (status : ℕ)
    : Type 0 where
  Does : (text err : List ℕ) → (done : ℕ) → PrintsInMemory world plan reader text err done → EndsForFile path text err done file errors status
      → DoesForFile world plan path reader file errors status
  Exhausted : (memory : Outputs (Vec ℕ Global) (Vec ℕ Global)) → (done : ℕ) → DoesPlan world plan reader memory done
      → file.new ≡ file.old → Told errors (line_of Memory) → status ≡ 2 → DoesForFile world plan path reader file errors status
