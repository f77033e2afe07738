-- The names of the parts of a test that can be shown.
use Rattle.std.specs.Prelude.{ℕ, List, codes}
use Rattle.bpfdb_options.specs.declared.test_part.TestPart.{TestPart}
use Rattle.bpfdb_options.specs.declared.test_part.TestPart.TheVariants.{Program, Context, Options, Script}

-- As `--show` takes them.
abbrev pub test_part_name : TestPart → List ℕ
test_part_name Program = codes "program"
test_part_name Context = codes "context"
test_part_name Options = codes "options"
test_part_name Script = codes "script"
