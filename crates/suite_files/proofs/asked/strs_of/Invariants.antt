use Rattle.std.proofs.Common.{◌≡◌, take}
use Rattle.std.specs.List.{All}
use Rattle.std.specs.Str.{IsUtf8}
use Rattle.bpf_load.specs.Targets.{texts}
use Rattle.suite_files.proofs.asked.strs_of.Given as goal

abbrev pub invariant-loop-k : goal.invariant-loop-k
invariant-loop-k l = record {
  same : texts l.strs.items ≡ take l.k l.texts;
  utf8 : All IsUtf8 (take l.k l.texts);
}
