use Rattle.std.proofs.Common.{◌≡◌, ◌++◌, drop, flat_map}
use Rattle.answer_forms.specs.Json.{escaped}
use Rattle.answer_forms.proofs.string.push_escaped.Given as goal

abbrev pub invariant-loop-byte : goal.invariant-loop-byte
invariant-loop-byte l = l.out.items ++ flat_map escaped (drop l.byte-index l.text) ≡ l.fn.out.items ++ flat_map escaped l.text
