use Rattle.std.proofs.Common.{◌≡◌}
use Rattle.input_texts.specs.TraceForms.{are_values, words_of}
use Rattle.input_texts.proofs.TraceReading.{Values}
use Rattle.input_texts.proofs.trace_form.is_of_values.Given as goal

abbrev pub invariant-loop-k : goal.invariant-loop-k
invariant-loop-k l = Values l._k l.words ≡ are_values (words_of l.line)
