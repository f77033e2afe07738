-- What is asked of a history, as its caller says it.
use Rattle.std.specs.Prelude.{ℕ, List}
use Rattle.bpf_whynot.specs.Answers.{Query}
use Rattle.bpf_whynot.specs.declared.search.Search.{Search}

-- With the slots whose flags it has.
abbrev pub query : Search → List ℕ → Query
query s goals = record { goals = goals; made = s.made; question = s.question; alone = s.alone }
