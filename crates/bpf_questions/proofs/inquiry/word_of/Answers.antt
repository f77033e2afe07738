use Rattle.bpf_questions.proofs.Words.{no-word, some-word}
use Rattle.bpf_questions.proofs.inquiry.word_of.Goals as goal

pub returns-clause-some : goal.returns-clause-some
returns-clause-some c =
    some-word c.args.line.now c.trim_start-rest.result.now _ _ c.trim_start-rest.ensures
    (rw c.find_blank.ensures.value at c.split_at.ensures.front) (rw c.find_blank.ensures.value at c.split_at.ensures.back)

pub returns-clause-none : goal.returns-clause-none
returns-clause-none c =
    no-word c.args.line.now c.trim_start-rest.result.now _ _ c.trim_start-rest.ensures
    (rw c.find_blank.ensures.value at c.split_at.ensures.front) (rw c.find_blank.ensures.value at c.split_at.ensures.back)
    (rw c.find_blank.ensures.value at c.find_blank.ensures.within)
