use Rattle.bpf_load.proofs.ProgramKinds.{programs_are_words as law}
use Rattle.bpf_load.proofs.laws.programs_are_words.Goals as goal

pub returns : goal.returns
returns c = law
