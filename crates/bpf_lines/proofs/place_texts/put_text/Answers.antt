use Rattle.std.proofs.lemmas.List.{map-set}
use Rattle.bpf_lines.proofs.place_texts.put_text.Goals as goal

pub returns-then-slot-len : goal.returns-then-slot-len
returns-then-slot-len c = map-set _ _ _ _
