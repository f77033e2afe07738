use Rattle.std.proofs.Common.{ap, ◌∙◌}
use Rattle.bpf_remote.specs.Numbers.{hex_text}
use Rattle.bpf_remote.proofs.Telling.{Holds-text}
use Rattle.bpf_remote.proofs.obeying.append_help.Goals as goal

pub returns : goal.returns
returns c = Holds-text _ _ _ (c.append_hex.ensures _ c.requires) (ap hex_text (c.as_bytes.ensures.value ∙ c.help.ensures))
