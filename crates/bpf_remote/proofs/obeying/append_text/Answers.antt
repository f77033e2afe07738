use Rattle.std.proofs.Common.{ap}
use Rattle.bpf_remote.specs.Numbers.{hex_text}
use Rattle.bpf_remote.proofs.LineTexts.{matched-ok, matched-err}
use Rattle.bpf_remote.proofs.Telling.{Holds-text}
use Rattle.bpf_remote.proofs.obeying.append_text.Goals as goal

pub returns-in-Ok : goal.returns-in-Ok
returns-in-Ok c = matched-ok _ _ _ _ c.in-Ok.is (Holds-text _ _ _ (c.append_hex.ensures _ c.requires) (ap hex_text c.as_slice.ensures.value))

pub returns-in-Err : goal.returns-in-Err
returns-in-Err c = matched-err _ _ _ _ c.in-Err.is (c.append_error.ensures _ c.requires)
