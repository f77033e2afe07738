use Rattle.std.proofs.Common.{refl}
use Rattle.counted_io.proofs.Appending.{Writes-text}
use Rattle.bpf_remote.specs.Remarks.{limit_text}
use Rattle.bpf_remote.proofs.remark.write_limit.Goals as goal

pub returns : goal.returns
unfolding limit_text
returns g c = Writes-text _ _ _ _ _ _ (c.put.ensures _ _ (c.put_decimal-counted.ensures _ _ c.write_text-named.ensures)) refl
