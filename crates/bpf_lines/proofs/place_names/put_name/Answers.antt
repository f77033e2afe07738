use Rattle.std.proofs.Common.{append_assoc}
use Rattle.bpf_lines.specs.NamedMaps.{name_text}
use Rattle.bpf_lines.proofs.place_names.put_name.Goals as goal

pub returns-in-Some : goal.returns-in-Some
unfolding name_text
returns-in-Some g c =
    rw c.in-Some.is (rw (c.short_at-name.ensures.value, c.bytes.ensures, c.global_at-global.ensures) at c.put_global.ensures)

pub returns-in-None : goal.returns-in-None
unfolding name_text
returns-in-None g c = λ first front known.
    let based = rw (c.short_at-name.ensures.value, c.bytes.ensures) at (c.put_base-based.ensures first front known) in
    rw c.in-None.is (simp append_assoc at (c.put_value.ensures first _ based))
