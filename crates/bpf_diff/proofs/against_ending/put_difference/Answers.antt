use Rattle.std.proofs.Common.{ap, refl}
use Rattle.counted_io.proofs.Appending.{WritesAfter-WritesAfter, WritesAfter-text}
use Rattle.bpf_diff.specs.Against.{difference, entry_text, other_text}
use Rattle.bpf_diff.proofs.against_ending.put_difference.Goals as goal

pub returns : goal.returns
unfolding difference
returns g c = λ before are.
    let named = WritesAfter-text g.W.Write.contents _ _ _ _ _ _ c.put_entry_here-named.ensures (ap (entry_text c.args.entry) c.entry_in.ensures) in
    let told = WritesAfter-WritesAfter g.W.Write.contents _ _ _ _ _ _ _ _ _ named c.put-told.ensures refl in
    let value = WritesAfter-text g.W.Write.contents _ _ _ _ _ _ c.put_value-both.ensures (ap (other_text c.args.entry) c.value_in.ensures) in
    let both = WritesAfter-WritesAfter g.W.Write.contents _ _ _ _ _ _ _ _ _ told value refl in
    let parted = WritesAfter-WritesAfter g.W.Write.contents _ _ _ _ _ _ _ _ _ both c.put-parted.ensures refl in
    WritesAfter-WritesAfter g.W.Write.contents _ _ _ _ _ _ _ _ _ parted (c.put_behind.ensures before are) refl
